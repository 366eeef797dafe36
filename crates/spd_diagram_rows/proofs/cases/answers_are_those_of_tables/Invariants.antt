use Rattle.spd_diagram_rows.proofs.cases.answers_are_those_of_tables.Given as goal

abbrev pub ghosts-all_alone : goal.ghosts-all_alone
ghosts-all_alone a = record { name = a.blank.name; parts = a.blank.parts }
