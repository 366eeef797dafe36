use Rattle.spd_diagram_rows.proofs.groves.a_grove_gives_the_same_tables.Given as goal

abbrev pub ghosts-all_in : goal.ghosts-all_in
ghosts-all_in a = record { name = a.blank.name; parts = a.blank.parts }
