use Rattle.spd_diagram_rows.proofs.cases.a_counting_forest_gives_the_same_tables.Given as goal

abbrev pub ghosts-all_counted : goal.ghosts-all_counted
ghosts-all_counted g a = record { name = a.blank.name; parts = a.blank.parts }
