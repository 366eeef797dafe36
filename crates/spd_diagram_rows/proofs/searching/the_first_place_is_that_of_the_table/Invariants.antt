use Rattle.spd_diagram_rows.proofs.searching.the_first_place_is_that_of_the_table.Given as goal

abbrev pub ghosts-all_alone : goal.ghosts-all_alone
ghosts-all_alone a = record { name = a.blank.name; parts = a.blank.parts }
