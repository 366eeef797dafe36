use Rattle.spd_diagram_rows.proofs.choosing.the_first_of_the_greatest_is_chosen.Given as goal

abbrev pub ghosts-alone : goal.ghosts-alone
ghosts-alone g a = record { name = a.blank.name; parts = a.blank.parts }
