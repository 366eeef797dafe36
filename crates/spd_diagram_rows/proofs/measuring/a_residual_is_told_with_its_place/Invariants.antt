use Rattle.spd_diagram_rows.proofs.measuring.a_residual_is_told_with_its_place.Given as goal

abbrev pub ghosts-alone : goal.ghosts-alone
ghosts-alone g a = record { name = a.blank.name; parts = a.blank.parts }
