use Rattle.spd_diagram_rows.proofs.weighing.sums_and_products_are_rounded.Given as goal

abbrev pub ghosts-alone : goal.ghosts-alone
ghosts-alone g a = record { name = a.blank.name; parts = a.blank.parts }
