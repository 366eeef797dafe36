use Rattle.spd_forest_rows.proofs.forests.the_deepest_diagram_is_counted.Given as goal

abbrev pub ghosts-deepest : goal.ghosts-deepest
ghosts-deepest g a = record { name = a.blank.name; parts = a.blank.parts }
