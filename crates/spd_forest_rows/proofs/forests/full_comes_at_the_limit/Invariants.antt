use Rattle.spd_forest_rows.proofs.forests.full_comes_at_the_limit.Given as goal

abbrev pub ghosts-three_leaves : goal.ghosts-three_leaves
ghosts-three_leaves g a = record { name = a.blank.name; parts = a.blank.parts }
