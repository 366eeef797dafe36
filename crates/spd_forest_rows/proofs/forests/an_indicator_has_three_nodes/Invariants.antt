use Rattle.spd_forest_rows.proofs.forests.an_indicator_has_three_nodes.Given as goal

abbrev pub ghosts-indicator_alone : goal.ghosts-indicator_alone
ghosts-indicator_alone g a = record { name = a.blank.name; parts = a.blank.parts }
