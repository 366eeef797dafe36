use Rattle.spd_forest_rows.proofs.forests.conditions_are_tested.Given as goal

abbrev pub ghosts-conditions_alone : goal.ghosts-conditions_alone
ghosts-conditions_alone g a = record { name = a.blank.name; parts = a.blank.parts }
