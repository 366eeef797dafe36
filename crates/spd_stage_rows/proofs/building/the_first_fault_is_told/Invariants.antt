use Rattle.spd_stage_rows.proofs.building.the_first_fault_is_told.Given as goal

abbrev pub ghosts-built_alone : goal.ghosts-built_alone
ghosts-built_alone g a = record { name = a.blank.name; parts = a.blank.parts }
