use Rattle.spd_wide_rows.proofs.stages.least_room.Given as goal

abbrev pub ghosts-builds_with : goal.ghosts-builds_with
ghosts-builds_with a = record { name = a.blank.name; parts = a.blank.parts }
