use Rattle.spd_stage_rows.proofs.limits.full_comes_until_there_is_room.Given as goal

abbrev pub ghosts-has_room : goal.ghosts-has_room
ghosts-has_room g a = record { name = a.blank.name; parts = a.blank.parts }
