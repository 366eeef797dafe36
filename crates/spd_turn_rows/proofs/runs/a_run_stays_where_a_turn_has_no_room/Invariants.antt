use Rattle.spd_turn_rows.proofs.runs.a_run_stays_where_a_turn_has_no_room.Given as goal

abbrev pub ghosts-built_of : goal.ghosts-built_of
ghosts-built_of g a = record { name = a.blank.name; parts = a.blank.parts }
