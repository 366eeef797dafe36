use Rattle.spd_turn_rows.proofs.runs.a_run_stops_at_its_limit.Given as goal

abbrev pub ghosts-built_of : goal.ghosts-built_of
ghosts-built_of g a = record { name = a.blank.name; parts = a.blank.parts }
