use Rattle.spd_wide_rows.proofs.stages.check_refused.Given as goal

abbrev pub ghosts-done_with : goal.ghosts-done_with
ghosts-done_with a = record { name = a.blank.name; parts = a.blank.parts }
