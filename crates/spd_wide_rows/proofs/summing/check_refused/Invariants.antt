use Rattle.spd_wide_rows.proofs.summing.check_refused.Given as goal

abbrev pub ghosts-sums_with : goal.ghosts-sums_with
ghosts-sums_with a = record { name = a.blank.name; parts = a.blank.parts }
