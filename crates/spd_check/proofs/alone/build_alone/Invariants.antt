use Rattle.spd_check.proofs.alone.build_alone.Given as goal

abbrev pub ghosts-build_uncounted : goal.ghosts-build_uncounted
ghosts-build_uncounted a = record { name = a.blank.name; parts = a.blank.parts }
