use Rattle.spd_grove_bench.proofs.made_by.Given as goal

abbrev pub ghosts-ask : goal.ghosts-ask
ghosts-ask a = record { name = a.blank.name; parts = a.blank.parts }
