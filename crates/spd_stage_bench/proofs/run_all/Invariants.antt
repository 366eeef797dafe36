use Rattle.spd_stage_bench.proofs.run_all.Given as goal

abbrev pub ghosts-run : goal.ghosts-run
ghosts-run a = record { name = a.blank.name; parts = a.blank.parts }

abbrev pub ghosts-measure_build : goal.ghosts-measure_build
ghosts-measure_build a = record { name = a.blank.name; parts = a.blank.parts }
