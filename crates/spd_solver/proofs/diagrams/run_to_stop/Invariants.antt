use Rattle.std.proofs.Common.{◌-◌}
use Rattle.spd_solver.specs.inner.Stages.{IsOf}
use Rattle.spd_solver.proofs.diagrams.run_to_stop.Given as goal

abbrev pub invariant-loop-why : goal.invariant-loop-why
invariant-loop-why g l = IsOf l.initial.run.process l.initial.run.options l.run

abbrev pub decreases-loop-why : goal.decreases-loop-why
decreases-loop-why g l = l.run.options.turns - l.run.iterate.turn
