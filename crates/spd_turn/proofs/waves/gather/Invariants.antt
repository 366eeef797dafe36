use Rattle.std.proofs.Common.{◌≡◌}
use Rattle.spd_turn.specs.Waves.{Gathered}
use Rattle.spd_turn.proofs.waves.gather.Given as goal

abbrev pub invariant-loop-job : goal.invariant-loop-job
invariant-loop-job l = record {
  gathered : Gathered l.initial.grove l.initial.lanes.items l.initial.bounds.items l.yielded l.grove l.lanes.items l.bounds.items l.fault;
  lanes_cap : l.lanes.cap ≡ l.initial.lanes.cap;
  bounds_cap : l.bounds.cap ≡ l.initial.bounds.cap;
}
