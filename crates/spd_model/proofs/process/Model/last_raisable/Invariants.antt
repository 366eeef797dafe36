use Rattle.std.proofs.Common.{◌≡◌, ◌+◌, ◌≤◌, length, drop}
use Rattle.spd_model.specs.States.{sizes, rank, state_count}
use Rattle.spd_model.proofs.process.Model.last_raisable.Given as goal

abbrev pub invariant-loop-var : goal.invariant-loop-var
invariant-loop-var l = record {
  near : l.var ≤ length (sizes l.self);
  last : rank (drop l.var (sizes l.self)) (drop l.var l.s) + 1 ≡ state_count (drop l.var (sizes l.self));
}

abbrev pub decreases-loop-var : goal.decreases-loop-var
decreases-loop-var l = l.var
