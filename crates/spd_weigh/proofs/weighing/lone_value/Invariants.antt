use Rattle.std.proofs.Common.{◌≡◌, IfSome, true}
use Rattle.spd_nodes.specs.Shown.{Shown}
use Rattle.spd_gather.specs.Lists.{AreKnown}
use Rattle.spd_weigh.proofs.weighing.lone_value.Given as goal

abbrev pub invariant-loop-v : goal.invariant-loop-v
invariant-loop-v l = (s : Shown) → AreKnown s l.fn.list → IfSome l.lone (λ r. s.knows r ≡ true)
