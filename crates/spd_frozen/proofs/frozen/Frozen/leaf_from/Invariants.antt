use Rattle.std.proofs.Common.{◌≡◌, ◌<◌, length}
use Rattle.spd_frozen.specs.inner.Followed.{leaf_from}
use Rattle.spd_frozen.proofs.frozen.Frozen.leaf_from.Given as goal

abbrev pub invariant-loop-leaf : goal.invariant-loop-leaf
invariant-loop-leaf l = record {
  within : l.reached < length l.self;
  same : leaf_from l.self l.s l.reached ≡ leaf_from l.self l.s l.node;
}

abbrev pub decreases-loop-leaf : goal.decreases-loop-leaf
decreases-loop-leaf l = l.reached
