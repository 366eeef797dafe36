use Rattle.std.proofs.Common.{◌≡◌, ◌<◌, ◌+◌, length}
use Rattle.spd_frozen.specs.Frozen.{leaf_at}
use Rattle.spd_frozen.specs.inner.Followed.{leaf_from}
use Rattle.spd_frozen.proofs.frozen.Frozen.at_both.Given as goal

abbrev pub invariant-loop-kid : goal.invariant-loop-kid
invariant-loop-kid l = record {
  one_within : l.one < length l.self;
  two_within : l.two < length l.other;
  one_same : leaf_from l.self l.s l.one ≡ leaf_at l.self l.s;
  two_same : leaf_from l.other l.s l.two ≡ leaf_at l.other l.s;
}

abbrev pub decreases-loop-kid : goal.decreases-loop-kid
decreases-loop-kid l = l.one + l.two
