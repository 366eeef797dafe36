use Rattle.std.proofs.Common.{◌≡◌, map, take}
use Rattle.spd_nodes.specs.Shown.{meaning}
use Rattle.spd_frozen.specs.Frozen.{frozen_of}
use Rattle.spd_build.proofs.building.freeze_rewards.Given as goal

abbrev pub invariant-loop-r : goal.invariant-loop-r
invariant-loop-r g l = record {
  lists : l.lists.items ≡ map (λ r. frozen_of (g.F.Forest.shows l.fn.forest).sizes (λ s. meaning (g.F.Forest.shows l.fn.forest) r s s)) (take l.r-index l.refs);
  same : g.F.Forest.shows l.forest ≡ g.F.Forest.shows l.fn.forest;
  keeps : g.F.Forest.kept l.forest ≡ g.F.Forest.kept l.fn.forest;
}
