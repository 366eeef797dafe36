use Rattle.std.proofs.Common.{◌≡◌, map, take}
use Rattle.spd_nodes.specs.Shown.{meaning}
use Rattle.spd_frozen.specs.Mixed.{mixed_of}
use Rattle.spd_build.proofs.building.freeze_weights.Given as goal

abbrev pub invariant-loop-r : goal.invariant-loop-r
invariant-loop-r g l = record {
  lists : l.lists.items ≡ map (λ r. mixed_of (g.F.Forest.shows l.fn.forest).sizes (meaning (g.F.Forest.shows l.fn.forest) r)) (take l.r-index l.refs);
  same : g.F.Forest.shows l.forest ≡ g.F.Forest.shows l.fn.forest;
  keeps : g.F.Forest.kept l.forest ≡ g.F.Forest.kept l.fn.forest;
}
