use Rattle.std.proofs.Common.{◌≡◌, All, take}
use Rattle.spd_backup.specs.Exact.{HasExactLeaves, HaveExactLeaves}
use Rattle.spd_backup.proofs.exact.are_exact.Given as goal

abbrev pub invariant-loop-r : goal.invariant-loop-r
invariant-loop-r g l = record {
  same : g.F.Forest.shows l.forest ≡ g.F.Forest.shows l.fn.forest;
  keeps : g.F.Forest.kept l.forest ≡ g.F.Forest.kept l.fn.forest;
  seen : HaveExactLeaves l.fn.ratio (g.F.Forest.shows l.fn.forest) l.seen;
  leaves : All (λ r. HasExactLeaves l.fn.ratio ((g.F.Forest.shows l.fn.forest).tree r)) (take l.r-index l.fn.refs);
}
