use Rattle.std.proofs.Common.{◌≡◌, take}
use Rattle.spd_apply.proofs.LeavesLaws.{Gathers}
use Rattle.spd_apply.proofs.leaves.leaves_of.Given as goal

abbrev pub invariant-loop-r : goal.invariant-loop-r
invariant-loop-r g l = record {
  same : g.F.Forest.shows l.forest ≡ g.F.Forest.shows l.fn.forest;
  keeps : g.F.Forest.kept l.forest ≡ g.F.Forest.kept l.fn.forest;
  gathers : Gathers (g.F.Forest.shows l.fn.forest) (take l.r-index l.r-items) l.leaves.items;
}
