use Rattle.std.proofs.Common.{◌≡◌, take}
use Rattle.spd_gather.specs.Lists.{IsSplit}
use Rattle.spd_gather.proofs.halves.split.Given as goal

abbrev pub invariant-loop-i : goal.invariant-loop-i
invariant-loop-i g l = record {
  same : g.F.Forest.shows l.forest ≡ g.F.Forest.shows l.fn.forest;
  keeps : g.F.Forest.kept l.forest ≡ g.F.Forest.kept l.fn.forest;
  split : IsSplit (g.F.Forest.shows l.fn.forest) (take l.i l.fn.list) l.sides;
}
