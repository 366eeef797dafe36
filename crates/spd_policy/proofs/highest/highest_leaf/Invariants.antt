use Rattle.std.proofs.Common.{◌≡◌, map, take}
use Rattle.spd_policy.specs.Choosing.{greatest_leaf}
use Rattle.spd_policy.proofs.LeafLaws.{leaf_at}
use Rattle.spd_policy.proofs.highest.highest_leaf.Given as goal

abbrev pub invariant-loop-i : goal.invariant-loop-i
invariant-loop-i g l = record {
  same : g.F.Forest.shows l.forest ≡ g.F.Forest.shows l.fn.forest;
  keeps : g.F.Forest.kept l.forest ≡ g.F.Forest.kept l.fn.forest;
  leaf : l.best ≡ greatest_leaf (map (leaf_at (g.F.Forest.shows l.fn.forest)) (take l.i l.fn.list));
}
