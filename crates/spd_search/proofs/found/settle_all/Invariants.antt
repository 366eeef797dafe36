use Rattle.std.proofs.Common.{◌≡◌, length}
use Rattle.spd_search.specs.inner.Looking.{leaf_in}
use Rattle.spd_search.specs.inner.Barren.{AreBarren}
use Rattle.spd_search.proofs.FoundLaws.{Along}
use Rattle.spd_search.proofs.found.settle_all.Given as goal

-- the values so far begin the first state
abbrev pub invariant-loop-var : goal.invariant-loop-var
invariant-loop-var g l = record {
  same : g.F.Forest.shows l.forest ≡ g.F.Forest.shows l.fn.forest;
  keeps : g.F.Forest.kept l.forest ≡ g.F.Forest.kept l.fn.forest;
  barren : AreBarren (leaf_in (g.W.Wanted.wants l.wanted)) (g.F.Forest.shows l.fn.forest) l.barren;
  count : length l.first.items ≡ l.var;
  along : Along (g.F.Forest.shows l.fn.forest).sizes (g.W.Wanted.wants l.wanted) ((g.F.Forest.shows l.fn.forest).tree l.r) l.first.items l.leaf;
}
