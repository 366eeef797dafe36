use Rattle.std.proofs.Common.{◌≡◌, ◌<◌, ◌++◌, ◌∷◌, [], ℕ, None}
use Rattle.spd_search.specs.inner.Looking.{leaf_in, leaf_under}
use Rattle.spd_search.specs.inner.Barren.{AreBarren}
use Rattle.spd_search.proofs.found.settle.Given as goal

-- no value before this one leads to a leaf that is wanted
abbrev pub invariant-loop-value : goal.invariant-loop-value
invariant-loop-value g l = record {
  same : g.F.Forest.shows l.forest ≡ g.F.Forest.shows l.fn.forest;
  keeps : g.F.Forest.kept l.forest ≡ g.F.Forest.kept l.fn.forest;
  barren : AreBarren (leaf_in (g.W.Wanted.wants l.wanted)) (g.F.Forest.shows l.fn.forest) l.barren;
  first : l.first.items ≡ l.fn.first.items;
  before : (v : ℕ) → v < l.value → leaf_under (g.F.Forest.shows l.fn.forest).sizes (g.W.Wanted.wants l.wanted) (l.fn.first.items ++ v ∷ []) ((g.F.Forest.shows l.fn.forest).tree l.r) ≡ None;
}
