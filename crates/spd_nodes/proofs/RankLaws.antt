-- How many levels a tree has at most.
use Rattle.std.proofs.Common.{◌≡◌, ℕ, ◌+◌, ◌-◌, ◌<◌, inl, inr, List, arith, true, subst}
use Rattle.spd_cons_core.specs.declared.key.Entry.{Entry}
use Rattle.spd_nodes.specs.Levels.{levels_of, after, slots}
use Rattle.spd_nodes.specs.Shown.{Shown, IsSound}
use Rattle.spd_nodes.specs.Trees.{Tree, Ends, Tests, IsFrom, IsAt, IsReduced, tree_rank}
use Rattle.spd_nodes.proofs.TreeLaws.{after_above}

pub rank-from : (ds : List ℕ) (l e : ℕ) (t : Tree) → l < levels_of ds → l < e → IsFrom ds 0 e t → tree_rank ds t < levels_of ds - l
rank-from ds l e (Ends a) h i f = omega arith
rank-from ds l e (Tests k y n) h i f = omega (arith, f.0)

pub rank-at : (ds : List ℕ) (l : ℕ) (t : Tree) → l < levels_of ds → IsAt (l + 1) t → tree_rank ds t < levels_of ds - l
rank-at ds l (Ends a) h f = absurd f
rank-at ds l (Tests k y n) h f = omega (arith, f)

module _ (ds : List ℕ) (l : ℕ) (y n : Tree) (r : IsReduced ds 0 (Tests l y n)) where
  within : l < levels_of ds
  within = omega (arith, r.1)

  past : l < after ds (l - 0)
  past = let z : l - 0 ≡ l = omega arith in rw z (after_above ds l within)

  pub rank-yes : tree_rank ds y < levels_of ds - l
  rank-yes = rank-from ds l (0 + after ds (l - 0)) y within (omega (arith, past)) r.3

  pub rank-no : tree_rank ds n < levels_of ds - l
  rank-no = elim r.4 [ inl f ↦ rank-from ds l (0 + after ds (l - 0)) n within (omega (arith, past)) f | inr f ↦ rank-at ds l n within f.0 ]

-- the children of a known test have fewer levels
pub rank-view : (s : Shown) → IsSound s → (r y n : Entry) (l : ℕ) → s.knows r ≡ true → s.tree r ≡ Tests l (s.tree y) (s.tree n)
    → (tree_rank (slots s.sizes) (s.tree y) < tree_rank (slots s.sizes) (s.tree r)) × (tree_rank (slots s.sizes) (s.tree n) < tree_rank (slots s.sizes) (s.tree r))
rank-view s o r y n l k e =
    let h : IsReduced (slots s.sizes) 0 (Tests l (s.tree y) (s.tree n)) = subst (λ t. IsReduced (slots s.sizes) 0 t) e (o.reduced r k) in
    rw e (rank-yes (slots s.sizes) l (s.tree y) (s.tree n) h, rank-no (slots s.sizes) l (s.tree y) (s.tree n) h)
