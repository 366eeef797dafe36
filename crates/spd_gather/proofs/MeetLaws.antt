-- How trees that may meet go on at their lowest level.
use Rattle.std.proofs.Common.{◌≡◌, ℕ, ◌+◌, ◌-◌, ◌<◌, ◌≤◌, ◌⊎◌, inl, inr, Bool, true, false, List, [], ◌∷◌, map, refl, sym, ◌∙◌, subst, arith}
use Rattle.std.specs.Prelude.{nat_lt}
use Rattle.std.proofs.lemmas.Bool.Decides.{nat_tests}
use Rattle.spd_nodes.specs.declared.leaf.Leaf.{Leaf}
use Rattle.spd_nodes.specs.declared.leaf.Leaf.TheVariants.{Act}
use Rattle.spd_nodes.specs.Levels.{levels_of, after}
use Rattle.spd_nodes.specs.Trees.{Tree, Ends, Tests, IsFrom, IsAt, IsReduced, IsAtOrPast, tree_rank}
use Rattle.spd_nodes.proofs.CallerLemmas.{after_above, after_le, at-from, level_of-reduced}
use Rattle.spd_apply.specs.Halves.{yes_at, no_at, IsNotBefore}
use Rattle.spd_apply.proofs.CallerLemmas.{Splits, half-no, half-yes}
use Rattle.spd_gather.specs.Down.{Each, Stands, FitsAt, at_leaves}
use Rattle.spd_gather.specs.Meeting.{Meet, OneAt, IsLowest, list_rank}
use Rattle.spd_gather.proofs.DownLaws.{each-map, each-weaker, each-both, fits-of, splits, no-fits, no-from, leaves-end}

-- a tree that tests the level, with what holds of each
pub record Found (P : Tree → Type 0) (l : ℕ) : Type 0 where
  pub tree : Tree
  pub holds : P tree
  pub is_at : IsAt l tree

pub one-found : (P : Tree → Type 0) (l : ℕ) (ts : List Tree) → OneAt l ts → Each P ts → Found P l
one-found P l [] h a = absurd h
one-found P l (t ∷ ts) (inl h) a = record { tree = t; holds = a.0; is_at = h }
one-found P l (t ∷ ts) (inr h) a = one-found P l ts h a.1

-- levels of which one is tested first
pub one-rank : (ds : List ℕ) (l : ℕ) (ts : List Tree) → Each (IsReduced ds 0) ts → OneAt l ts → (levels_of ds - l ≤ list_rank ds ts) × (l < levels_of ds)
one-rank ds l [] r h = absurd h
one-rank ds l (Ends a ∷ ts) r (inl h) = absurd h
one-rank ds l (Tests k y n ∷ ts) r (inl h) = let b : k < levels_of ds = level_of-reduced ds k y n r.0 in (omega arith, omega arith)
one-rank ds l (t ∷ ts) r (inr h) = let q = one-rank ds l ts r.1 h in (omega (arith, q.0), q.1)

rank-all : (ds : List ℕ) (k : ℕ) (ts : List Tree) → Each (λ t. tree_rank ds t < k) ts → 0 < k → list_rank ds ts < k
rank-all ds k [] h b = b
rank-all ds k (t ∷ ts) h b = let i : list_rank ds ts < k = rank-all ds k ts h.1 b in omega (arith, h.0)

first-leaf : List Leaf → Leaf
first-leaf ls = Act 0

split-at : (ds : List ℕ) (l : ℕ) → l < levels_of ds → (t : Tree) → FitsAt ds l t → Splits ds l t
split-at ds l b t f = splits ds (levels_of ds) (at_leaves first-leaf) (leaves-end ds first-leaf) l b t f

-- halves have fewer levels
pub rank-lowest : (ds : List ℕ) (l : ℕ) (ts : List Tree) → Each (FitsAt ds l) ts → l < levels_of ds → (list_rank ds (map (yes_at l) ts) < levels_of ds - l) × (list_rank ds (map (no_at l) ts) < levels_of ds - l)
rank-lowest ds l ts h b = (
  rank-all ds (levels_of ds - l) _ (each-map (FitsAt ds l) (λ t. tree_rank ds t < levels_of ds - l) (yes_at l) (λ t f. half-yes ds l t b (split-at ds l b t f)) ts h) (omega arith),
  rank-all ds (levels_of ds - l) _ (each-map (FitsAt ds l) (λ t. tree_rank ds t < levels_of ds - l) (no_at l) (λ t f. half-no ds l t b (split-at ds l b t f)) ts h) (omega arith),
)

module _ (ds : List ℕ) (first end : ℕ) where
  -- trees that may meet fit their lowest level
  pub meet-lowest : (l : ℕ) (ts : List Tree) → Each (IsReduced ds 0) ts → Meet ds first end ts → IsLowest l ts → l < levels_of ds → Each (FitsAt ds l) ts
  meet-lowest l ts r (inl m) i b =
      let q = one-found (IsFrom ds 0 m.from) l ts i.one_at m.each in
      let a = at-from ds m.from l q.tree q.holds q.is_at in
      each-weaker (λ t. Stands ds l t × IsFrom ds 0 m.from t) (FitsAt ds l) (fits-of ds (levels_of ds) (at_leaves first-leaf) (leaves-end ds first-leaf) l b m.from a.1) ts
      (each-both (Stands ds l) (IsFrom ds 0 m.from) ts (each-both (IsReduced ds 0) (IsNotBefore l) ts r i.none_before) m.each)
  meet-lowest l ts r (inr m) i b = (let q = one-found (IsAtOrPast ds m.level) l ts i.one_at m.each in go q.tree q.is_at q.holds)
    where
      up : m.level < after ds m.level
      up = after_above ds m.level m.within

      same : (t : Tree) → IsAt m.level t → IsAt l t → m.level ≡ l
      same (Ends a) f g = absurd f
      same (Tests k y n) f g = sym f ∙ g

      whole : after ds m.level ≤ l → (t : Tree) → IsNotBefore l t × IsAtOrPast ds m.level t → IsFrom ds 0 (after ds m.level) t
      whole q t (n, inl f) = f
      whole q (Ends a) (n, inr f) = tt
      whole q (Tests k y m) (n, inr f) = absurd (omega (arith, n, f, up))

      go : (t : Tree) → IsAt l t → IsAtOrPast ds m.level t → Each (FitsAt ds l) ts
      go t at (inr f) = subst (λ j. Each (FitsAt ds j) ts) (same t f at) (each-both (IsReduced ds 0) (IsAtOrPast ds m.level) ts r m.each)
      go t at (inl f) =
          let a = at-from ds (after ds m.level) l t f at in
          let w : Each (IsFrom ds 0 (after ds m.level)) ts = each-weaker (λ t. IsNotBefore l t × IsAtOrPast ds m.level t) (IsFrom ds 0 (after ds m.level)) (whole a.0) ts (each-both (IsNotBefore l) (IsAtOrPast ds m.level) ts i.none_before m.each) in
          each-weaker (λ t. Stands ds l t × IsFrom ds 0 (after ds m.level) t) (FitsAt ds l) (fits-of ds (levels_of ds) (at_leaves first-leaf) (leaves-end ds first-leaf) l b (after ds m.level) a.1) ts
          (each-both (Stands ds l) (IsFrom ds 0 (after ds m.level)) ts (each-both (IsReduced ds 0) (IsNotBefore l) ts r i.none_before) w)

  -- Their halves may meet too, at a level outside those from `first` to below `end`; `first` isn't inside a slot.
  pub meets : (next : (l : ℕ) → l < first → l + 1 < after ds l → l + 1 < first) (l : ℕ) (ts : List Tree) → l < levels_of ds → Each (FitsAt ds l) ts → (l < first) ⊎ (end ≤ l)
      → Meet ds first end (map (yes_at l) ts) × Meet ds first end (map (no_at l) ts)
  meets next l ts b h o = (inl (record { from = after ds l; each = each-map (FitsAt ds l) (IsFrom ds 0 (after ds l)) (yes_at l) (λ t f. (split-at ds l b t f).yes_from) ts h }), go (nat_lt (l + 1) (after ds l)) refl)
    where
      outside : l + 1 < after ds l → (l < first) ⊎ (end ≤ l) → (l + 1 < first) ⊎ (end ≤ l + 1)
      outside i (inl a) = inl (next l a i)
      outside i (inr a) = inr (omega arith)

      in-levels : l + 1 < after ds l → l + 1 < levels_of ds
      in-levels i = omega (arith, after_le ds l)

      go : (z : Bool) → nat_lt (l + 1) (after ds l) ≡ z → Meet ds first end (map (no_at l) ts)
      go true z =
          let i : l + 1 < after ds l = grind (arith, nat_tests) in
          inr (record {
            level = l + 1;
            within = in-levels i;
            outside = outside i o;
            each = each-weaker (FitsAt ds (l + 1)) (IsAtOrPast ds (l + 1)) (λ t f. f.1) (map (no_at l) ts) (each-map (FitsAt ds l) (FitsAt ds (l + 1)) (no_at l) (λ t f. no-fits ds (levels_of ds) (at_leaves first-leaf) (leaves-end ds first-leaf) l b i t f) ts h);
          })
      go false z =
          let i : after ds l ≤ l + 1 = grind (arith, nat_tests) in
          inl (record { from = after ds l; each = each-map (FitsAt ds l) (IsFrom ds 0 (after ds l)) (no_at l) (no-from ds (levels_of ds) (at_leaves first-leaf) (leaves-end ds first-leaf) l b i) ts h })
