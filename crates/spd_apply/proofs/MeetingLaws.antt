-- How two trees meet, and what an operation makes of them that goes down from the lower of their levels.
use Rattle.std.proofs.Common.{◌≡◌, ℕ, zero, suc, ◌+◌, ◌<◌, ◌≤◌, ◌⊎◌, inl, inr, ◌==◌, true, false, cond, List, refl, sym, subst, arith}
use Rattle.std.specs.Prelude.{nat_lt}
use Rattle.std.proofs.lemmas.Bool.Decides.{nat_tests}
use Rattle.spd_nodes.specs.Levels.{levels_of, after, is_first}
use Rattle.spd_nodes.specs.Trees.{Tree, Ends, Tests, IsFrom, IsAt, IsReduced, CanTest, join, IsAtOrPast}
use Rattle.spd_apply.specs.Halves.{yes_at, no_at, AreLeaves, IsNotBefore, IsAligned}
use Rattle.spd_apply.specs.Rules.{Making}
use Rattle.spd_nodes.proofs.CallerLemmas.{after_le, after-next, level_of-reduced, Joins, joins, IsFrom-at, IsFrom-lower, at-from, after_above}
use Rattle.std.proofs.lemmas.Bool.{cases_order, ne_eqb}
use Rattle.spd_apply.proofs.HalfLaws.{Splits, splits-at, splits-past, aligned-from, aligned-fits, eq-refl, not-before-lower}

-- the lower of the levels that two trees test first
abbrev pub top_of : Tree → Tree → ℕ
top_of (Ends a) (Ends b) = 0
top_of (Ends a) (Tests l v m) = l
top_of (Tests k y n) (Ends b) = k
top_of (Tests k y n) (Tests l v m) = cond (nat_lt l k) l k

abbrev pub tree_size : Tree → ℕ
tree_size (Ends a) = 1
tree_size (Tests l y n) = suc (tree_size y + tree_size n)

-- a level that two trees meet first, and the halves there
pub record Meets (ds : List ℕ) (l : ℕ) (t u : Tree) : Type 0 where
  pub level : l < levels_of ds
  pub left : Splits ds l t
  pub right : Splits ds l u
  pub left_from : IsNotBefore l t
  pub right_from : IsNotBefore l u
  pub one_at : IsAt l t ⊎ IsAt l u
  pub smaller_yes : tree_size (yes_at l t) + tree_size (yes_at l u) < tree_size t + tree_size u
  pub smaller_no : tree_size (no_at l t) + tree_size (no_at l u) < tree_size t + tree_size u

meets-equal : (ds : List ℕ) (k : ℕ) (y n v m : Tree) → IsReduced ds 0 (Tests k y n) → IsReduced ds 0 (Tests k v m) → Meets ds k (Tests k y n) (Tests k v m)
meets-equal ds k y n v m r s = record {
  level = level_of-reduced ds k y n r;
  left = splits-at ds k y n r;
  right = splits-at ds k v m s;
  left_from = omega arith;
  right_from = omega arith;
  one_at = inl refl;
  smaller_yes = rw (eq-refl k) (omega arith);
  smaller_no = rw (eq-refl k) (omega arith);
}

meets-left : (ds : List ℕ) (k : ℕ) (y n u : Tree) → IsReduced ds 0 (Tests k y n) → IsReduced ds 0 u → IsFrom ds 0 (after ds k) u → Meets ds k (Tests k y n) u
meets-left ds k y n (Ends b) r s f = record {
  level = level_of-reduced ds k y n r;
  left = splits-at ds k y n r;
  right = splits-past ds k (Ends b) (after_above ds k (level_of-reduced ds k y n r)) s f;
  left_from = omega arith;
  right_from = tt;
  one_at = inl refl;
  smaller_yes = rw (eq-refl k) (omega arith);
  smaller_no = rw (eq-refl k) (omega arith);
}
meets-left ds k y n (Tests l v m) r s f =
    let h : k < after ds k = after_above ds k (level_of-reduced ds k y n r) in
    let b : (l == k) ≡ false = ne_eqb l k (omega arith) in
    record {
      level = level_of-reduced ds k y n r;
      left = splits-at ds k y n r;
      right = splits-past ds k (Tests l v m) h s f;
      left_from = omega arith;
      right_from = omega (arith, f.0);
      one_at = inl refl;
      smaller_yes = rw (eq-refl k, b) (omega arith);
      smaller_no = rw (eq-refl k, b) (omega arith);
    }

pub meets-right : (ds : List ℕ) (l : ℕ) (t v m : Tree) → IsReduced ds 0 t → IsReduced ds 0 (Tests l v m) → IsFrom ds 0 (after ds l) t → Meets ds l t (Tests l v m)
meets-right ds l (Ends a) v m r s f = record {
  level = level_of-reduced ds l v m s;
  left = splits-past ds l (Ends a) (after_above ds l (level_of-reduced ds l v m s)) r f;
  right = splits-at ds l v m s;
  left_from = tt;
  right_from = omega arith;
  one_at = inr refl;
  smaller_yes = rw (eq-refl l) (omega arith);
  smaller_no = rw (eq-refl l) (omega arith);
}
meets-right ds l (Tests k y n) v m r s f =
    let h : l < after ds l = after_above ds l (level_of-reduced ds l v m s) in
    let b : (k == l) ≡ false = ne_eqb k l (omega arith) in
    record {
      level = level_of-reduced ds l v m s;
      left = splits-past ds l (Tests k y n) h r f;
      right = splits-at ds l v m s;
      left_from = omega (arith, f.0);
      right_from = omega arith;
      one_at = inr refl;
      smaller_yes = rw (eq-refl l, b) (omega arith);
      smaller_no = rw (eq-refl l, b) (omega arith);
    }

pub meets-cases : (ds : List ℕ) (t u : Tree) → IsReduced ds 0 t → IsReduced ds 0 u → IsAligned ds t u → AreLeaves t u ⊎ Meets ds (top_of t u) t u
meets-cases ds (Ends a) (Ends b) r s h = inl tt
meets-cases ds (Ends a) (Tests l v m) r s h = inr (meets-right ds l (Ends a) v m r s tt)
meets-cases ds (Tests k y n) (Ends b) r s h = inr (meets-left ds k y n (Ends b) r s tt)
meets-cases ds (Tests k y n) (Tests l v m) r s (inl e) =
    let a : nat_lt l k ≡ false = grind (arith, nat_tests) in
    inr (rw a (subst (λ j. IsReduced ds 0 (Tests j v m) → Meets ds k (Tests k y n) (Tests j v m)) e (λ q. meets-equal ds k y n v m r q) s))
meets-cases ds (Tests k y n) (Tests l v m) r s (inr (inl h)) =
    let a : nat_lt l k ≡ false = grind (arith, nat_tests) in
    inr (rw a (meets-left ds k y n (Tests l v m) r s h.1))
meets-cases ds (Tests k y n) (Tests l v m) r s (inr (inr h)) =
    let a : nat_lt l k ≡ true = grind (arith, nat_tests) in
    inr (rw a (meets-right ds l (Tests k y n) v m r s h.1))

size-positive : (t : Tree) → 1 ≤ tree_size t
size-positive (Ends a) = omega arith
size-positive (Tests l y n) = omega arith

-- two trees with one level in the first place
meets-fits : (ds : List ℕ) (k : ℕ) (t u : Tree) → IsReduced ds 0 t → IsReduced ds 0 u → IsAtOrPast ds k t → IsAtOrPast ds k u
    → (IsFrom ds 0 (after ds k) t × IsFrom ds 0 (after ds k) u) ⊎ Meets ds k t u
meets-fits ds k t u r s (inl f) (inl g) = inl (f, g)
meets-fits ds k (Ends a) u r s (inr f) g = absurd f
meets-fits ds k (Tests i y n) u r s (inr f) (inl g) = inr (subst (λ q. Meets ds q (Tests i y n) u) f (meets-left ds i y n u r s (subst (λ q. IsFrom ds 0 (after ds q) u) (sym f) g)))
meets-fits ds k (Tests i y n) (Ends b) r s (inr f) (inr g) = absurd g
meets-fits ds k (Tests i y n) (Tests j v m) r s (inr f) (inr g) =
    inr (subst (λ q. IsReduced ds 0 (Tests q y n) → IsReduced ds 0 (Tests j v m) → Meets ds k (Tests q y n) (Tests j v m)) (sym f)
    (subst (λ q. IsReduced ds 0 (Tests k y n) → IsReduced ds 0 (Tests q v m) → Meets ds k (Tests k y n) (Tests q v m)) (sym g) (meets-equal ds k y n v m)) r s)
meets-fits ds k t (Ends b) r s (inl f) (inr g) = absurd g
meets-fits ds k t (Tests j v m) r s (inl f) (inr g) = inr (subst (λ q. Meets ds q t (Tests j v m)) g (meets-right ds j t v m r s (subst (λ q. IsFrom ds 0 (after ds q) t) (sym g) f)))

-- leaves are before no level
leaves-left : (l : ℕ) (t u : Tree) → AreLeaves t u → IsNotBefore l t
leaves-left l (Ends a) u h = tt
leaves-left l (Tests k y n) u h = absurd h

leaves-right : (l : ℕ) (t u : Tree) → AreLeaves t u → IsNotBefore l u
leaves-right l (Ends a) (Ends b) h = tt
leaves-right l (Ends a) (Tests k v m) h = absurd h
leaves-right l (Tests k y n) u h = absurd h

-- An operation goes down in two trees before a level, where no slot lies on both sides of it: there it makes the join of what
-- it makes of the halves. Of trees that aren't before the level it makes a reduced one.
pub record GoesDown (ds : List ℕ) (stop : ℕ) (making : Making) : Type 0 where
  pub within : (l : ℕ) → l < levels_of ds → l < stop → after ds l ≤ stop
  pub is_join : (l : ℕ) (t u : Tree) → l < stop → IsNotBefore l t → IsNotBefore l u → IsAt l t ⊎ IsAt l u → making t u ≡ join l (making (yes_at l t) (yes_at l u)) (making (no_at l t) (no_at l u))
  pub bottom : (e : ℕ) (t u : Tree) → e ≤ stop → IsReduced ds 0 t → IsReduced ds 0 u → IsNotBefore stop t → IsNotBefore stop u → IsFrom ds 0 e t → IsFrom ds 0 e u
      → IsReduced ds 0 (making t u) × IsFrom ds 0 e (making t u)

-- what an operation goes on to from two trees that it may meet
pub record Descends (ds : List ℕ) (l : ℕ) (making : Making) (ty tn uy un : Tree) : Type 0 where
  pub aligned_yes : IsAligned ds ty uy
  pub aligned_no : IsAligned ds tn un
  pub can_test : CanTest ds l (making ty uy) (making tn un)

module _ (ds : List ℕ) (stop : ℕ) (making : Making) (d : GoesDown ds stop making) where
  -- what holds of the operation on trees of at most this size
  record Good (n : ℕ) : Type 0 where
    whole : (t u : Tree) → tree_size t + tree_size u ≤ n → IsReduced ds 0 t → IsReduced ds 0 u → (e : ℕ) → e ≤ stop → IsFrom ds 0 e t → IsFrom ds 0 e u
        → IsReduced ds 0 (making t u) × IsFrom ds 0 e (making t u)
    part : (t u : Tree) → tree_size t + tree_size u ≤ n → IsReduced ds 0 t → IsReduced ds 0 u → (k : ℕ) → k < levels_of ds → k < stop → IsAtOrPast ds k t → IsAtOrPast ds k u
        → IsReduced ds 0 (making t u) × IsAtOrPast ds k (making t u)

  record Children (l : ℕ) (y n : Tree) : Type 0 where
    yes_reduced : IsReduced ds 0 y
    no_reduced : IsReduced ds 0 n
    can_test : CanTest ds l y n

  children : (n : ℕ) → Good n → (l : ℕ) (t u : Tree) → tree_size t + tree_size u ≤ suc n → l < stop → Meets ds l t u
      → Children l (making (yes_at l t) (yes_at l u)) (making (no_at l t) (no_at l u))
  children n good l t u h b m =
      let y : IsReduced ds 0 (making (yes_at l t) (yes_at l u)) × IsFrom ds 0 (after ds l) (making (yes_at l t) (yes_at l u)) =
      good.whole (yes_at l t) (yes_at l u) (omega (arith, m.smaller_yes)) m.left.yes_reduced m.right.yes_reduced (after ds l) (d.within l m.level b) m.left.yes_from m.right.yes_from in
      let k : IsReduced ds 0 (making (no_at l t) (no_at l u)) × (IsFrom ds 0 (after ds l) (making (no_at l t) (no_at l u)) ⊎ (IsAt (l + 1) (making (no_at l t) (no_at l u)) × (l + 1 < after ds l))) =
      go m.left.no_fits m.right.no_fits in
      record { yes_reduced = y.0; no_reduced = k.0; can_test = record { yes_fits = y.1; no_fits = k.1 } }
    where
      next : l + 1 < after ds l → IsAtOrPast ds (l + 1) (no_at l t) → IsAtOrPast ds (l + 1) (no_at l u)
          → IsReduced ds 0 (making (no_at l t) (no_at l u)) × (IsFrom ds 0 (after ds l) (making (no_at l t) (no_at l u)) ⊎ (IsAt (l + 1) (making (no_at l t) (no_at l u)) × (l + 1 < after ds l)))
      next i f g =
          let k : IsReduced ds 0 (making (no_at l t) (no_at l u)) × IsAtOrPast ds (l + 1) (making (no_at l t) (no_at l u)) =
          good.part (no_at l t) (no_at l u) (omega (arith, m.smaller_no)) m.left.no_reduced m.right.no_reduced (l + 1) (omega (arith, after_le ds l)) (omega (arith, d.within l m.level b)) f g in
          (k.0, elim k.1 [ inl a ↦ inl (rw (after-next ds l i) at a) | inr a ↦ inr (a, i) ])

      go : (IsFrom ds 0 (after ds l) (no_at l t) ⊎ (IsAt (l + 1) (no_at l t) × (l + 1 < after ds l))) → (IsFrom ds 0 (after ds l) (no_at l u) ⊎ (IsAt (l + 1) (no_at l u) × (l + 1 < after ds l)))
          → IsReduced ds 0 (making (no_at l t) (no_at l u)) × (IsFrom ds 0 (after ds l) (making (no_at l t) (no_at l u)) ⊎ (IsAt (l + 1) (making (no_at l t) (no_at l u)) × (l + 1 < after ds l)))
      go (inl f) (inl g) =
          let k : IsReduced ds 0 (making (no_at l t) (no_at l u)) × IsFrom ds 0 (after ds l) (making (no_at l t) (no_at l u)) =
          good.whole (no_at l t) (no_at l u) (omega (arith, m.smaller_no)) m.left.no_reduced m.right.no_reduced (after ds l) (d.within l m.level b) f g in
          (k.0, inl k.1)
      go (inr f) (inr g) = next f.1 (inr f.0) (inr g.0)
      go (inr f) (inl g) = next f.1 (inr f.0) (inl (rw (after-next ds l f.1) g))
      go (inl f) (inr g) = next g.1 (inl (rw (after-next ds l g.1) f)) (inr g.0)

  joins-halves : (n : ℕ) → Good n → (l : ℕ) (t u : Tree) → tree_size t + tree_size u ≤ suc n → l < stop → Meets ds l t u → Joins ds l (making t u)
  joins-halves n good l t u h b m =
      let c : Children l (making (yes_at l t) (yes_at l u)) (making (no_at l t) (no_at l u)) = children n good l t u h b m in
      subst (λ v. Joins ds l v) (sym (d.is_join l t u b m.left_from m.right_from m.one_at)) (joins ds l _ _ m.level c.yes_reduced c.no_reduced c.can_test)

  whole_from : (l : ℕ) (t u : Tree) → Meets ds l t u → Joins ds l (making t u) → (e : ℕ) → IsFrom ds 0 e t → IsFrom ds 0 e u
      → IsReduced ds 0 (making t u) × IsFrom ds 0 e (making t u)
  whole_from l t u m j e f g =
      let a : (e ≤ l) × (is_first ds l ≡ true) = elim m.one_at [ inl i ↦ at-from ds e l t f i | inr i ↦ at-from ds e l u g i ] in
      let b : l < after ds l = after_above ds l m.level in
      (j.reduced, elim j.fits [ inl i ↦ IsFrom-lower ds e (after ds l) (making t u) (omega arith) i | inr i ↦ IsFrom-at ds e l (making t u) a.0 a.1 i ])

  step-whole : (n : ℕ) → Good n → (t u : Tree) → tree_size t + tree_size u ≤ suc n → IsReduced ds 0 t → IsReduced ds 0 u → (e : ℕ) → e ≤ stop → IsFrom ds 0 e t → IsFrom ds 0 e u
      → IsReduced ds 0 (making t u) × IsFrom ds 0 e (making t u)
  step-whole n good t u h r s e b f g =
      elim (meets-cases ds t u r s (aligned-from ds e t u r s f g)) [
        | inl q ↦ d.bottom e t u b r s (leaves-left stop t u q) (leaves-right stop t u q) f g
        | inr m ↦ go m (cases_order (top_of t u) stop)
      ]
    where
      past : Meets ds (top_of t u) t u → stop ≤ top_of t u → IsReduced ds 0 (making t u) × IsFrom ds 0 e (making t u)
      past m i = d.bottom e t u b r s (not-before-lower stop (top_of t u) t i m.left_from) (not-before-lower stop (top_of t u) u i m.right_from) f g

      go : Meets ds (top_of t u) t u → (top_of t u ≡ stop) ⊎ (top_of t u < stop) ⊎ (stop < top_of t u) → IsReduced ds 0 (making t u) × IsFrom ds 0 e (making t u)
      go m (inl i) = past m (omega arith)
      go m (inr (inl i)) = whole_from (top_of t u) t u m (joins-halves n good (top_of t u) t u h i m) e f g
      go m (inr (inr i)) = past m (omega arith)

  step-part : (n : ℕ) → Good n → (t u : Tree) → tree_size t + tree_size u ≤ suc n → IsReduced ds 0 t → IsReduced ds 0 u → (k : ℕ) → k < levels_of ds → k < stop → IsAtOrPast ds k t → IsAtOrPast ds k u
      → IsReduced ds 0 (making t u) × IsAtOrPast ds k (making t u)
  step-part n good t u h r s k i b f g =
      elim (meets-fits ds k t u r s f g) [
        | inl q ↦ (let w : IsReduced ds 0 (making t u) × IsFrom ds 0 (after ds k) (making t u) = step-whole n good t u h r s (after ds k) (d.within k i b) q.0 q.1 in (w.0, inl w.1))
        | inr m ↦ (let j : Joins ds k (making t u) = joins-halves n good k t u h b m in (j.reduced, j.fits))
      ]

  good-all : (n : ℕ) → Good n
  good-all zero = record {
    whole = λ t u h r s e b f g. absurd (omega (arith, size-positive t));
    part = λ t u h r s k i b f g. absurd (omega (arith, size-positive t));
  }
  good-all (suc n) = record { whole = step-whole n (good-all n); part = step-part n (good-all n) }

  -- of whole trees it makes a reduced whole one
  pub made-whole : (t u : Tree) → IsReduced ds 0 t → IsReduced ds 0 u → IsFrom ds 0 0 t → IsFrom ds 0 0 u → IsReduced ds 0 (making t u) × IsFrom ds 0 0 (making t u)
  made-whole t u r s f g = (good-all (tree_size t + tree_size u)).whole t u (omega arith) r s 0 (omega arith) f g

  -- the halves of two trees that it may meet are such trees, and what it makes of them may be a test's children
  pub descends : (l : ℕ) (t u : Tree) → l < stop → Meets ds l t u → Descends ds l making (yes_at l t) (no_at l t) (yes_at l u) (no_at l u)
  descends l t u b m = record {
    aligned_yes = aligned-from ds (after ds l) (yes_at l t) (yes_at l u) m.left.yes_reduced m.right.yes_reduced m.left.yes_from m.right.yes_from;
    aligned_no = aligned_next m.left.no_fits m.right.no_fits;
    can_test = (children (tree_size t + tree_size u) (good-all (tree_size t + tree_size u)) l t u (omega arith) b m).can_test;
  }
    where
      next : l + 1 < after ds l → IsAtOrPast ds (l + 1) (no_at l t) → IsAtOrPast ds (l + 1) (no_at l u) → IsAligned ds (no_at l t) (no_at l u)
      next i f g = aligned-fits ds (l + 1) (no_at l t) (no_at l u) (after_above ds (l + 1) (omega (arith, after_le ds l))) m.left.no_reduced m.right.no_reduced f g

      aligned_next : (IsFrom ds 0 (after ds l) (no_at l t) ⊎ (IsAt (l + 1) (no_at l t) × (l + 1 < after ds l))) → (IsFrom ds 0 (after ds l) (no_at l u) ⊎ (IsAt (l + 1) (no_at l u) × (l + 1 < after ds l)))
          → IsAligned ds (no_at l t) (no_at l u)
      aligned_next (inl f) (inl g) = aligned-from ds (after ds l) (no_at l t) (no_at l u) m.left.no_reduced m.right.no_reduced f g
      aligned_next (inr f) (inr g) = next f.1 (inr f.0) (inr g.0)
      aligned_next (inr f) (inl g) = next f.1 (inr f.0) (inl (rw (after-next ds l f.1) g))
      aligned_next (inl f) (inr g) = next g.1 (inl (rw (after-next ds l g.1) f)) (inr g.0)
