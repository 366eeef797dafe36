-- What is summed out is reduced, and has the sum's value at each point.
use Rattle.std.proofs.Common.{◌≡◌, ℕ, zero, suc, ◌+◌, ◌-◌, ◌/◌, ◌<◌, ◌≤◌, ◌⊎◌, inl, inr, ◌==◌, Bool, true, false, cond, List, [], ◌∷◌, map, set, refl, ◌∙◌, ap, arith}
use Rattle.std.specs.Prelude.{nat_lt}
use Rattle.std.proofs.lemmas.Bool.Decides.{nat_tests, Decides-eqb}
use Rattle.spd_model.specs.States.{IsState}
use Rattle.spd_nodes.specs.declared.leaf.Leaf.{Leaf}
use Rattle.spd_nodes.specs.Levels.{levels_of, passes, after, IsSlot}
use Rattle.spd_nodes.specs.Trees.{Tree, Ends, Tests, IsFrom, IsAt, IsReduced, value_at}
use Rattle.spd_nodes.proofs.CallerLemmas.{IsFrom-lower, Parts, after-before, first-in, parts, passes-before}
use Rattle.spd_apply.specs.Halves.{yes_at, no_at}
use Rattle.spd_apply.proofs.CallerLemmas.{not-before-from}
use Rattle.spd_restrict.specs.Restricted.{cofactored, IsUpTo}
use Rattle.spd_restrict.specs.Replaced.{IsWholeFrom}
use Rattle.spd_restrict.proofs.CallerLemmas.{good-cofactored, value-no, value-yes, value_at-cofactored, whole-at, whole-from}
use Rattle.spd_gather.specs.Down.{Each, Stands, EndsAt, at_leaves}
use Rattle.spd_gather.proofs.CallerLemmas.{down-whole, each-both, each-weaker, good, leaves-end, stands-half, value_at-down, value_at-each, values_at}
use Rattle.spd_weigh.specs.Summed.{taken, at_slot, summed}

-- the values of trees at a point whose slot has one value for each two trees in turn
abbrev pub slot_values : List ℕ → ℕ → List ℕ → ℕ → List Tree → List Leaf
slot_values ds slot p i [] = []
slot_values ds slot p i (t ∷ ts) = value_at ds 0 t (set p slot (i / 2)) ∷ slot_values ds slot p (i + 1) ts

module _ (ds : List ℕ) (slot first end : ℕ) (s : IsSlot ds slot first end) where
  -- a reduced tree that isn't before a level and is whole at the slot
  abbrev pub Comes : ℕ → Tree → Type 0
  Comes l t = Stands ds l t × IsWholeFrom ds first t

  -- its halves before the slot are such trees
  pub comes-half : (l : ℕ) (t : Tree) → l < first → Comes l t → Comes (l + 1) (yes_at l t) × Comes (l + 1) (no_at l t)
  comes-half l (Ends a) b h = (((tt, tt), tt), ((tt, tt), tt))
  comes-half l (Tests k y n) b h = let w = stands-half ds l (Tests k y n) h.0 in go w (k == l) refl
    where
      q : Parts ds k y n
      q = parts ds k y n h.0.0

      go : Stands ds (l + 1) (yes_at l (Tests k y n)) × Stands ds (l + 1) (no_at l (Tests k y n)) → (z : Bool) → (k == l) ≡ z → Comes (l + 1) (cond z y (Tests k y n)) × Comes (l + 1) (cond z n (Tests k y n))
      go w true z =
          let e : k ≡ l = (Decides-eqb k l).0 z in
          let v = rw z at w in (
            (v.0, whole-from ds first (after ds k) y q.yes_from),
            (v.1, elim q.no_fits [ inl f ↦ whole-from ds first (after ds k) n f | inr f ↦ whole-at ds first (k + 1) n (omega (arith, f.1, after-before ds slot first end k s (omega arith))) f.0 ]),
          )
      go w false z = let v = rw z at w in ((v.0, h.1), (v.1, h.1))

  -- what such a tree at the slot is at one of its values
  pub record Taken (value : ℕ) (t : Tree) : Type 0 where
    pub reduced : IsReduced ds 0 (cofactored first end value t)
    pub from : IsFrom ds 0 end (cofactored first end value t)
    pub values : (p : List ℕ) → IsState ds p → value_at ds 0 (cofactored first end value t) p ≡ value_at ds 0 t (set p slot value)

  past-from : (t : Tree) → Comes first t → IsFrom ds 0 end t ⊎ ((k : ℕ) × (first ≤ k) × (k < end) × IsAt k t)
  past-from (Ends a) h = inl tt
  past-from (Tests l y n) h = go (nat_lt l end) refl
    where
      e : l - 0 ≡ l
      e = omega arith

      go : (z : Bool) → nat_lt l end ≡ z → IsFrom ds 0 end (Tests l y n) ⊎ ((k : ℕ) × (first ≤ k) × (k < end) × IsAt k (Tests l y n))
      go true z = inr (l, h.0.1, grind (arith, nat_tests), refl)
      go false z = inl (grind (arith, nat_tests), rw e (h.1 h.0.1))

  up-to : (value : ℕ) (t : Tree) → Comes first t → IsUpTo first end value t
  up-to value (Ends a) h = tt
  up-to value (Tests l y n) h = λ g i. let e : l ≡ first = first-in ds slot first end l s g i (h.1 g) in omega arith

  taken-one : (value : ℕ) (t : Tree) → Comes first t → Taken value t
  taken-one value t h =
      let g = good-cofactored ds slot first end s value t h.0.0 (up-to value t h) in
      record {
        reduced = g.reduced;
        from = elim (past-from t h) [ inl a ↦ g.from end a | inr a ↦ g.inside a.0 a.1 a.2 a.3 ];
        values = λ p i. value_at-cofactored ds slot first end s value t p h.0.0 (up-to value t h) i;
      }

  pub taken-all : (i : ℕ) (ts : List Tree) → Each (Comes first) ts → Each (λ t. IsReduced ds 0 t × IsFrom ds 0 end t) (taken first end i ts)
  taken-all i [] h = tt
  taken-all i (t ∷ ts) h = let q = taken-one (i / 2) t h.0 in ((q.reduced, q.from), taken-all (i + 1) ts h.1)

  taken-values : (i : ℕ) (ts : List Tree) (p : List ℕ) → IsState ds p → Each (Comes first) ts → values_at ds p (taken first end i ts) ≡ slot_values ds slot p i ts
  taken-values i [] p r h = refl
  taken-values i (t ∷ ts) p r h = rw ((taken-one (i / 2) t h.0).values p r, taken-values (i + 1) ts p r h.1) refl

  pub first-within : first ≤ levels_of ds
  first-within = go first end slot ds s
    where
      go : (first end slot : ℕ) (ds : List ℕ) → IsSlot ds slot first end → first ≤ levels_of ds
      go first end slot [] s = absurd (omega (arith, s.slot_in))
      go first end zero (d ∷ ds) s = omega (arith, s.first_is)
      go first end (suc slot) (d ∷ ds) s =
          let i : first - (d - 1) ≤ levels_of ds = go (first - (d - 1)) (end - (d - 1)) slot ds (record { slot_in = omega (arith, s.slot_in); first_is = omega (arith, s.first_is); end_is = omega (arith, s.end_is, s.first_is) }) in
          omega (arith, s.first_is)

  pub slot-within : end ≤ levels_of ds
  slot-within = go first end slot ds s
    where
      go : (first end slot : ℕ) (ds : List ℕ) → IsSlot ds slot first end → end ≤ levels_of ds
      go first end slot [] s = absurd (omega (arith, s.slot_in))
      go first end zero (d ∷ ds) s = omega (arith, s.first_is, s.end_is)
      go first end (suc slot) (d ∷ ds) s =
          let i : end - (d - 1) ≤ levels_of ds = go (first - (d - 1)) (end - (d - 1)) slot ds (record { slot_in = omega (arith, s.slot_in); first_is = omega (arith, s.first_is); end_is = omega (arith, s.end_is, s.first_is) }) in
          omega (arith, s.first_is, s.end_is)

  module _ (op : List Leaf → Leaf) where
    abbrev pub levels : ℕ
    levels = levels_of ds

    -- the sum goes down to the slot
    pub slot-ends : EndsAt ds first (at_slot levels first end op)
    slot-ends = record {
      levels = first-within;
      within = λ l h b. after-before ds slot first end l s b;
      reduced = λ e ts i h f.
          let q = taken-all 0 ts (each-weaker (λ t. Stands ds first t × IsFrom ds 0 e t) (Comes first) (λ t a. (a.0, whole-from ds first e t a.1)) ts (each-both (Stands ds first) (IsFrom ds 0 e) ts h f)) in
          let w = (good ds levels (at_leaves op) (leaves-end ds op) levels 0 (omega arith)).whole end (taken first end 0 ts) (end-within ts)
          (each-weaker (λ t. IsReduced ds 0 t × IsFrom ds 0 end t) (Stands ds 0) (λ t a. (a.0, not-before-from ds 0 end t (omega arith) a.1)) _ q)
          (each-weaker (λ t. IsReduced ds 0 t × IsFrom ds 0 end t) (IsFrom ds 0 end) (λ t a. a.1) _ q) in
          (w.0, IsFrom-lower ds e end _ (omega (arith, s.end_is)) w.1);
    }
      where
        end-within : List Tree → end ≤ levels
        end-within ts = slot-within

    -- of whole trees it is reduced and whole
    pub summed-whole : (ts : List Tree) → Each (IsReduced ds 0) ts → Each (IsFrom ds 0 0) ts → IsReduced ds 0 (summed levels first end op ts) × IsFrom ds 0 0 (summed levels first end op ts)
    summed-whole ts r f = down-whole ds first (at_slot levels first end op) slot-ends ts r f

    slot-yes : (l i : ℕ) (ts : List Tree) (p : List ℕ) → l < first → passes ds l p ≡ true → slot_values ds slot p i (map (yes_at l) ts) ≡ slot_values ds slot p i ts
    slot-yes l i [] p b h = refl
    slot-yes l i (t ∷ ts) p b h =
        rw (value-yes ds l t (set p slot (i / 2)) (passes-before ds slot first end l (i / 2) p s b ∙ h), slot-yes l (i + 1) ts p b h) refl

    slot-no : (l i : ℕ) (ts : List Tree) (p : List ℕ) → l < first → passes ds l p ≡ false → slot_values ds slot p i (map (no_at l) ts) ≡ slot_values ds slot p i ts
    slot-no l i [] p b h = refl
    slot-no l i (t ∷ ts) p b h =
        rw (value-no ds l t (set p slot (i / 2)) (passes-before ds slot first end l (i / 2) p s b ∙ h), slot-no l (i + 1) ts p b h) refl

    -- Its value at a point is that of the operation on the trees' values, where the slot has each value in turn.
    pub value_at-summed : (ts : List Tree) (p : List ℕ) → IsState ds p → Each (Comes 0) ts → value_at ds 0 (summed levels first end op ts) p ≡ op (slot_values ds slot p 0 ts)
    value_at-summed ts p r h =
        value_at-down ds first (at_slot levels first end op) p Comes (λ us. op (slot_values ds slot p 0 us)) (λ l t b a. comes-half l t b a)
        (λ l us b q. ap op (slot-yes l 0 us p b q)) (λ l us b q. ap op (slot-no l 0 us p b q))
        (λ us a.
        let q = taken-all 0 us a in
        value_at-each ds op (taken first end 0 us) p (each-weaker (λ t. IsReduced ds 0 t × IsFrom ds 0 end t) (Stands ds 0) (λ t b. (b.0, not-before-from ds 0 end t (omega arith) b.1)) _ q)
        ∙ ap op (taken-values 0 us p r a))
        first 0 ts (omega arith) h
