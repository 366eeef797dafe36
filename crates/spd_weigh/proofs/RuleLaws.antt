-- How a sum goes on from a list.
use Rattle.std.proofs.Common.{◌≡◌, ℕ, ◌+◌, ◌/◌, ◌<◌, ◌≤◌, ◌⊎◌, inl, inr, false, List, [], ◌∷◌, map, refl, sym, ◌∙◌, ap, arith}
use Rattle.std.specs.Prelude.{nat_lt}
use Rattle.std.proofs.lemmas.Bool.Decides.{nat_tests}
use Rattle.spd_nodes.specs.declared.leaf.Leaf.{Leaf}
use Rattle.spd_nodes.specs.Levels.{levels_of, after, IsSlot}
use Rattle.spd_nodes.specs.Trees.{Tree, Ends, Tests, IsFrom, IsAt, IsReduced, IsAtOrPast, CanTest, join}
use Rattle.spd_nodes.proofs.CallerLemmas.{after-before, after_above}
use Rattle.spd_apply.specs.Halves.{yes_at, no_at, IsNotBefore, IsLeaf}
use Rattle.spd_apply.proofs.CallerLemmas.{not-before-from, not-before-lower}
use Rattle.spd_restrict.specs.Restricted.{cofactored}
use Rattle.spd_restrict.specs.Replaced.{IsWholeFrom}
use Rattle.spd_restrict.proofs.CallerLemmas.{whole-at, whole-from}
use Rattle.spd_gather.specs.Down.{Each, Making, Stands, FitsAt, last_leaf, at_leaves, at_each_leaf}
use Rattle.spd_gather.specs.Meeting.{Meet, IsLowest}
use Rattle.spd_gather.proofs.CallerLemmas.{each-both, each-map, each-weaker, fits-stands, from-start, halves, leaf-before, leaves-end, meets, no-stands, one-found, yes-stands}
use Rattle.spd_weigh.specs.Summed.{taken, at_slot, summed}
use Rattle.spd_weigh.proofs.SlotLaws.{slot-ends, Comes, taken-all, first-within}

-- a tree past the slot is itself at each value
pub cofactored-past : (first end value : ℕ) (t : Tree) → first ≤ end → IsNotBefore end t → cofactored first end value t ≡ t
cofactored-past first end value (Ends a) b h = refl
cofactored-past first end value (Tests l y n) b h =
    let e : nat_lt l first ≡ false = grind (arith, nat_tests) in
    let f : nat_lt l end ≡ false = grind (arith, nat_tests) in
    rw (e, f) refl

pub taken-past : (first end i : ℕ) (ts : List Tree) → first ≤ end → Each (IsNotBefore end) ts → taken first end i ts ≡ ts
taken-past first end i [] b h = refl
taken-past first end i (t ∷ ts) b h = rw (cofactored-past first end (i / 2) t b h.0, taken-past first end (i + 1) ts b h.1) refl

module _ (ds : List ℕ) (slot first end : ℕ) (s : IsSlot ds slot first end) where
  first-end : first ≤ end
  first-end = omega (arith, s.end_is)

  -- in the slot they are whole there
  pub meet-slot : (l : ℕ) (ts : List Tree) → Each (IsReduced ds 0) ts → Meet ds first end ts → IsLowest l ts → first ≤ l → l < end → Each (Comes ds slot first end s first) ts
  meet-slot l ts r m i g h = each-both (Stands ds first) (IsWholeFrom ds first) ts (each-both (IsReduced ds 0) (IsNotBefore first) ts r (each-weaker (IsNotBefore l) (IsNotBefore first) (λ t n. not-before-lower first l t g n) ts i.none_before)) (go m)
    where
      below : (k : ℕ) → k < first → (t : Tree) → IsNotBefore l t × IsAtOrPast ds k t → IsWholeFrom ds first t
      below k b t (n, inl f) = whole-from ds first (after ds k) t f
      below k b t (n, inr f) = whole-at ds first k t b f

      beyond : (k : ℕ) → end ≤ k → k < levels_of ds → (t : Tree) → IsAt l t → IsAtOrPast ds k t → ⊥
      beyond k b c (Ends a) q f = absurd q
      beyond k b c (Tests j y n) q (inl f) = omega (arith, q, f.0, after_above ds k c)
      beyond k b c (Tests j y n) q (inr f) = omega (arith, q, f)

      go : Meet ds first end ts → Each (IsWholeFrom ds first) ts
      go (inl w) = each-weaker (IsFrom ds 0 w.from) (IsWholeFrom ds first) (λ t f. whole-from ds first w.from t f) ts w.each
      go (inr w) = elim w.outside [
        | inl b ↦ each-weaker (λ t. IsNotBefore l t × IsAtOrPast ds w.level t) (IsWholeFrom ds first) (below w.level b) ts (each-both (IsNotBefore l) (IsAtOrPast ds w.level) ts i.none_before w.each)
        | inr b ↦ (let q = one-found (IsAtOrPast ds w.level) l ts i.one_at w.each in absurd (beyond w.level b w.within q.tree q.is_at q.holds))
      ]

  module _ (op : List Leaf → Leaf) where
    abbrev sum : Making
    sum = summed (levels_of ds) first end op

    abbrev each : Making
    each = at_each_leaf (levels_of ds) op

    -- a list that isn't before the slot is taken there
    pub sum-slot : (ts : List Tree) → Each (IsNotBefore first) ts → sum ts ≡ each (taken first end 0 ts)
    sum-slot ts h = from-start ds first (at_slot (levels_of ds) first end op) (slot-ends ds slot first end s op) first 0 (omega arith) ts h

    -- past it the operation is at each leaf
    pub sum-past : (ts : List Tree) → Each (IsNotBefore end) ts → sum ts ≡ each ts
    sum-past ts h = sum-slot ts (each-weaker (IsNotBefore end) (IsNotBefore first) (λ t n. not-before-lower first end t first-end n) ts h) ∙ ap each (taken-past first end 0 ts first-end h)

    -- at a level in the slot
    pub sum-in : (ts : List Tree) → Each (Comes ds slot first end s first) ts → sum ts ≡ sum (taken first end 0 ts)
    sum-in ts h =
        let q = taken-all ds slot first end s 0 ts h in
        sum-slot ts (each-weaker (Comes ds slot first end s first) (IsNotBefore first) (λ t a. a.0.1) ts h)
        ∙ sym (sum-past (taken first end 0 ts) (each-weaker (λ t. IsReduced ds 0 t × IsFrom ds 0 end t) (IsNotBefore end) (λ t a. not-before-from ds end end t (omega arith) a.1) _ q))

    -- what is a test
    pub record Goes (l : ℕ) (ts : List Tree) : Type 0 where
      pub is_join : sum ts ≡ join l (sum (map (yes_at l) ts)) (sum (map (no_at l) ts))
      pub can_test : CanTest ds l (sum (map (yes_at l) ts)) (sum (map (no_at l) ts))
      pub yes_meet : Meet ds first end (map (yes_at l) ts)
      pub no_meet : Meet ds first end (map (no_at l) ts)

    -- halves outside the slot may meet
    halves-meet : (l : ℕ) (ts : List Tree) → l < levels_of ds → Each (FitsAt ds l) ts → (l < first) ⊎ (end ≤ l) → Meet ds first end (map (yes_at l) ts) × Meet ds first end (map (no_at l) ts)
    halves-meet l ts b h o = meets ds first end (λ k c i. omega (arith, after-before ds slot first end k s c)) l ts b h o

    pub goes-before : (l : ℕ) (ts : List Tree) → l < first → Each (FitsAt ds l) ts → Goes l ts
    goes-before l ts b h =
        let q = halves ds first (at_slot (levels_of ds) first end op) (slot-ends ds slot first end s op) l ts b h in
        let m = halves-meet l ts (omega (arith, first-within ds slot first end s)) h (inl b) in
        record { is_join = q.is_join; can_test = q.can_test; yes_meet = m.0; no_meet = m.1 }

    pub goes-past : (l : ℕ) (ts : List Tree) → end ≤ l → l < levels_of ds → Each (FitsAt ds l) ts → Goes l ts
    goes-past l ts g b h =
        let d = leaves-end ds op in
        let q = halves ds (levels_of ds) (at_leaves op) d l ts b h in
        let m = halves-meet l ts b h (inr g) in
        let past : (us : List Tree) → Each (Stands ds (l + 1)) us → sum us ≡ each us = λ us k. sum-past us (each-weaker (Stands ds (l + 1)) (IsNotBefore end) (λ t a. not-before-lower end (l + 1) t (omega arith) a.1) us k) in
        let here : sum ts ≡ each ts = sum-past ts (each-weaker (FitsAt ds l) (IsNotBefore end) (λ t f. not-before-lower end l t g (fits-stands ds (levels_of ds) (at_leaves op) d l t b f).1) ts h) in
        let yes = past _ (each-map (FitsAt ds l) (Stands ds (l + 1)) (yes_at l) (yes-stands ds (levels_of ds) (at_leaves op) d l b) ts h) in
        let no = past _ (each-map (FitsAt ds l) (Stands ds (l + 1)) (no_at l) (no-stands ds (levels_of ds) (at_leaves op) d l b) ts h) in
        record { is_join = rw (yes, no) (here ∙ q.is_join); can_test = rw (yes, no) q.can_test; yes_meet = m.0; no_meet = m.1 }

    -- of leaves it is the operation
    pub sum-leaves : (ts : List Tree) → Each IsLeaf ts → sum ts ≡ Ends (op (map last_leaf ts))
    sum-leaves ts h =
        sum-past ts (each-weaker IsLeaf (IsNotBefore end) (leaf-before end) ts h)
        ∙ from-start ds (levels_of ds) (at_leaves op) (leaves-end ds op) (levels_of ds) 0 (omega arith) ts (each-weaker IsLeaf (IsNotBefore (levels_of ds)) (leaf-before (levels_of ds)) ts h)
