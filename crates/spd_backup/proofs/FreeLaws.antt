-- A function that doesn't follow a variable's next value stays as it is where that value is summed out.
use Rattle.std.proofs.Common.{◌≡◌, ℕ, ◌+◌, ◌-◌, ◌<◌, ◌≤◌, ◌⊎◌, inl, inr, true, List, [], length, set, refl, sym, ◌∙◌, ap, subst, arith, ℤ, pos, ◌*ℤ◌, ◌<ℤ◌, Contains}
use Rattle.std.proofs.lemmas.Int.{ints}
use Rattle.std.proofs.lemmas.List.Elements.{Contains-push_cases}
use Rattle.spd_scaled.proofs.CallerLemmas.DivisionLaws.{ceil_div_unique, floor_div_unique}
use Rattle.spd_scaled.proofs.CallerLemmas.Ring.{*ℤ_comm}
use Rattle.spd_cons_core.specs.declared.key.Entry.{Entry}
use Rattle.spd_model.specs.Chances.{one}
use Rattle.spd_model.specs.Numbers.{sum_below}
use Rattle.spd_model.proofs.CallerLemmas.Sums.{sum_below-cong, sum_below-*ℤ}
use Rattle.spd_nodes.specs.declared.leaf.Leaf.TheVariants.{Num}
use Rattle.spd_nodes.specs.Levels.{IsSlot, slots, slot_of, passes, after}
use Rattle.spd_nodes.specs.Refs.{AddsRef}
use Rattle.spd_nodes.specs.Shown.{Shown, IsSound, StandsFor, meaning}
use Rattle.spd_nodes.specs.States.{Function, Agree, point}
use Rattle.spd_nodes.specs.Trees.{Tree, Ends, Tests, IsFrom, IsReduced, value_at}
use Rattle.spd_nodes.proofs.CallerLemmas.{Parts, after_above, parts, passes-before, passes-past, stands-for}
use Rattle.spd_restrict.specs.Restricted.{restricted}
use Rattle.spd_restrict.proofs.CallerLemmas.{set-primed, RootFrom, root-from, root-at}
use Rattle.spd_weigh.specs.declared.way.Way.{Way}
use Rattle.spd_weigh.specs.declared.way.Way.TheVariants.{Down, Up}
use Rattle.spd_weigh.specs.Leaves.{rounding_of, number_of, HasValues}
use Rattle.spd_weigh.specs.Weighing.{summed_out, product_at, weight_at, AreWeights}
use Rattle.spd_backup.specs.Free.{IsFreeOf, TestsNone, AreFree}
use Rattle.spd_backup.proofs.BackLaws.{number-is}

-- ---- the sum

one-positive : pos 0 <ℤ one
one-positive = omega (arith, ints)

pub rounded-one : (way : Way) (x : ℤ) → rounding_of way (x *ℤ one) one ≡ x
rounded-one Down x = sym (floor_div_unique (x *ℤ one) one x one-positive (omega (arith, ints)) (omega (arith, ints)))
rounded-one Up x = sym (ceil_div_unique (x *ℤ one) one x one-positive (omega (arith, ints)) (omega (arith, ints)))

pub free-summed : (sizes : List ℕ) (way : Way) (var : ℕ) (ws : List Function) (f : Function) → AreWeights sizes var ws → HasValues sizes f → IsFreeOf var sizes f → Agree sizes (summed_out way var ws f) f
free-summed sizes way var ws f weights values free = record {
  at = λ s t p q.
      let x : ℤ = number_of (f s t) in
      let w : ℕ → ℤ = λ v. number_of (weight_at var ws v s t) in
      let each : (v : ℕ) → v < length ws → product_at var ws f v s t ≡ x *ℤ w v = λ v b. *ℤ_comm (w v) (number_of (restricted var true v f s t)) ∙ ap (λ l. number_of l *ℤ w v) ((free.at v).at s t p q) in
      let sum : sum_below (length ws) (λ v. product_at var ws f v s t) ≡ x *ℤ one = sum_below-cong (length ws) (λ v. product_at var ws f v s t) (λ v. x *ℤ w v) each ∙ sum_below-*ℤ (length ws) x w ∙ ap (λ y. x *ℤ y) (weights.sum s t p q) in
      ap (λ y. Num (rounding_of way y one)) sum ∙ ap Num (rounded-one way x) ∙ sym (number-is (f s t) (values.at s t p q));
}

-- an entry that doesn't follow it stands for the sum
pub free-stands : (s : Shown) → IsSound s → (way : Way) (var : ℕ) (ws : List Function) (r : Entry) → s.knows r ≡ true → IsFrom (slots s.sizes) 0 0 (s.tree r) → AreWeights s.sizes var ws → HasValues s.sizes (meaning s r)
    → IsFreeOf var s.sizes (meaning s r) → StandsFor s r (summed_out way var ws (meaning s r))
free-stands s o way var ws r k whole weights values free =
    let same = free-summed s.sizes way var ws (meaning s r) weights values free in
    stands-for s o r (summed_out way var ws (meaning s r)) k whole (record { at = λ x y p q. sym (same.at x y p q) })

-- ---- the search

-- past the slot none of its tests stands
past-none : (ds : List ℕ) (first end : ℕ) (t : Tree) → IsReduced ds 0 t → RootFrom end t → TestsNone first end t
past-none ds first end (Ends a) r f = tt
past-none ds first end (Tests l y n) r f =
    let q : Parts ds l y n = parts ds l y n r in
    let above : l < after ds l = after_above ds l q.level in
    let ry : RootFrom end y = root-from ds end (after ds l) y (omega arith) q.yes_from in
    let rn : RootFrom end n = elim q.no_fits [ inl g ↦ root-from ds end (after ds l) n (omega arith) g | inr g ↦ root-at end (l + 1) n (omega arith) g.0 ] in
    (inr f, past-none ds first end y q.yes_reduced ry, past-none ds first end n q.no_reduced rn)

module _ (ds : List ℕ) (slot first end : ℕ) (is : IsSlot ds slot first end) (v : ℕ) (p : List ℕ) where
  passes-same : (l : ℕ) → (l < first) ⊎ (end ≤ l) → passes ds (l - 0) (set p slot v) ≡ passes ds (l - 0) p
  passes-same l (inl h) = let z : l - 0 ≡ l = omega arith in rw z (passes-before ds slot first end l v p is h)
  passes-same l (inr h) = let z : l - 0 ≡ l = omega arith in rw z (passes-past ds slot first end l v p is h)

  -- a tree that tests none of a slot has one value for all of the slot's
  none-value : (t : Tree) → TestsNone first end t → value_at ds 0 t (set p slot v) ≡ value_at ds 0 t p
  none-value (Ends a) h = refl
  none-value (Tests l y n) h = rw (passes-same l h.0, none-value y h.1, none-value n h.2) refl

-- an entry whose tree tests none of a variable's next values doesn't follow them
pub none-free : (s : Shown) (r : Entry) (var first end : ℕ) → var < length s.sizes → IsSlot (slots s.sizes) (slot_of var true) first end → TestsNone first end (s.tree r) → IsFreeOf var s.sizes (meaning s r)
none-free s r var first end b is none = record {
  at = λ v. record {
    at = λ x y p q.
        ap (value_at (slots s.sizes) 0 (s.tree r)) (sym (set-primed s.sizes x y var v p q b)) ∙ none-value (slots s.sizes) (slot_of var true) first end is v (point x y) (s.tree r) none;
  };
}

-- a test past the slot
pub past-free : (s : Shown) → IsSound s → (r y n : Entry) (first end l : ℕ) → s.knows r ≡ true → s.tree r ≡ Tests l (s.tree y) (s.tree n) → end ≤ l → TestsNone first end (s.tree r)
past-free s o r y n first end l k e h = past-none (slots s.sizes) first end (s.tree r) (o.reduced r k) (rw e h)

-- a test before it, of whose children neither reaches one
pub both-free : (s : Shown) (r y n : Entry) (first end l : ℕ) → s.tree r ≡ Tests l (s.tree y) (s.tree n) → l < first → TestsNone first end (s.tree y) → TestsNone first end (s.tree n) → TestsNone first end (s.tree r)
both-free s r y n first end l e h a b = rw e (inl h, a, b)

pub none-seen : (first end : ℕ) (s : Shown) (refs : List Entry) → refs ≡ [] → AreFree first end s refs
none-seen first end s refs e = record { each = λ q m. absurd (let h = subst (λ (l : List Entry). Contains l q) e m in omega (arith, h.1)) }

-- one more was seen
pub one-seen : (first end : ℕ) (s : Shown) (old new : List Entry) (r : Entry) → AreFree first end s old → TestsNone first end (s.tree r) → AddsRef old new r → AreFree first end s new
one-seen first end s old new r h k (inl a) = subst (AreFree first end s) (sym a.0) h
one-seen first end s old new r h k (inr a) = subst (AreFree first end s) (sym a.0) (record { each = λ q m. elim (Contains-push_cases old r q m) [ inl b ↦ h.each q b | inr b ↦ subst (λ (u : Entry). TestsNone first end (s.tree u)) b k ] })
