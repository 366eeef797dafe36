-- Weighed sums are in range.
use Rattle.std.proofs.Common.{◌≡◌, ◌∙◌, ℕ, zero, suc, ◌+◌, ◌<◌, ◌≤◌, ◌&&◌, ◌||◌, true, List, [], ◌∷◌, length, get_or, drop, map, inl, inr, refl, arith, ℤ, pos, ◌+ℤ◌, ◌*ℤ◌, ◌≤ℤ◌, FitsSigned, neg_ℤ}
use Rattle.std.specs.Int.{w128}
use Rattle.std.specs.Prelude.{int_le}
use Rattle.std.specs.Ordering.{int_eq}
use Rattle.std.proofs.lemmas.Bool.{and_parts, or_cases}
use Rattle.std.proofs.lemmas.Bool.Decides.{Decides-int_eq, nat_tests}
use Rattle.std.proofs.lemmas.Int.{ints}
use Rattle.spd_scaled.specs.Scaled.{IsWithin}
use Rattle.spd_scaled.proofs.CallerLemmas.Ring.{+ℤ-*ℤ, *ℤ_mono, zero-*ℤ}
use Rattle.spd_scaled.proofs.CallerLemmas.Magnitude.{IsWithin_zero, IsWithin_mono, IsWithin-+ℤ, IsWithin-*ℤ, fits_within}
use Rattle.spd_cons_core.specs.declared.key.Entry.{Entry}
use Rattle.spd_model.specs.Chances.{one}
use Rattle.spd_nodes.specs.declared.leaf.Leaf.{Leaf}
use Rattle.spd_nodes.specs.declared.leaf.Leaf.TheVariants.{Num, Pair, Act}
use Rattle.spd_nodes.specs.Shown.{Shown}
use Rattle.spd_gather.specs.Down.{last_leaf}
use Rattle.spd_gather.specs.Lists.{trees_of}
use Rattle.spd_weigh.specs.Leaves.{number_of, greatest_value}
use Rattle.spd_weigh.specs.Summed.{products, weights, is_weight, is_value, each_fits}

weight-positive : (w : Leaf) → is_weight w ≡ true → pos 0 ≤ℤ number_of w
weight-positive (Num a) h = grind (arith, ints, nat_tests)
weight-positive (Pair a x) h = absurd (cc h)
weight-positive (Act a) h = absurd (cc h)

weights-positive : (ls : List Leaf) → each_fits ls ≡ true → pos 0 ≤ℤ weights ls
weights-positive [] h = omega (arith, ints)
weights-positive (w ∷ []) h = absurd (cc h)
weights-positive (w ∷ f ∷ ls) h =
    let s = and_parts _ _ h in
    let a : pos 0 ≤ℤ number_of w = weight-positive w (and_parts _ _ s.0).0 in
    let b : pos 0 ≤ℤ weights ls = weights-positive ls s.1 in
    omega (arith, ints, a, b)

pub value-within : (f : Leaf) → is_value f ≡ true → IsWithin greatest_value (number_of f)
value-within (Num a) h =
    let s = and_parts (int_le a greatest_value) (int_le (neg_ℤ greatest_value) a) h in
    let u : int_le a greatest_value ≡ true = s.0 in
    let v : int_le (neg_ℤ greatest_value) a ≡ true = s.1 in
    record { low = grind (arith, ints, nat_tests); high = grind (arith, ints, nat_tests) }
value-within (Pair a x) h = absurd (cc h)
value-within (Act a) h = absurd (cc h)

product-within : (w f : Leaf) → (is_weight w && (int_eq (number_of w) (pos 0) || is_value f)) ≡ true → IsWithin (number_of w *ℤ greatest_value) (number_of w *ℤ number_of f)
product-within w f h =
    let s = and_parts (is_weight w) _ h in
    elim (or_cases _ _ s.1) [
      | inl i ↦ (let z : number_of w ≡ pos 0 = (Decides-int_eq (number_of w) (pos 0)).0 i in rw z (rw (zero-*ℤ greatest_value, zero-*ℤ (number_of f)) (IsWithin_zero (pos 0) (omega (arith, ints)))))
      | inr i ↦ IsWithin-*ℤ (number_of w) greatest_value (number_of f) (weight-positive w s.0) (value-within f i)
    ]

-- the sum is within what its weights allow
pub products-within : (ls : List Leaf) → each_fits ls ≡ true → IsWithin (weights ls *ℤ greatest_value) (products ls)
products-within [] h = rw (zero-*ℤ greatest_value) (IsWithin_zero (pos 0) (omega (arith, ints)))
products-within (w ∷ []) h = absurd (cc h)
products-within (w ∷ f ∷ ls) h =
    let s = and_parts _ _ h in
    rw (+ℤ-*ℤ (number_of w) (weights ls) greatest_value) (IsWithin-+ℤ _ _ _ _ (product-within w f s.0) (products-within ls s.1))

pub sum-fits : (ls : List Leaf) → each_fits ls ≡ true → weights ls ≤ℤ one → FitsSigned w128 (products ls)
sum-fits ls h t = fits_within w128 (one *ℤ greatest_value) (products ls) (omega (arith, ints)) (IsWithin_mono (weights ls *ℤ greatest_value) (one *ℤ greatest_value) (products ls) (*ℤ_mono (weights ls) one greatest_value (omega (arith, ints)) t) (products-within ls h))

abbrev pub leaves_of : Shown → List Entry → List Leaf
leaves_of s ks = map last_leaf (trees_of s ks)

pub drop-two : (ks : List Entry) (at : ℕ) (d e : Entry) → at + 1 < length ks → drop at ks ≡ get_or ks at d ∷ get_or ks (at + 1) e ∷ drop (at + 2) ks
drop-two [] at d e h = absurd (omega (arith, h))
drop-two (a ∷ []) at d e h = absurd (omega (arith, h))
drop-two (a ∷ b ∷ ks) zero d e h = refl
drop-two (a ∷ b ∷ ks) (suc at) d e h =
    let p : suc at + 1 ≡ suc (at + 1) = omega arith in
    let q : suc at + 2 ≡ suc (at + 2) = omega arith in
    rw (p, q) (drop-two (b ∷ ks) at d e (omega (arith, h)))

pub drop-end : (s : Shown) (ks : List Entry) (at : ℕ) → length ks ≤ at + 1 → products (leaves_of s (drop at ks)) ≡ pos 0
drop-end s [] zero h = refl
drop-end s [] (suc at) h = refl
drop-end s (a ∷ []) zero h = refl
drop-end s (a ∷ b ∷ ks) zero h = absurd (omega (arith, h))
drop-end s (a ∷ ks) (suc at) h = drop-end s ks at (omega (arith, h))

-- one step of the sum
pub record SumStep (w f : Leaf) (ls : List Leaf) : Type 0 where
  pub rest_fits : each_fits ls ≡ true
  pub rest_total : weights ls ≤ℤ one
  pub product_fits : FitsSigned w128 (number_of w *ℤ number_of f)
  pub sum_fits : FitsSigned w128 ((number_of w *ℤ number_of f) +ℤ products ls)

pub sum-step : (w f : Leaf) (ls : List Leaf) → each_fits (w ∷ f ∷ ls) ≡ true → weights (w ∷ f ∷ ls) ≤ℤ one → SumStep w f ls
sum-step w f ls h t =
    let s = and_parts _ _ h in
    let a : pos 0 ≤ℤ number_of w = weight-positive w (and_parts _ _ s.0).0 in
    let b : pos 0 ≤ℤ weights ls = weights-positive ls s.1 in
    let c : number_of w ≤ℤ one = omega (arith, ints, a, b, t) in
    record {
      rest_fits = s.1;
      rest_total = omega (arith, ints, a, b, t);
      product_fits = fits_within w128 (one *ℤ greatest_value) (number_of w *ℤ number_of f) (omega (arith, ints)) (IsWithin_mono (number_of w *ℤ greatest_value) (one *ℤ greatest_value) (number_of w *ℤ number_of f) (*ℤ_mono (number_of w) one greatest_value (omega (arith, ints)) c) (product-within w f s.0));
      sum_fits = sum-fits (w ∷ f ∷ ls) h t;
    }

pub record SumGoes (s : Shown) (ks : List Entry) (at : ℕ) (w f : ℤ) : Type 0 where
  pub rest_fits : each_fits (leaves_of s (drop (at + 2) ks)) ≡ true
  pub rest_total : weights (leaves_of s (drop (at + 2) ks)) ≤ℤ one
  pub product_fits : FitsSigned w128 (w *ℤ f)
  pub sum_fits : FitsSigned w128 ((w *ℤ f) +ℤ products (leaves_of s (drop (at + 2) ks)))
  pub sum_is : (w *ℤ f) +ℤ products (leaves_of s (drop (at + 2) ks)) ≡ products (leaves_of s (drop at ks))

pub sum-goes : (s : Shown) (ks : List Entry) (at : ℕ) (d e : Entry) (w f : ℤ) → at + 1 < length ks → each_fits (leaves_of s (drop at ks)) ≡ true → weights (leaves_of s (drop at ks)) ≤ℤ one
    → w ≡ number_of (last_leaf (s.tree (get_or ks at d))) → f ≡ number_of (last_leaf (s.tree (get_or ks (at + 1) e))) → SumGoes s ks at w f
sum-goes s ks at d e w f b h t i j =
    let two = drop-two ks at d e b in
    let q = sum-step (last_leaf (s.tree (get_or ks at d))) (last_leaf (s.tree (get_or ks (at + 1) e))) (leaves_of s (drop (at + 2) ks)) (rw two at h) (rw two at t) in
    record { rest_fits = q.rest_fits; rest_total = q.rest_total; product_fits = rw (i, j) q.product_fits; sum_fits = rw (i, j) q.sum_fits; sum_is = rw (i, j, two) refl }

-- where the weight is 0 the value isn't asked for
pub sum-skips : (s : Shown) (ks : List Entry) (at : ℕ) (d : Entry) (w : ℤ) → at + 1 < length ks → each_fits (leaves_of s (drop at ks)) ≡ true → weights (leaves_of s (drop at ks)) ≤ℤ one
    → w ≡ number_of (last_leaf (s.tree (get_or ks at d))) → w ≡ pos 0
    → (each_fits (leaves_of s (drop (at + 2) ks)) ≡ true) × (weights (leaves_of s (drop (at + 2) ks)) ≤ℤ one) × (products (leaves_of s (drop (at + 2) ks)) ≡ products (leaves_of s (drop at ks)))
sum-skips s ks at d w b h t i z =
    let f = number_of (last_leaf (s.tree (get_or ks (at + 1) d))) in
    let rest = products (leaves_of s (drop (at + 2) ks)) in
    let q = sum-goes s ks at d d w f b h t i refl in
    let none : w *ℤ f ≡ pos 0 = rw z (zero-*ℤ f) in
    let is : rest ≡ (w *ℤ f) +ℤ rest = rw none (omega (arith, ints)) in
    (q.rest_fits, q.rest_total, is ∙ q.sum_is)
