-- The order of two states by the first value in which they differ, and the first of two searches.
use Rattle.std.proofs.Common.{◌≡◌, ◌≢◌, ℕ, zero, suc, ◌*◌, ◌<◌, false, nat_lt, List, [], ◌∷◌, length, get_or, inl, inr, sym, ap, arith}
use Rattle.std.proofs.lemmas.Bool.{cases_lt}
use Rattle.std.proofs.lemmas.Bool.Decides.{nat_tests}
use Rattle.std.proofs.lemmas.Grind.{same_number_lists}
use Rattle.std.proofs.Math.Nat.{mul-le-mul_right}
use Rattle.spd_model.specs.States.{IsState, rank, state_count}
use Rattle.spd_model.proofs.CallerLemmas.StateOrder.{rank_below}

-- ---- the order of states

-- of two states the one whose first differing value is smaller comes before
rank-less : (sizes a b : List ℕ) (i : ℕ) → IsState sizes a → IsState sizes b → i < length a → ((k : ℕ) → k < i → get_or a k 0 ≡ get_or b k 0)
    → get_or a i 0 < get_or b i 0 → rank sizes a < rank sizes b
rank-less [] [] b i p q near same less = absurd (omega (arith, near))
rank-less [] (x ∷ a) b i p q near same less = absurd p
rank-less (size ∷ sizes) [] b i p q near same less = absurd p
rank-less (size ∷ sizes) (x ∷ a) [] i p q near same less = absurd q
rank-less (size ∷ sizes) (x ∷ a) (y ∷ b) zero p q near same less =
    omega (arith, rank_below sizes a p.1, mul-le-mul_right (state_count sizes) less)
rank-less (size ∷ sizes) (x ∷ a) (y ∷ b) (suc i) p q near same less =
    let rest : rank sizes a < rank sizes b = rank-less sizes a b i p.1 q.1 (omega (arith, near)) (λ k h. same (suc k) (omega (arith, h))) less in
    let first : x * state_count sizes ≡ y * state_count sizes = ap (λ n. n * state_count sizes) (same zero (omega arith)) in
    omega (arith, rest, first)

-- the values tell the order
pub before-differ : (sizes a b : List ℕ) (i : ℕ) → length a ≡ length b → IsState sizes a → IsState sizes b → i < length a → ((k : ℕ) → k < i → get_or a k 0 ≡ get_or b k 0)
    → get_or a i 0 ≢ get_or b i 0 → nat_lt (get_or a i 0) (get_or b i 0) ≡ nat_lt (rank sizes a) (rank sizes b)
before-differ sizes a b i long p q near same differ = elim (cases_lt (get_or a i 0) (get_or b i 0)) [
  | inl less ↦ let before = rank-less sizes a b i p q near same less in grind (arith, nat_tests, less, before)
  | inr more ↦
      let above : get_or b i 0 < get_or a i 0 = grind (arith, more, differ) in
      let after = rank-less sizes b a i q p (omega (arith, near, long)) (λ k h. sym (same k h)) above in
      grind (arith, nat_tests, above, after)
]

pub before-same : (sizes a b : List ℕ) → length a ≡ length b → ((k : ℕ) → k < length a → get_or a k 0 ≡ get_or b k 0) → false ≡ nat_lt (rank sizes a) (rank sizes b)
before-same sizes a b long same =
    let is : a ≡ b = same_number_lists a b long same in
    let ranks : rank sizes a ≡ rank sizes b = ap (rank sizes) is in
    grind (arith, nat_tests, ranks)

pub ruleset order_laws = (before-differ, before-same)
