-- A start bucket is one of the buckets, and a search passes the buckets in order.
use Rattle.std.proofs.Common.{◌≡◌, ◌⊎◌, ℕ, ◌+◌, ◌-◌, ◌*◌, ◌/◌, ◌^◌, ◌<◌, ◌≤◌, ltb, List, [], ◌∷◌, sym, ap, ◌∙◌, subst, inl, inr, ⊎_elim, arith}
use Rattle.std.specs.List.{fold}
use Rattle.std.proofs.Common.{bit_xor, lit<}
use Rattle.std.specs.Int.{w64, rotate_left}
use Rattle.std.proofs.lemmas.Bool.{cases_lt, cases_eq, cases_order, cond_both, ltb-false}
use Rattle.std.proofs.Math.Nat.{div-lt_iff_lt-mul, mod-lt, mul_comm, mul-lt-mul_of_pos_right}
use Rattle.std.proofs.Math.Nat.{mul-div-mul_right}
use Rattle.std.proofs.lemmas.Nat.{pow-add, pow_pos}
use Rattle.spd_cons_core.specs.Spelling.{mixed, hash_of, first_bucket}
use Rattle.spd_cons_core.specs.Events.{next_bucket}
use Rattle.spd_cons_core.specs.Invariants.{IsPassed}

mixed_below : (hash word : ℕ) → mixed hash word < 2 ^ 64
unfolding mixed
mixed_below hash word = mod-lt (rotate_left w64 (bit_xor hash word) 29 * 0x9E3779B97F4A7C15) (lit< tt)

hash_below : (words : List ℕ) (hash : ℕ) → hash < 2 ^ 64 → fold mixed hash words < 2 ^ 64
hash_below [] hash low = low
hash_below (word ∷ words) hash low = hash_below words (mixed hash word) (mixed_below hash word)

below_scaled : (hash count wide : ℕ) → 0 < wide → 0 < count → hash < wide → hash * count / wide < count
below_scaled hash count wide positive some low =
    let product : hash * count < count * wide = subst (λ n. hash * count < n) (mul_comm wide count) (mul-lt-mul_of_pos_right low some) in
    (div-lt_iff_lt-mul positive).1 product

pub start_below : (words : List ℕ) (count : ℕ) → 0 < count → first_bucket words count < count
unfolding first_bucket
start_below words count some = below_scaled (fold mixed 0 words) count (2 ^ 64) (lit< tt) some (hash_below words 0 (lit< tt))

-- of 2 ^ bits buckets, the start bucket is the first bits of the hash
pub start_shift : (words : List ℕ) (bits : ℕ) → bits ≤ 64 → hash_of words / 2 ^ (64 - bits) ≡ first_bucket words (2 ^ bits)
unfolding first_bucket
start_shift words bits few =
    let all : 64 - bits + bits ≡ 64 = omega arith in
    let whole : 2 ^ (64 - bits) * 2 ^ bits ≡ 2 ^ 64 = sym (pow-add 2 (64 - bits) bits) ∙ ap (λ n. 2 ^ n) all in
    sym (ap (λ n. hash_of words * 2 ^ bits / n) (sym whole) ∙ mul-div-mul_right (hash_of words) (2 ^ (64 - bits)) (pow_pos bits))

-- nothing is passed at the start
pub start_passes_none : (start b : ℕ) → IsPassed start start b → ⊥
start_passes_none start b p = ⊎_elim (λ a. omega arith) (λ q. ⊎_elim (λ a. omega arith) (λ a. omega arith) q) p

-- one bucket on, that bucket is passed
pub passed_next : (count start at b : ℕ) → b < count → IsPassed start (next_bucket count at) b → IsPassed start at b ⊎ (b ≡ at)
passed_next count start at b within =
    cond_both (ltb (at + 1) count) (at + 1) 0 (λ n. IsPassed start n b → IsPassed start at b ⊎ (b ≡ at))
    (λ _ passed. onward passed)
    (λ last passed. wrapped (ltb-false (at + 1) count last) passed)
  where
    onward : IsPassed start (at + 1) b → IsPassed start at b ⊎ (b ≡ at)
    onward passed = ⊎_elim (λ (same : b ≡ at). inr same) (λ (other : b ≡ at → ⊥). inl (⊎_elim
        (λ (p : (start ≤ b) × (b < at + 1)). inl (p.0, omega (arith, p.1, other)))
        (λ q. inr (⊎_elim
        (λ (p : (at + 1 < start) × (start ≤ b)). inl (omega (arith, p.0), p.1))
        (λ (p : (at + 1 < start) × (b < at + 1)). inr (omega (arith, p.0), omega (arith, p.1, other))) q))
        passed)) (cases_eq b at)

    wrapped : count ≤ at + 1 → IsPassed start 0 b → IsPassed start at b ⊎ (b ≡ at)
    wrapped last passed = ⊎_elim (λ (same : b ≡ at). inr same) (λ (other : b ≡ at → ⊥). inl (⊎_elim
        (λ (p : (start ≤ b) × (b < 0)). absurd (omega (arith, p.1)))
        (λ q. ⊎_elim
        (λ (p : (0 < start) × (start ≤ b)). inl (p.1, omega (arith, other)))
        (λ (p : (0 < start) × (b < 0)). absurd (omega (arith, p.1))) q)
        passed)) (cases_eq b at)

-- of two buckets, a search comes to one of them first
pub passed_order : (start a b : ℕ) → IsPassed start a b ⊎ ((b ≡ a) ⊎ IsPassed start b a)
passed_order start a b =
    ⊎_elim
    (λ (below_a : a < start). ⊎_elim
    (λ (below_b : b < start). ⊎_elim
    (λ (same : b ≡ a). inr (inl same))
    (λ o. ⊎_elim (λ (less : b < a). inl (inr (inr (below_a, less)))) (λ (more : a < b). inr (inr (inr (inr (below_b, more))))) o)
    (cases_order b a))
    (λ (from_b : start ≤ b). inl (inr (inl (below_a, from_b))))
    (cases_lt b start))
    (λ (from_a : start ≤ a). ⊎_elim
    (λ (below_b : b < start). inr (inr (inr (inl (below_b, from_a)))))
    (λ (from_b : start ≤ b). ⊎_elim
    (λ (same : b ≡ a). inr (inl same))
    (λ o. ⊎_elim (λ (less : b < a). inl (inl (from_b, less))) (λ (more : a < b). inr (inr (inl (from_a, more)))) o)
    (cases_order b a))
    (cases_lt b start))
    (cases_lt a start)
