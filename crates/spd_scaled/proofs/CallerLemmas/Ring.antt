-- The laws of products of whole numbers, which std's `arith` and `ints` lack.
--
-- `simp ring (omega (arith, ints))` proves what is linear in products: the set `ring` multiplies out, and `omega`
-- adds up. At a hypothesis: `let h' = simp ring at h in ..`. Where nothing is left to rewrite `simp` is refused, so
-- leave that call out. State such a fact over variables of ℤ with premises as `pos 0 ≤ℤ x`: `pos a *ℤ pos b` computes
-- to `pos (a * b)`, which the set doesn't read.
use Rattle.std.proofs.Common.{◌≡◌, ℕ, ◌*◌, ℤ, pos, negsuc, neg_ℤ, ◌+ℤ◌, ◌-ℤ◌, ◌*ℤ◌, ◌≤ℤ◌, ◌<ℤ◌, true, false, int_le, int_lt, rules, arith, ap, sym, ◌∙◌}
use Rattle.std.proofs.lemmas.Int.{ints, by_lt_z}
use Rattle.std.proofs.lemmas.Bool.Decides.{Decides-int_eq}
use Rattle.std.specs.Ordering.{int_eq}
use borrow.Author.Differences.{up, down, sum_is_lem, neg_is, product_is}
pub use Rattle.std.proofs.Math.IntN.{*ℤ_comm, zero-*ℤ, *ℤ-zero}

-- ---- products multiply out

pub +ℤ-*ℤ : (x y d : ℤ) → (x +ℤ y) *ℤ d ≡ x *ℤ d +ℤ y *ℤ d
+ℤ-*ℤ x y d = omega (arith, ints, ap (λ (k : ℕ). k * up d) (sum_is_lem x y), ap (λ (k : ℕ). k * down d) (sum_is_lem x y))

pub *ℤ-+ℤ : (d x y : ℤ) → d *ℤ (x +ℤ y) ≡ d *ℤ x +ℤ d *ℤ y
*ℤ-+ℤ d x y = omega (arith, ints, ap (λ (k : ℕ). k * up d) (sum_is_lem x y), ap (λ (k : ℕ). k * down d) (sum_is_lem x y))

pub neg_ℤ-*ℤ : (x d : ℤ) → neg_ℤ x *ℤ d ≡ neg_ℤ (x *ℤ d)
neg_ℤ-*ℤ x d =
    omega (
      arith,
      ints,
      ap (λ (k : ℕ). k * up d) (neg_is x).0,
      ap (λ (k : ℕ). k * down d) (neg_is x).0,
      ap (λ (k : ℕ). k * up d) (neg_is x).1,
      ap (λ (k : ℕ). k * down d) (neg_is x).1,
    )

pub *ℤ-neg_ℤ : (x d : ℤ) → x *ℤ neg_ℤ d ≡ neg_ℤ (x *ℤ d)
*ℤ-neg_ℤ x d = *ℤ_comm x (neg_ℤ d) ∙ neg_ℤ-*ℤ d x ∙ ap neg_ℤ (*ℤ_comm d x)

pub -ℤ-*ℤ : (x y d : ℤ) → (x -ℤ y) *ℤ d ≡ x *ℤ d -ℤ y *ℤ d
-ℤ-*ℤ x y d = +ℤ-*ℤ x (neg_ℤ y) d ∙ ap (λ k. x *ℤ d +ℤ k) (neg_ℤ-*ℤ y d)

pub *ℤ_assoc : (x y z : ℤ) → (x *ℤ y) *ℤ z ≡ x *ℤ (y *ℤ z)
*ℤ_assoc x y z =
    let l = product_is x y in
    let r = product_is y z in
    omega (
      arith,
      ints,
      ap (λ (k : ℕ). k * up z) l.0,
      ap (λ (k : ℕ). k * down z) l.0,
      ap (λ (k : ℕ). k * up z) l.1,
      ap (λ (k : ℕ). k * down z) l.1,
      ap (λ (k : ℕ). up x * k) r.0,
      ap (λ (k : ℕ). down x * k) r.0,
      ap (λ (k : ℕ). up x * k) r.1,
      ap (λ (k : ℕ). down x * k) r.1,
    )

-- the first two factors change places
pub *ℤ_swap : (x y z : ℤ) → x *ℤ (y *ℤ z) ≡ y *ℤ (x *ℤ z)
*ℤ_swap x y z = sym (*ℤ_assoc x y z) ∙ ap (λ k. k *ℤ z) (*ℤ_comm x y) ∙ *ℤ_assoc y x z

pub one-*ℤ : (x : ℤ) → pos 1 *ℤ x ≡ x
one-*ℤ x = omega (arith, ints)

pub *ℤ-one : (x : ℤ) → x *ℤ pos 1 ≡ x
*ℤ-one x = omega (arith, ints)

-- sums of products, each with its factors in one order
pub ruleset ring = (one-*ℤ, *ℤ-one, zero-*ℤ, *ℤ-zero, *ℤ_assoc, *ℤ-+ℤ, +ℤ-*ℤ, neg_ℤ-*ℤ, *ℤ-neg_ℤ, *ℤ_comm, *ℤ_swap)

-- ---- products and order

pub *ℤ_nonnegative : (x y : ℤ) → pos 0 ≤ℤ x → pos 0 ≤ℤ y → pos 0 ≤ℤ (x *ℤ y)
*ℤ_nonnegative (pos x) (pos y) h k = omega (arith, ints)
*ℤ_nonnegative (negsuc x) y h k = absurd h.le
*ℤ_nonnegative x (negsuc y) h k = absurd k.le

-- a factor of at least 0 keeps the order
pub *ℤ_mono : (x y d : ℤ) → pos 0 ≤ℤ d → x ≤ℤ y → (x *ℤ d) ≤ℤ (y *ℤ d)
*ℤ_mono x y d h k = let gap = *ℤ_nonnegative (y -ℤ x) d (omega (arith, ints)) h in omega (arith, ints, -ℤ-*ℤ y x d)

pub *ℤ_mono_right : (d x y : ℤ) → pos 0 ≤ℤ d → x ≤ℤ y → (d *ℤ x) ≤ℤ (d *ℤ y)
*ℤ_mono_right d x y h k = rw (*ℤ_comm d x, *ℤ_comm d y) (*ℤ_mono x y d h k)

-- a factor above 0 is cancelled, also where the right side is short of one more of it
pub *ℤ_cancel_within : (x y d : ℤ) → pos 0 <ℤ d → (x *ℤ d) <ℤ (y *ℤ d +ℤ d) → x ≤ℤ y
*ℤ_cancel_within x y d p h = by_lt_z y x (λ (k : y <ℤ x). absurd (beyond x y d p h k)) (λ (k : x ≤ℤ y). k)
  where
    beyond : (x y d : ℤ) → pos 0 <ℤ d → (x *ℤ d) <ℤ (y *ℤ d +ℤ d) → y <ℤ x → ⊥
    beyond x y d p h k =
        let above = *ℤ_mono (y +ℤ pos 1) x d (omega (arith, ints)) (omega (arith, ints)) in
        omega (arith, ints, +ℤ-*ℤ y (pos 1) d, one-*ℤ d)

pub *ℤ_cancel_≤ℤ : (x y d : ℤ) → pos 0 <ℤ d → (x *ℤ d) ≤ℤ (y *ℤ d) → x ≤ℤ y
*ℤ_cancel_≤ℤ x y d p h = *ℤ_cancel_within x y d p (omega (arith, ints))

-- ---- order, and the tests of it

pub ≤ℤ_trans : (x y z : ℤ) → x ≤ℤ y → y ≤ℤ z → x ≤ℤ z
≤ℤ_trans x y z h k = omega (arith, ints)

pub ≤ℤ_antisymm : (x y : ℤ) → x ≤ℤ y → y ≤ℤ x → x ≡ y
≤ℤ_antisymm x y h k = omega (arith, ints)

pub int_lt-true : (x y : ℤ) → int_lt x y ≡ true → x <ℤ y
int_lt-true x y h = grind (arith, ints)

pub int_lt-false : (x y : ℤ) → int_lt x y ≡ false → y ≤ℤ x
int_lt-false x y h = grind (arith, ints)

pub int_eq-true : (x y : ℤ) → int_eq x y ≡ true → x ≡ y
int_eq-true x y h = search (rules, Decides-int_eq)

pub int_le-holds : (x y : ℤ) → x ≤ℤ y → int_le x y ≡ true
int_le-holds x y h = grind (arith, ints)

pub int_eq-holds : (x y : ℤ) → x ≡ y → int_eq x y ≡ true
int_eq-holds x y h = search (rules, Decides-int_eq)
