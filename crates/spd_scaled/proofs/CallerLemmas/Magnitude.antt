-- Bounds on magnitudes: of sums, of weighted sums, and what fits a width.
use Rattle.std.proofs.Common.{ℕ, ◌^◌, ◌≤◌, ℤ, pos, negsuc, neg_ℤ, ◌+ℤ◌, ◌*ℤ◌, ◌*◌, ◌≤ℤ◌, ◌<ℤ◌, unsigned_abs, FitsSigned, arith}
use Rattle.std.proofs.lemmas.Int.{ints, fits_signed_from_abs, unsigned_abs-mul}
use native.Mathlib.Nat.{mul-le-mul}
use mir.Syntax.{Width}
use mir.Val.{hbits}
use Rattle.spd_scaled.proofs.CallerLemmas.Ring.{+ℤ-*ℤ, *ℤ-neg_ℤ, *ℤ_mono_right}
use Rattle.spd_scaled.specs.Scaled.{IsWithin}

pub IsWithin_zero : (c : ℤ) → pos 0 ≤ℤ c → IsWithin c (pos 0)
IsWithin_zero c h = record { low = omega (arith, ints); high = h }

pub IsWithin_mono : (b c x : ℤ) → b ≤ℤ c → IsWithin b x → IsWithin c x
IsWithin_mono b c x h k = record { low = omega (arith, ints); high = omega (arith, ints) }

pub IsWithin_nonnegative : (c x : ℤ) → IsWithin c x → pos 0 ≤ℤ c
IsWithin_nonnegative c x h = omega (arith, ints)

pub IsWithin-neg_ℤ : (c x : ℤ) → IsWithin c x → IsWithin c (neg_ℤ x)
IsWithin-neg_ℤ c x h = record { low = omega (arith, ints); high = omega (arith, ints) }

pub IsWithin-+ℤ : (b c x y : ℤ) → IsWithin b x → IsWithin c y → IsWithin (b +ℤ c) (x +ℤ y)
IsWithin-+ℤ b c x y h k = record { low = omega (arith, ints); high = omega (arith, ints) }

-- a weight p of at least 0
pub IsWithin-*ℤ : (p c x : ℤ) → pos 0 ≤ℤ p → IsWithin c x → IsWithin (p *ℤ c) (p *ℤ x)
IsWithin-*ℤ p c x h k = record {
  low = rw (← *ℤ-neg_ℤ p c) (*ℤ_mono_right p (neg_ℤ c) x h k.low);
  high = *ℤ_mono_right p x c h k.high;
}

-- one more weight and value of a weighted sum, whose weights add up to `weight` so far
pub IsWithin-weighted_more : (sum weight p x c : ℤ) → IsWithin (weight *ℤ c) sum → pos 0 ≤ℤ p → IsWithin c x → IsWithin ((weight +ℤ p) *ℤ c) (sum +ℤ p *ℤ x)
IsWithin-weighted_more sum weight p x c h k l =
    rw (+ℤ-*ℤ weight p c) (IsWithin-+ℤ (weight *ℤ c) (p *ℤ c) sum (p *ℤ x) h (IsWithin-*ℤ p c x k l))

pub IsWithin-from_abs : (n : ℕ) (x : ℤ) → unsigned_abs x ≤ n → IsWithin (pos n) x
IsWithin-from_abs n (pos x) h = record { low = omega (arith, ints); high = omega (arith, ints) }
IsWithin-from_abs n (negsuc x) h = record { low = omega (arith, ints); high = omega (arith, ints) }

pub unsigned_abs-le : (n : ℕ) (x : ℤ) → IsWithin (pos n) x → unsigned_abs x ≤ n
unsigned_abs-le n (pos x) h = omega (arith, ints)
unsigned_abs-le n (negsuc x) h = omega (arith, ints)

-- the magnitude of a product
pub IsWithin-product : (b c x y : ℤ) → IsWithin b x → IsWithin c y → IsWithin (b *ℤ c) (x *ℤ y)
IsWithin-product (pos b) (pos c) x y h k =
    let first = unsigned_abs-le b x h in
    let second = unsigned_abs-le c y k in
    let both = mul-le-mul first second in
    IsWithin-from_abs (b * c) (x *ℤ y) (rw (unsigned_abs-mul x y) both)
IsWithin-product (negsuc b) c x y h k = absurd (IsWithin_nonnegative (negsuc b) x h).le
IsWithin-product b (negsuc c) x y h k = absurd (IsWithin_nonnegative (negsuc c) y k).le

-- what is within a number that fits a width fits it too
pub fits_within : (w : Width) (c x : ℤ) → c <ℤ pos (2 ^ hbits w) → IsWithin c x → FitsSigned w x
fits_within w c (pos x) h k = fits_signed_from_abs w (pos x) (omega (arith, ints))
fits_within w c (negsuc x) h k = fits_signed_from_abs w (negsuc x) (omega (arith, ints))

pub unsigned_abs-fits : (w : Width) (x : ℤ) → FitsSigned w x → unsigned_abs x ≤ 2 ^ hbits w
unsigned_abs-fits w (pos x) h = omega (arith, h.sfits)
unsigned_abs-fits w (negsuc x) h = omega (arith, h.sfits)

pub IsWithin-from_fits : (w : Width) (x : ℤ) → FitsSigned w x → IsWithin (pos (2 ^ hbits w)) x
IsWithin-from_fits w x h = IsWithin-from_abs (2 ^ hbits w) x (unsigned_abs-fits w x h)
