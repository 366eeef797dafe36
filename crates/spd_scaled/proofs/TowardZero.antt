-- The code's quotient and remainder, which round toward zero, beside the floor and the ceiling.
use Rattle.std.proofs.Common.{◌≡◌, ℕ, zero, suc, ◌/◌, ◌%◌, ◌<◌, ◌≤◌, ℤ, pos, negsuc, neg_ℤ, ◌+ℤ◌, ◌-ℤ◌, ◌*ℤ◌, ◌≤ℤ◌, ◌<ℤ◌, arith, sym, subst, int_div, int_rem, unsigned_abs, FitsSigned}
use Rattle.std.proofs.lemmas.Int.{ints, quot-rem, rem_below}
use native.Mathlib.Nat.{div-add-mod', div-le_self, mul-le-mul_left}
use Rattle.spd_scaled.proofs.CallerLemmas.Ring.{+ℤ-*ℤ, -ℤ-*ℤ}
use Rattle.spd_scaled.proofs.CallerLemmas.DivisionLaws.{floor_div_unique, ceil_div_unique, floor_div_at_most, floor_div_next_above, ceil_div_at_least, ceil_div_last_below, IsWithin-floor_div, IsWithin-ceil_div}
use mir.Syntax.{Width}
use Rattle.spd_scaled.specs.Scaled.{floor_div, ceil_div, IsWithin}

rem_small : (n d : ℤ) → pos 0 <ℤ d → int_rem n d <ℤ d
rem_small n (pos b) p = let small = rem_below n (pos b) (omega (arith, ints)) in abs_small (int_rem n (pos b)) b small
  where
    abs_small : (z : ℤ) (b : ℕ) → unsigned_abs z < b → z <ℤ pos b
    abs_small (pos a) b h = omega (arith, ints)
    abs_small (negsuc a) b h = omega (arith, ints)
rem_small n (negsuc b) p = absurd p.lt

rem_above : (n d : ℤ) → pos 0 <ℤ d → neg_ℤ d <ℤ int_rem n d
rem_above n (pos b) p = let small = rem_below n (pos b) (omega (arith, ints)) in abs_above (int_rem n (pos b)) b small
  where
    abs_above : (z : ℤ) (b : ℕ) → unsigned_abs z < b → neg_ℤ (pos b) <ℤ z
    abs_above (pos a) b h = omega (arith, ints)
    abs_above (negsuc a) b h = omega (arith, ints)
rem_above n (negsuc b) p = absurd p.lt

-- ---- which of the quotient and its neighbours is the floor, and which the ceiling

pub floor_div_from_quot : (n d : ℤ) → pos 0 <ℤ d → pos 0 ≤ℤ int_rem n d → int_div n d ≡ floor_div n d
floor_div_from_quot n d p r = let split = quot-rem n d in floor_div_unique n d (int_div n d) p (omega (arith, ints)) (next_above n d p split (rem_small n d p))
  where
    next_above : (n d : ℤ) → pos 0 <ℤ d → int_div n d *ℤ d +ℤ int_rem n d ≡ n → int_rem n d <ℤ d → n <ℤ (int_div n d *ℤ d +ℤ d)
    next_above n d p e h = omega (arith, ints)

pub floor_div_from_quot_less : (n d : ℤ) → pos 0 <ℤ d → int_rem n d <ℤ pos 0 → int_div n d -ℤ pos 1 ≡ floor_div n d
floor_div_from_quot_less n d p r =
    let split = quot-rem n d in
    let small = rem_above n d p in
    let one_less = -ℤ-*ℤ (int_div n d) (pos 1) d in
    floor_div_unique n d (int_div n d -ℤ pos 1) p (omega (arith, ints)) (omega (arith, ints))

pub ceil_div_from_quot : (n d : ℤ) → pos 0 <ℤ d → int_rem n d ≤ℤ pos 0 → int_div n d ≡ ceil_div n d
ceil_div_from_quot n d p r =
    let split = quot-rem n d in
    let small = rem_above n d p in
    ceil_div_unique n d (int_div n d) p (omega (arith, ints)) (omega (arith, ints))

pub ceil_div_from_quot_more : (n d : ℤ) → pos 0 <ℤ d → pos 0 <ℤ int_rem n d → int_div n d +ℤ pos 1 ≡ ceil_div n d
ceil_div_from_quot_more n d p r =
    let split = quot-rem n d in
    let small = rem_small n d p in
    let one_more = +ℤ-*ℤ (int_div n d) (pos 1) d in
    ceil_div_unique n d (int_div n d +ℤ pos 1) p (omega (arith, ints)) (omega (arith, ints))

pub floor_div_fits : (w : Width) (n d : ℤ) → FitsSigned w n → pos 0 <ℤ d → FitsSigned w (floor_div n d)
floor_div_fits w (pos a) (pos b) f p = record { sfits = omega (arith, div-le_self a b, f.sfits) }
floor_div_fits w (negsuc a) (pos b) f p = record { sfits = omega (arith, div-le_self a b, f.sfits) }
floor_div_fits w n (negsuc b) f p = absurd p.lt

neg_not_above : (n : ℕ) → pos 0 <ℤ neg_ℤ (pos n) → ⊥
neg_not_above zero h = h.lt
neg_not_above (suc n) h = h.lt

pub quot_more_fits : (w : Width) (n d : ℤ) → FitsSigned w n → pos 0 <ℤ d → pos 0 <ℤ int_rem n d → FitsSigned w (int_div n d +ℤ pos 1)
quot_more_fits w (pos a) (pos b) f p r =
    let some : 0 < a % b = omega (arith, ints) in
    let one : 1 ≤ b = omega (arith, ints) in
    record { sfits = omega (arith, div-add-mod' a b, mul-le-mul_left (a / b) one, f.sfits) }
quot_more_fits w (negsuc a) (pos b) f p r = absurd (neg_not_above (suc a % b) r)
quot_more_fits w n (negsuc b) f p r = absurd p.lt

-- ---- the bounds, at a number that is the floor or the ceiling

pub at_most_from : (q n d : ℤ) → pos 0 <ℤ d → q ≡ floor_div n d → (q *ℤ d) ≤ℤ n
at_most_from q n d p e = subst (λ k. (k *ℤ d) ≤ℤ n) (sym e) (floor_div_at_most n d p)

pub next_above_from : (q n d : ℤ) → pos 0 <ℤ d → q ≡ floor_div n d → n <ℤ (q *ℤ d +ℤ d)
next_above_from q n d p e = subst (λ k. n <ℤ (k *ℤ d +ℤ d)) (sym e) (floor_div_next_above n d p)

pub at_least_from : (q n d : ℤ) → pos 0 <ℤ d → q ≡ ceil_div n d → n ≤ℤ (q *ℤ d)
at_least_from q n d p e = subst (λ k. n ≤ℤ (k *ℤ d)) (sym e) (ceil_div_at_least n d p)

pub last_below_from : (q n d : ℤ) → pos 0 <ℤ d → q ≡ ceil_div n d → (q *ℤ d) <ℤ (n +ℤ d)
last_below_from q n d p e = subst (λ k. (k *ℤ d) <ℤ (n +ℤ d)) (sym e) (ceil_div_last_below n d p)

pub within_from_floor : (q n d c : ℤ) → pos 0 <ℤ d → q ≡ floor_div n d → IsWithin (c *ℤ d) n → IsWithin c q
within_from_floor q n d c p e h = subst (IsWithin c) (sym e) (IsWithin-floor_div n d c p h)

pub within_from_ceil : (q n d c : ℤ) → pos 0 <ℤ d → q ≡ ceil_div n d → IsWithin (c *ℤ d) n → IsWithin c q
within_from_ceil q n d c p e h = subst (IsWithin c) (sym e) (IsWithin-ceil_div n d c p h)
