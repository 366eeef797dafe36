-- How many units a decimal is.
use Rattle.std.proofs.Common.{◌≡◌, ℕ, zero, suc, ◌+◌, ◌*◌, ◌/◌, ◌%◌, ◌^◌, ◌<◌, ◌≤◌, Bool, true, false, cond, eqb, leb, Ok, Err, ℤ, pos, negsuc, ◌-ℤ◌, ◌<ℤ◌, ◌≤ℤ◌, unsigned_abs, refl, sym, ap, arith, lit<}
use Rattle.std.proofs.Math.Nat.{mul-mod_left, div-mul_cancel, dvd_of_mod-eq-zero, mul-div-mul_right, mul-div_cancel, pow-le-pow_right, mul-le-mul, mul-le-mul_right, lt-div-mul-add, mod-eq_of_lt}
use Rattle.std.proofs.Math.Arith.{mod-mul}
use Rattle.std.proofs.lemmas.Nat.{pow-add}
use Rattle.std.proofs.lemmas.Int.{ints}
use Rattle.std.proofs.lemmas.Bool.Decides.{nat_tests}
use Rattle.spd_scaled.specs.declared.decimal.Decimal.{Decimal}
use Rattle.spd_scaled.specs.declared.decimal.Scale.TheVariants.{TooFine, TooLarge}
use Rattle.spd_scaled.specs.Decimal.{AreUnits, IsScaled}
use Rattle.spd_scaled.proofs.CallerLemmas.UnitsLaws.{ten_above}
use Rattle.spd_scaled.specs.DecimalReading.{limited, divided_by, units_from, signed_step}

-- ---- powers of ten

pub ten_up : (i j : ℕ) → i ≤ j → 10 ^ i ≤ 10 ^ j
ten_up i j h = pow-le-pow_right (lit< tt) h

mod_scaled : (a b m : ℕ) → 0 < m → 0 < b → (a * m) % (b * m) ≡ (a % b) * m
mod_scaled a b m h k =
    let split = mod-mul (a * m) {m = b} {c = m} k h in
    let back : a * m / m ≡ a = mul-div_cancel a h in
    let none : (a * m) % m ≡ 0 = mul-mod_left a m in
    rw (split, back, none) (omega arith)

is_zero_scaled : (x m : ℕ) → 0 < m → eqb (x * m) 0 ≡ eqb x 0
is_zero_scaled zero m h = grind (arith, nat_tests)
is_zero_scaled (suc x) m h = let some : 0 < suc x * m = omega (arith, mul-le-mul (one_up x) h) in grind (arith, nat_tests)
  where
    one_up : (x : ℕ) → 1 ≤ suc x
    one_up x = omega arith

-- ---- dividing by a power of ten

pub divided_by-scaled : (digits k places : ℕ) → divided_by (digits * 10 ^ places) (k + places) ≡ divided_by digits k
divided_by-scaled digits k places =
    let m = ten_above places in
    let b = ten_above k in
    rw (pow-add 10 k places, mod_scaled digits (10 ^ k) (10 ^ places) m b, is_zero_scaled (digits % 10 ^ k) (10 ^ places) m, mul-div-mul_right digits (10 ^ k) m) refl

pub divided_by-whole : (n p : ℕ) → divided_by (n * 10 ^ p) p ≡ limited n
divided_by-whole n p =
    let m = ten_above p in
    rw (mul-mod_left n (10 ^ p), mul-div_cancel n m) refl

pub divided_by-none : (digits k : ℕ) → 0 < digits → digits < 10 ^ k → divided_by digits k ≡ Err TooFine
divided_by-none digits k some below =
    let rest : digits % 10 ^ k ≡ digits = mod-eq_of_lt below in
    let not_none : eqb (digits % 10 ^ k) 0 ≡ false = grind (arith, nat_tests) in
    rw not_none refl

pub limited-above : (n : ℕ) → 10 ^ 30 < n → limited n ≡ Err TooLarge
limited-above n h = grind (arith, nat_tests)

pub limited-product : (digits power : ℕ) → 0 < digits → 30 < power → limited (digits * 10 ^ power) ≡ Err TooLarge
limited-product digits power some far =
    let step : 31 ≤ power = far in
    let wide : 10 ^ 31 ≤ 10 ^ power = pow-le-pow_right (lit< tt) step in
    limited-above (digits * 10 ^ power) (omega (arith, mul-le-mul some wide))

pub passes_quotient : (digits factor power : ℕ) → factor ≡ power → 0 < power → 10 ^ 30 / factor < digits → 10 ^ 30 < digits * power
passes_quotient digits factor power e some h =
    let above : 10 ^ 30 < 10 ^ 30 / power * power + power = lt-div-mul-add some in
    let quotient : 10 ^ 30 / power < digits = rw (← e) h in
    let up : (10 ^ 30 / power + 1) * power ≤ digits * power = mul-le-mul_right power (omega arith) in
    omega arith

-- ---- a number of units, by the places of the decimal

pub units_from-none : (places : ℕ) (p : ℤ) → Ok 0 ≡ units_from places 0 p
units_from-none places (pos p) = let e : 0 * 10 ^ places ≡ 0 * 10 ^ p = omega arith in rw e (sym (divided_by-whole 0 p))
units_from-none places (negsuc p) = let e : 0 * 10 ^ (places + suc p) ≡ 0 = omega arith in rw e refl

pub units_from-large : (places digits : ℕ) (p : ℤ) → 0 < digits → p <ℤ negsuc 29 → Err TooLarge ≡ units_from places digits p
units_from-large places digits (pos p) some far = absurd (omega (arith, ints))
units_from-large places digits (negsuc p) some far = sym (limited-product digits (places + suc p) some (omega (arith, ints)))

-- the decimal's places are finer than the unit
pub units_from-finer : (places digits : ℕ) (p : ℤ) → pos 0 <ℤ (p -ℤ pos places) → divided_by digits (unsigned_abs (p -ℤ pos places)) ≡ units_from places digits p
units_from-finer places digits (pos p) h = at_sum p (unsigned_abs (pos p -ℤ pos places)) (omega (arith, ints))
  where
    at_sum : (p k : ℕ) → p ≡ k + places → divided_by digits k ≡ divided_by (digits * 10 ^ places) p
    at_sum p k e = rw e (sym (divided_by-scaled digits k places))
units_from-finer places digits (negsuc p) h = absurd (omega (arith, ints))

-- the unit is as fine as the decimal's places, or finer
pub units_from-coarser : (places digits : ℕ) (p : ℤ) → (p -ℤ pos places) ≤ℤ pos 0 → limited (digits * 10 ^ unsigned_abs (p -ℤ pos places)) ≡ units_from places digits p
units_from-coarser places digits (pos p) h = at_sum places (unsigned_abs (pos p -ℤ pos places)) (omega (arith, ints))
  where
    at_sum : (places k : ℕ) → places ≡ k + p → limited (digits * 10 ^ k) ≡ divided_by (digits * 10 ^ places) p
    at_sum places k e =
        let apart : digits * (10 ^ k * 10 ^ p) ≡ digits * 10 ^ k * 10 ^ p = omega arith in
        rw (e, pow-add 10 k p, apart) (sym (divided_by-whole (digits * 10 ^ k) p))
units_from-coarser places digits (negsuc p) h =
    ap (λ (k : ℕ). limited (digits * 10 ^ k)) (exponents (unsigned_abs (negsuc p -ℤ pos places)) (omega (arith, ints)))
  where
    exponents : (k : ℕ) → k ≡ suc p + places → k ≡ places + suc p
    exponents k e = omega arith

-- ---- what the number of units says

told_limited : (places : ℕ) (d : Decimal) (n : ℕ) → AreUnits places n d.digits d.places → IsScaled places d (signed_step d.negative (limited n))
told_limited places d n are = by_size (leb n (10 ^ 30)) refl
  where
    by_size : (b : Bool) → leb n (10 ^ 30) ≡ b → IsScaled places d (signed_step d.negative (cond b (Ok n) (Err TooLarge)))
    by_size true e = (n, are, grind (arith, nat_tests), refl)
    by_size false e = (n, are, grind (arith, nat_tests))

told_from : (places : ℕ) (negative : Bool) (digits : ℕ) (p : ℤ) → IsScaled places (record { negative = negative; digits = digits; places = p }) (signed_step negative (units_from places digits p))
told_from places negative digits (negsuc p) = told_limited places (record { negative = negative; digits = digits; places = negsuc p }) (digits * 10 ^ (places + suc p)) refl
told_from places negative digits (pos p) = by_rest (eqb ((digits * 10 ^ places) % 10 ^ p) 0) refl
  where
    d : Decimal
    d = record { negative = negative; digits = digits; places = pos p }

    by_rest : (b : Bool) → eqb ((digits * 10 ^ places) % 10 ^ p) 0 ≡ b
        → IsScaled places (record { negative = negative; digits = digits; places = pos p }) (signed_step negative (cond b (limited ((digits * 10 ^ places) / 10 ^ p)) (Err TooFine)))
    by_rest true e =
        let none : (digits * 10 ^ places) % 10 ^ p ≡ 0 = grind (arith, nat_tests) in
        told_limited places (record { negative = negative; digits = digits; places = pos p }) ((digits * 10 ^ places) / 10 ^ p) (div-mul_cancel (10 ^ p) (dvd_of_mod-eq-zero (10 ^ p) none))
    by_rest false e = λ n are.
        let none : (digits * 10 ^ places) % 10 ^ p ≡ 0 = rw (sym are) (mul-mod_left n (10 ^ p)) in absurd (grind (arith, nat_tests))

pub scaled_told : (places : ℕ) (d : Decimal) → IsScaled places d (signed_step d.negative (units_from places d.digits d.places))
scaled_told places d = told_from places d.negative d.digits d.places

-- so many units are the number that is found
pub units_from-AreUnits : (places n digits : ℕ) (p : ℤ) → AreUnits places n digits p → units_from places digits p ≡ limited n
units_from-AreUnits places n digits (pos p) are = rw (sym are) (divided_by-whole n p)
units_from-AreUnits places n digits (negsuc p) are = ap limited (sym are)
