-- The text of a number of units is read back to the same number.
use Rattle.std.proofs.Common.{◌≡◌, ℕ, zero, suc, ◌+◌, ◌*◌, ◌/◌, ◌^◌, ◌<◌, ◌≤◌, ◌⊎◌, Bool, List, [], ◌∷◌, ◌++◌, length, length-append, append_assoc, append-nil, codes, decimal, Some, None, Ok, ℤ, pos, negsuc, ◌+ℤ◌, ◌-ℤ◌, unsigned_abs, refl, ap, subst, ◌∙◌, arith}
use Rattle.std.proofs.lemmas.Int.{ints}
use Rattle.std.proofs.lemmas.Nat.{pow-add}
use Rattle.std.proofs.Math.Nat.{pow-succ', div-le_self}
use native.Mathlib.Nat.{div-add-mod'}
use Rattle.std.proofs.lemmas.Fmt.{decimal_is_IsNumeral_wide}
use Rattle.std.specs.Char.{digit_value}
use Rattle.std.specs.Str.Parse.{digits_value, digits_value_after}
use Rattle.spd_scaled.specs.declared.decimal.Decimal.{Decimal}
use Rattle.spd_scaled.specs.Scaled.{IsWithin}
use Rattle.spd_scaled.specs.Units.{last_digits, sign_text, units_text}
use Rattle.spd_scaled.specs.Decimal.{Sign, bare, minus, sign_bytes, is_minus, Numeral, numeral_text, places_of, with_sign, IsLowest, AreUnits, IsScaled, Writes}
use Rattle.spd_scaled.proofs.CallerLemmas.UnitsLaws.{length-last_digits, AllDigits-last_digits, digits_value-last_digits}
use Rattle.spd_scaled.proofs.DecimalParts.{AllDigits-append, digits_value_after-append}
use Rattle.spd_scaled.proofs.DecimalValue.{lowest_of-found, lowest_of-told}

-- ---- the number that the digits of the text write

digits_value_after-sum : (n : ℕ) (ds : List ℕ) → digits_value_after 10 n ds ≡ n * 10 ^ length ds + digits_value 10 ds
digits_value_after-sum n [] = omega arith
digits_value_after-sum n (d ∷ ds) =
    let here = digits_value_after-sum (n * 10 + digit_value d) ds in
    let there = digits_value_after-sum (digit_value d) ds in
    let alone : 0 * 10 + digit_value d ≡ digit_value d = omega arith in
    let power = pow-succ' 10 (length ds) in
    rw (power, alone) (omega (arith, here, there))

value_of_parts : (places n : ℕ) → n < 10 ^ 31 → digits_value 10 (decimal (n / 10 ^ places) ++ last_digits places n) ≡ n
value_of_parts places n h =
    let whole = n / 10 ^ places in
    let less = div-le_self n (10 ^ places) in
    let read = (decimal_is_IsNumeral_wide whole (omega arith)).1 in
    let both = digits_value_after-append 0 (decimal whole) (last_digits places n) in
    let sum = digits_value_after-sum (digits_value 10 (decimal whole)) (last_digits places n) in
    let last = digits_value-last_digits places n in
    both ∙ sum ∙ rw (read, length-last_digits places n, last) (omega (arith, div-add-mod' n (10 ^ places)))

-- ---- the text as a numeral

sign_of : ℤ → Sign
sign_of (pos n) = bare
sign_of (negsuc n) = minus

abbrev numeral_of : ℕ → ℤ → Numeral
numeral_of places n =
    record { sign = sign_of n; whole = decimal (unsigned_abs n / 10 ^ places); fraction = Some (last_digits places (unsigned_abs n)); exponent = None }

sign_spelled : (n : ℤ) → sign_text n ≡ sign_bytes (sign_of n)
unfolding sign_of
sign_spelled (pos n) = refl
sign_spelled (negsuc n) = refl

spelled_as : (places : ℕ) (n : ℤ) → units_text places n ≡ numeral_text (numeral_of places n)
spelled_as places n =
    ap (λ (s : List ℕ). s ++ decimal (unsigned_abs n / 10 ^ places) ++ codes "." ++ last_digits places (unsigned_abs n)) (sign_spelled n)
    ∙ regroup (sign_bytes (sign_of n)) (decimal (unsigned_abs n / 10 ^ places)) (last_digits places (unsigned_abs n))
  where
    regroup : (s ds ls : List ℕ) → s ++ ds ++ codes "." ++ ls ≡ s ++ (ds ++ (codes "." ++ ls ++ []))
    regroup s ds ls = simp (append_assoc, append-nil)

-- ---- its lowest form, and its units

-- units of which the lowest form is a decimal are that many
are_units : (places n : ℕ) (negative : Bool) (d : Decimal) → IsLowest negative n (pos places -ℤ pos 0) d → AreUnits places n d.digits d.places
are_units places zero negative d is = rw is (omega arith)
are_units places (suc n) negative d is = by_places d.places is.3
  where
    by_places : (p : ℤ) → (pos places -ℤ pos 0) ≡ p +ℤ pos is.0 → AreUnits places (suc n) d.digits p
    by_places (pos p) e =
        let all : places ≡ is.0 + p = omega (arith, ints) in
        let power : 10 ^ places ≡ 10 ^ is.0 * 10 ^ p = rw (all) (pow-add 10 is.0 p) in
        let more : suc n * 10 ^ p ≡ d.digits * 10 ^ is.0 * 10 ^ p = ap (λ (k : ℕ). k * 10 ^ p) is.1 in
        rw (more, power) (omega arith)
    by_places (negsuc p) e = let all : is.0 ≡ places + suc p = omega (arith, ints) in rw (← all) is.1

signed_units : (n : ℤ) (p : ℤ) (d : Decimal) → IsLowest (is_minus (sign_of n)) (unsigned_abs n) p d → n ≡ with_sign d.negative (unsigned_abs n)
unfolding sign_of
signed_units (pos zero) p d is = rw is refl
signed_units (pos (suc n)) p d is = rw is.4 refl
signed_units (negsuc n) p d is = rw is.4 refl

pub read_back : (places : ℕ) (n : ℤ) → (places ≡ 9) ⊎ (places ≡ 12) → IsWithin (pos (10 ^ 30)) n → (d : Decimal) × Writes (units_text places n) d × IsScaled places d (Ok n)
read_back places n few within =
    let small : unsigned_abs n ≤ 10 ^ 30 = omega (arith, ints) in
    let less = div-le_self (unsigned_abs n) (10 ^ places) in
    let whole = decimal_is_IsNumeral_wide (unsigned_abs n / 10 ^ places) (omega arith) in
    let digits = decimal (unsigned_abs n / 10 ^ places) ++ last_digits places (unsigned_abs n) in
    let all = AllDigits-append (decimal (unsigned_abs n / 10 ^ places)) (last_digits places (unsigned_abs n)) whole.0.1 (AllDigits-last_digits places (unsigned_abs n)) in
    let value : digits_value 10 digits ≡ unsigned_abs n = value_of_parts places (unsigned_abs n) (omega arith) in
    let found = lowest_of-found (is_minus (sign_of n)) digits (places_of (numeral_of places n)) (omega (arith, value)) in
    let told = lowest_of-told (is_minus (sign_of n)) digits (places_of (numeral_of places n)) found.0 all found.1 in
    let at_value : IsLowest (is_minus (sign_of n)) (unsigned_abs n) (pos places -ℤ pos 0) found.0 =
    subst (λ (v : ℕ). IsLowest (is_minus (sign_of n)) v (pos places -ℤ pos 0) found.0) value
    (subst (λ (k : ℕ). IsLowest (is_minus (sign_of n)) (digits_value 10 digits) (pos k -ℤ pos 0) found.0) (length-last_digits places (unsigned_abs n)) told.0) in (
      found.0,
      record {
        numeral = numeral_of places n;
        spelled = spelled_as places n;
        formed = record { whole = whole.0.1; fraction = AllDigits-last_digits places (unsigned_abs n); some = omega (arith, whole.0.0, length-append (decimal (unsigned_abs n / 10 ^ places)) (last_digits places (unsigned_abs n))); exponent = tt };
        value = told.0;
        few = told.1;
      },
      (unsigned_abs n, are_units places (unsigned_abs n) (is_minus (sign_of n)) found.0 at_value, small, signed_units n (pos places -ℤ pos 0) found.0 at_value),
    )
