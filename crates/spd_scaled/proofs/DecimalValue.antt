-- The number that digits write, without the zeros at its end.
use Rattle.std.proofs.Common.{◌≡◌, ◌≢◌, ℕ, zero, suc, ◌+◌, ◌-◌, ◌*◌, ◌%◌, ◌^◌, ◌<◌, ◌≤◌, Bool, true, false, cond, eqb, List, [], ◌∷◌, length, Option, Some, None, ℤ, pos, ◌-ℤ◌, refl, sym, ap, ◌∙◌, arith}
use Rattle.std.proofs.Math.Nat.{pow-suc, mul-mod_left, mul-le-mul, mul-le-mul_left}
use Rattle.std.proofs.lemmas.Nat.{mod-mul-add}
use Rattle.std.proofs.lemmas.Int.{ints}
use Rattle.std.proofs.lemmas.Bool.Decides.{nat_tests}
use Rattle.std.specs.Char.{digit_value}
use Rattle.std.specs.Str.Parse.{AllDigits, digits_value, digits_value_after}
use Rattle.std.proofs.lemmas.Str.Parse.{digit_from_value}
use Rattle.std.proofs.lemmas.Str.{digit_value_digit}
use Rattle.spd_scaled.specs.declared.decimal.Decimal.{Decimal}
use Rattle.spd_scaled.specs.Decimal.{IsLowest}
use Rattle.spd_scaled.specs.DecimalReading.{without_zero, without_end_zeros, read_value, value_step, lowest_of}
use Rattle.spd_scaled.proofs.CallerLemmas.UnitsLaws.{ten_above}
use Rattle.spd_scaled.proofs.DecimalParts.{read_value-few, read_value-Some}

-- ---- the zeros at the end are a power of ten

value_kept : (n : ℕ) (ds : List ℕ) → digits_value_after 10 n ds ≡ digits_value_after 10 n (without_end_zeros ds) * 10 ^ (length ds - length (without_end_zeros ds))
unfolding without_end_zeros
value_kept n [] = omega arith
value_kept n (d ∷ ds) = at_rest (without_end_zeros ds) (value_kept (n * 10 + digit_value d) ds)
  where
    at_rest : (ks : List ℕ) → digits_value_after 10 (n * 10 + digit_value d) ds ≡ digits_value_after 10 (n * 10 + digit_value d) ks * 10 ^ (length ds - length ks)
        → digits_value_after 10 (n * 10 + digit_value d) ds ≡ digits_value_after 10 n (without_zero d ks) * 10 ^ (suc (length ds) - length (without_zero d ks))
    at_rest (k ∷ ks) e =
        let same : suc (length ds) - suc (suc (length ks)) ≡ length ds - suc (length ks) = omega arith in
        rw same e
    at_rest [] e = by_zero (eqb d 48) refl
      where
        all : length ds - 0 ≡ length ds
        all = omega arith

        by_zero : (b : Bool) → eqb d 48 ≡ b → digits_value_after 10 (n * 10 + digit_value d) ds ≡ digits_value_after 10 n (cond b [] (d ∷ [])) * 10 ^ (suc (length ds) - length (cond b [] (d ∷ [])))
        by_zero true z =
            let is : d ≡ 48 = grind (arith, nat_tests) in
            let none : digit_value d ≡ 0 = rw is refl in
            let count : suc (length ds) - 0 ≡ suc (length ds) = omega arith in
            let more : n * 10 ^ suc (length ds) ≡ n * (10 ^ length ds * 10) = rw (pow-suc 10 (length ds)) refl in
            let here : (n * 10 + digit_value d) * 10 ^ (length ds - 0) ≡ n * 10 ^ suc (length ds) = rw (none, all) (omega (arith, more)) in
            rw count (e ∙ here)
        by_zero false z =
            let count : suc (length ds) - 1 ≡ length ds - 0 = omega arith in
            rw count e

-- ---- the last digit that is kept is no zero

last_kept : (n : ℕ) (ds : List ℕ) → AllDigits 10 ds → 0 < length (without_end_zeros ds) → digits_value_after 10 n (without_end_zeros ds) % 10 ≢ 0
unfolding without_end_zeros
last_kept n [] all some = absurd (omega arith)
last_kept n (d ∷ ds) all some = at_rest (without_end_zeros ds) (λ more. last_kept (n * 10 + digit_value d) ds all.1 more) some
  where
    at_rest : (ks : List ℕ) → (0 < length ks → digits_value_after 10 (n * 10 + digit_value d) ks % 10 ≢ 0) → 0 < length (without_zero d ks) → digits_value_after 10 n (without_zero d ks) % 10 ≢ 0
    at_rest (k ∷ ks) more some = more (omega arith)
    at_rest [] more some = by_zero (eqb d 48) refl some
      where
        by_zero : (b : Bool) → eqb d 48 ≡ b → 0 < length (cond b [] (d ∷ [])) → digits_value_after 10 n (cond b [] (d ∷ [])) % 10 ≢ 0
        by_zero true z some = absurd (omega arith)
        by_zero false z some =
            let not : d ≢ 48 = grind (arith, nat_tests) in
            let range = digit_from_value d all.0 in
            let value = digit_value_digit d range in
            let last : (n * 10 + digit_value d) % 10 ≡ digit_value d = mod-mul-add n 10 (digit_value d) all.0 in
            λ e. not (omega arith)

-- ---- a number without zeros at its end is fixed

up : (a i : ℕ) → a * 10 ^ suc i ≡ a * 10 ^ i * 10
up a i = rw (pow-suc 10 i) (omega arith)

one_lowest : (a b i j : ℕ) → a * 10 ^ i ≡ b * 10 ^ j → a % 10 ≢ 0 → b % 10 ≢ 0 → (a ≡ b) × (i ≡ j)
one_lowest a b zero zero e x y = (omega arith, refl)
one_lowest a b zero (suc j) e x y =
    let tens : a ≡ b * 10 ^ j * 10 = omega (arith, up b j, e) in
    absurd (x (rw tens (mul-mod_left (b * 10 ^ j) 10)))
one_lowest a b (suc i) zero e x y =
    let tens : b ≡ a * 10 ^ i * 10 = omega (arith, up a i, e) in
    absurd (y (rw tens (mul-mod_left (a * 10 ^ i) 10)))
one_lowest a b (suc i) (suc j) e x y =
    let less : a * 10 ^ i ≡ b * 10 ^ j = omega (arith, up a i, up b j, e) in
    let same = one_lowest a b i j less x y in
    (same.0, ap suc same.1)

-- ---- both ways

none_from_product : (n z : ℕ) → 0 ≡ n * 10 ^ z → n ≡ 0
none_from_product zero z e = refl
none_from_product (suc n) z e = absurd (omega (arith, mul-le-mul (one_up n) (ten_above z)))
  where
    one_up : (n : ℕ) → 1 ≤ suc n
    one_up n = omega arith

lowest_told : (negative : Bool) (v n z : ℕ) (places : ℤ) (d : Decimal) → v ≡ n * 10 ^ z → (0 < n → n % 10 ≢ 0) → value_step negative (places -ℤ pos z) (Some n) ≡ Some d
    → IsLowest negative v places d
lowest_told negative zero zero z places d e last is = cc
lowest_told negative zero (suc n) z places d e last is = let none = none_from_product (suc n) z e in absurd (omega arith)
lowest_told negative (suc v) zero z places d e last is = absurd (omega arith)
lowest_told negative (suc v) (suc n) z places d e last is =
    let same : record { negative = negative; digits = suc n; places = places -ℤ pos z } ≡ d = cc in (
      z,
      e ∙ ap (λ (k : Decimal). k.digits * 10 ^ z) same,
      (λ none. last (omega arith) (ap (λ (k : Decimal). k.digits % 10) same ∙ none)),
      (let p : places -ℤ pos z ≡ d.places = ap (λ (k : Decimal). k.places) same in omega (arith, ints)),
      sym (ap (λ (k : Decimal). k.negative) same),
    )

lowest_every : (negative : Bool) (v n z : ℕ) (places : ℤ) (d : Decimal) → v ≡ n * 10 ^ z → (0 < n → n % 10 ≢ 0) → IsLowest negative v places d → d.digits < 10 ^ 38
    → value_step negative (places -ℤ pos z) (read_value n) ≡ Some d
lowest_every negative zero n z places d e last is few = let none = none_from_product n z e in rw none (ap (λ (k : Decimal). Some k) (sym is))
lowest_every negative (suc v) zero z places d e last is few = absurd (omega arith)
lowest_every negative (suc v) (suc n) z places d e last is few =
    let same = one_lowest d.digits (suc n) is.0 z (sym is.1 ∙ e) is.2 (last (omega arith)) in
    let p : places -ℤ pos z ≡ d.places = omega (arith, ints, is.3, same.1) in
    rw (read_value-few (suc n) (omega (arith, same.0, few)), p, ← same.0, ← is.4) refl

some_digit : (ks : List ℕ) → 0 < digits_value 10 ks → 0 < length ks
some_digit [] some = absurd (omega arith)
some_digit (k ∷ ks) some = omega arith

kept_last : (ds : List ℕ) → AllDigits 10 ds → 0 < digits_value 10 (without_end_zeros ds) → digits_value 10 (without_end_zeros ds) % 10 ≢ 0
kept_last ds all some = last_kept 0 ds all (some_digit (without_end_zeros ds) some)

value_step-digits : (negative : Bool) (p : ℤ) (n : ℕ) (d : Decimal) → value_step negative p (Some n) ≡ Some d → n ≡ d.digits
value_step-digits negative p zero d e = let same : record { negative = false; digits = 0; places = pos 0 } ≡ d = cc in ap (λ (k : Decimal). k.digits) same
value_step-digits negative p (suc n) d e = let same : record { negative = negative; digits = suc n; places = p } ≡ d = cc in ap (λ (k : Decimal). k.digits) same

pub lowest_of-told : (negative : Bool) (ds : List ℕ) (places : ℤ) (d : Decimal) → AllDigits 10 ds → lowest_of negative ds places ≡ Some d
    → IsLowest negative (digits_value 10 ds) places d × (d.digits < 10 ^ 38)
unfolding lowest_of
lowest_of-told negative ds places d all is = by_read (read_value (digits_value 10 (without_end_zeros ds))) refl is
  where
    by_read : (o : Option ℕ) → read_value (digits_value 10 (without_end_zeros ds)) ≡ o → value_step negative (places -ℤ pos (length ds - length (without_end_zeros ds))) o ≡ Some d
        → IsLowest negative (digits_value 10 ds) places d × (d.digits < 10 ^ 38)
    by_read None e is = absurd (cc)
    by_read (Some n) e is =
        let value = read_value-Some n _ (sym e) in
        let at_value : value_step negative (places -ℤ pos (length ds - length (without_end_zeros ds))) (Some (digits_value 10 (without_end_zeros ds))) ≡ Some d = rw (← value.0) is in (
          lowest_told negative (digits_value 10 ds) (digits_value 10 (without_end_zeros ds)) (length ds - length (without_end_zeros ds)) places d (value_kept 0 ds) (kept_last ds all) at_value,
          omega (arith, value.1, value_step-digits negative _ _ d at_value),
        )

pub lowest_of-every : (negative : Bool) (ds : List ℕ) (places : ℤ) (d : Decimal) → AllDigits 10 ds → IsLowest negative (digits_value 10 ds) places d → d.digits < 10 ^ 38
    → lowest_of negative ds places ≡ Some d
unfolding lowest_of
lowest_of-every negative ds places d all is few =
    lowest_every negative (digits_value 10 ds) (digits_value 10 (without_end_zeros ds)) (length ds - length (without_end_zeros ds)) places d (value_kept 0 ds) (kept_last ds all) is few

-- ---- each number of few digits has its lowest form

least_step : (negative : Bool) (p : ℤ) (n : ℕ) → (d : Decimal) × (value_step negative p (Some n) ≡ Some d)
least_step negative p zero = (record { negative = false; digits = 0; places = pos 0 }, refl)
least_step negative p (suc n) = (record { negative = negative; digits = suc n; places = p }, refl)

pub lowest_of-found : (negative : Bool) (ds : List ℕ) (places : ℤ) → digits_value 10 ds < 10 ^ 38 → (d : Decimal) × (lowest_of negative ds places ≡ Some d)
unfolding lowest_of
lowest_of-found negative ds places few =
    let kept = digits_value 10 (without_end_zeros ds) in
    let zeros = length ds - length (without_end_zeros ds) in
    let least = ten_above zeros in
    let whole : kept * 1 ≤ kept * 10 ^ zeros = mul-le-mul_left kept least in
    let below : kept < 10 ^ 38 = omega (arith, value_kept 0 ds) in
    let found = least_step negative (places -ℤ pos zeros) kept in
    (found.0, rw (read_value-few kept below) found.1)
