-- Words that are whole numbers: each is the decimal of the number that is read.
use Rattle.std.proofs.Common.{◌≡◌, ℕ, zero, suc, ◌<◌, ◌≤◌, ◌^◌, Bool, true, false, cond, eqb, ltb, leb, ◌&&◌, ◌||◌, not, List, [], ◌∷◌, length, get_or, decimal, Some, None, refl, sym, ap, ◌∙◌, arith}
use Rattle.std.specs.List.{list_all}
use Rattle.std.specs.Char.{is_ascii_digit}
use Rattle.std.specs.Str.Parse.{AllDigits, digits_value}
use Rattle.std.proofs.lemmas.Bool.{and_parts, and_from, eqb-true, ne_eqb, ltb-true, lt-ltb, leb-true, le-leb}
use Rattle.std.proofs.lemmas.Option.{same_Some}
use Rattle.std.proofs.lemmas.Fmt.{decimal_is_IsNumeral, first_decimal, length-decimal-le, decimal_digit, decimal-digits_value}
use Rattle.std.proofs.lemmas.Str.Parse.{numerals_by_value, tells_digits, digit_from_value}
use Rattle.spd_scaled.proofs.CallerLemmas.{AllDigits-list_all}
use Rattle.spd_cert.specs.Grammar.{IsWord}
use Rattle.spd_cert.specs.Reading.{is_break}
use Rattle.spd_cert.specs.Words.{is_whole, within, whole_in, number_below}

-- digits have no space and no LF
pub digits_are_word : (ds : List ℕ) → AllDigits 10 ds → IsWord ds
digits_are_word [] all = refl
digits_are_word (c ∷ cs) all =
    let range = digit_from_value c all.0 in
    let space : eqb c 32 ≡ false = ne_eqb c 32 (λ e. omega (arith, range, e)) in
    let line : eqb c 10 ≡ false = ne_eqb c 10 (λ e. omega (arith, range, e)) in
    and_from (not (is_break c)) (list_all (λ d. not (is_break d)) cs) ((λ i. not (space i || line i))) (digits_are_word cs all.1)

pub decimal_is_word : (n : ℕ) → n < 2 ^ 64 → IsWord (decimal n)
decimal_is_word n small = digits_are_word (decimal n) (decimal_is_IsNumeral n small).0.1

-- ---- the form of a whole number

pub whole_digits : (w : List ℕ) → is_whole w ≡ true → AllDigits 10 w × (0 < length w) × (get_or w 0 0 ≡ 48 → length w ≡ 1)
whole_digits [] e = absurd cc
whole_digits (c ∷ cs) e =
    let parts = and_parts (list_all is_ascii_digit (c ∷ cs)) (not (eqb c 48) || eqb (length cs) 0) e in
    (AllDigits-list_all (c ∷ cs) parts.0, omega arith, λ zero_first. alone (eqb c 48) (ap (λ k. eqb k 48) zero_first) parts.1)
  where
    alone : (b : Bool) → b ≡ true → (not b || eqb (length cs) 0) ≡ true → length (c ∷ cs) ≡ 1
    alone true t s = let none = eqb-true (length cs) 0 s in omega (arith, none)
    alone false t s = absurd cc

pub whole_is_decimal : (w : List ℕ) → is_whole w ≡ true → digits_value 10 w < 2 ^ 64 → w ≡ decimal (digits_value 10 w)
whole_is_decimal w e small =
    let d = whole_digits w e in sym (decimal-digits_value (numerals_by_value _ tells_digits) w d.0 d.1 d.2 small)

pub decimal_is_whole : (n : ℕ) → n < 2 ^ 64 → is_whole (decimal n) ≡ true
decimal_is_whole zero small = ap is_whole (decimal_digit 0 (omega arith))
decimal_is_whole (suc n) small =
    let numeral = decimal_is_IsNumeral (suc n) small in by (decimal (suc n)) (pass (decimal (suc n)) numeral.0.1) numeral.0.0 (first_decimal (suc n) (omega arith) small)
  where
    pass : (ds : List ℕ) → AllDigits 10 ds → list_all is_ascii_digit ds ≡ true
    pass [] all = refl
    pass (c ∷ cs) all =
        let range = digit_from_value c all.0 in
        and_from (is_ascii_digit c) (list_all is_ascii_digit cs) (and_from _ _ (le-leb 48 c (omega (arith, range))) (le-leb c 57 (omega (arith, range)))) (pass cs all.1)

    by : (ds : List ℕ) → list_all is_ascii_digit ds ≡ true → 0 < length ds → 48 < get_or ds 0 0 → is_whole ds ≡ true
    by [] all some first = absurd (omega arith)
    by (c ∷ cs) all some first =
        let other : eqb c 48 ≡ false = ne_eqb c 48 (λ e. omega (arith, first, e)) in
        and_from (list_all is_ascii_digit (c ∷ cs)) (not (eqb c 48) || eqb (length cs) 0) all (ap (λ b. not b || eqb (length cs) 0) other)

pub decimal_value : (n : ℕ) → n < 2 ^ 64 → digits_value 10 (decimal n) ≡ n
decimal_value n small = (decimal_is_IsNumeral n small).1

decimal_short : (n : ℕ) → n < 10 ^ 10 → leb (length (decimal n)) 10 ≡ true
decimal_short n small = le-leb (length (decimal n)) 10 (length-decimal-le 10 n (omega arith) small (omega (arith, small)))

-- ---- a whole number in a range

within_told : (low high n k : ℕ) → within low high n ≡ Some k → (n ≡ k) × (low ≤ k) × (k ≤ high)
within_told low high n k e = by (leb low n && leb n high) refl e
  where
    by : (b : Bool) → (leb low n && leb n high) ≡ b → cond b (Some n) None ≡ Some k → (n ≡ k) × (low ≤ k) × (k ≤ high)
    by false t is = absurd cc
    by true t is =
        let same = same_Some n k is in
        let parts = and_parts (leb low n) (leb n high) t in
        (same, omega (arith, leb-true low n parts.0, same), omega (arith, leb-true n high parts.1, same))

pub whole_told : (low high : ℕ) (w : List ℕ) (n : ℕ) → high < 2 ^ 64 → whole_in low high w ≡ Some n → (w ≡ decimal n) × (low ≤ n) × (n ≤ high)
unfolding whole_in
whole_told low high w n wide e = by (is_whole w && leb (length w) 10) refl e
  where
    by : (b : Bool) → (is_whole w && leb (length w) 10) ≡ b → cond b (within low high (digits_value 10 w)) None ≡ Some n → (w ≡ decimal n) × (low ≤ n) × (n ≤ high)
    by false t is = absurd cc
    by true t is =
        let parts = and_parts (is_whole w) (leb (length w) 10) t in
        let range = within_told low high (digits_value 10 w) n is in
        (whole_is_decimal w parts.0 (omega (arith, range, wide)) ∙ ap decimal range.0, range.1, range.2)

pub whole_read : (low high n : ℕ) → low ≤ n → n ≤ high → high < 10 ^ 10 → whole_in low high (decimal n) ≡ Some n
unfolding whole_in
whole_read low high n above below wide =
    let form : (is_whole (decimal n) && leb (length (decimal n)) 10) ≡ true = and_from _ _ (decimal_is_whole n (omega (arith, below, wide))) (decimal_short n (omega (arith, below, wide))) in
    let fits : (leb low n && leb n high) ≡ true = and_from _ _ (le-leb low n above) (le-leb n high below) in
    ap (λ b. cond b (within low high (digits_value 10 (decimal n))) None) form
    ∙ ap (within low high) (decimal_value n (omega (arith, below, wide)))
    ∙ ap (λ b. cond b (Some n) None) fits

-- ---- a number below another

pub below_told : (end : ℕ) (w : List ℕ) (n : ℕ) → end < 2 ^ 64 → is_whole w ≡ true → number_below end w ≡ Some n → (w ≡ decimal n) × (n < end)
unfolding number_below
below_told end w n wide whole e = by (leb (length w) 10 && ltb (digits_value 10 w) end) refl e
  where
    by : (b : Bool) → (leb (length w) 10 && ltb (digits_value 10 w) end) ≡ b → cond b (Some (digits_value 10 w)) None ≡ Some n → (w ≡ decimal n) × (n < end)
    by false t is = absurd cc
    by true t is =
        let same = same_Some (digits_value 10 w) n is in
        let under = ltb-true (digits_value 10 w) end (and_parts (leb (length w) 10) (ltb (digits_value 10 w) end) t).1 in
        (whole_is_decimal w whole (omega (arith, under, wide)) ∙ ap decimal same, omega (arith, under, same))

pub below_read : (end n : ℕ) → n < end → n < 10 ^ 10 → number_below end (decimal n) ≡ Some n
unfolding number_below
below_read end n under small =
    let value = decimal_value n (omega (arith, small)) in
    let short = decimal_short n small in
    let less : ltb (digits_value 10 (decimal n)) end ≡ true = lt-ltb (digits_value 10 (decimal n)) end (omega (arith, value, under)) in
    ap (λ b. cond b (Some (digits_value 10 (decimal n))) None) (and_from _ _ short less) ∙ ap (λ k. Some k) value
