-- The parts of the text of a number: what the code reads of it from left to right.
use Rattle.std.proofs.Common.{◌≡◌, ◌≢◌, ℕ, suc, ◌+◌, ◌-◌, ◌*◌, ◌^◌, ◌<◌, ◌≤◌, Bool, true, false, cond, ◌&&◌, ◌||◌, eqb, ltb, List, [], ◌∷◌, ◌++◌, length, take, drop, get_or, Option, Some, None, ℤ, pos, ◌-ℤ◌, refl, sym, ap, ◌∙◌, arith, drop-cons, add-one, take_all}
use Rattle.std.proofs.lemmas.Grind.{common_steps}
use Rattle.std.proofs.Math.Seq.{take-suc}
use Rattle.std.proofs.lemmas.Bool.Decides.{nat_tests}
use Rattle.std.specs.List.{list_all, prefix_len}
use Rattle.std.specs.Char.{is_ascii_digit, digit_value}
use Rattle.std.specs.Str.Parse.{AllDigits, digits_value, digits_value_after}
use Rattle.std.proofs.lemmas.Str.Parse.{digit_at, digit_from_value}
use Rattle.std.proofs.lemmas.Str.{digit_value_digit}
use Rattle.std.proofs.lemmas.Int.Digits.{digits_value-lt}
use Rattle.std.proofs.lemmas.Bool.{and_parts}
use Rattle.spd_scaled.proofs.DecimalUnits.{ten_up}
use Rattle.spd_scaled.specs.DecimalReading.{sign_at, digits_at, fraction_at, exponent_at, exponent_step, without_zero, without_end_zeros, are_exponent_digits, read_value, value_step, lowest_of, number_step, decimal_of}

-- ---- the bytes behind the first

abbrev pub behind : List ℕ → List ℕ
behind text = take (length text - 1) (drop 1 text)

behind-cons : (c : ℕ) (cs : List ℕ) → behind (c ∷ cs) ≡ cs
behind-cons c cs = grind (arith, common_steps)

-- ---- what stands first

pub sign_at-some : (text : List ℕ) → 0 < length text
    → sign_at text ≡ cond (eqb (get_or text 0 0) 45) (true, behind text) (cond (eqb (get_or text 0 0) 43) (false, behind text) (false, text))
unfolding sign_at
sign_at-some [] some = absurd (omega arith)
sign_at-some (c ∷ cs) some = rw (behind-cons c cs) refl

pub sign_at-other : (text : List ℕ) → get_or text 0 0 ≢ 45 → get_or text 0 0 ≢ 43 → sign_at text ≡ (false, text)
unfolding sign_at
sign_at-other [] minus plus = refl
sign_at-other (c ∷ cs) minus plus =
    let no_minus : eqb c 45 ≡ false = grind (arith, nat_tests) in
    let no_plus : eqb c 43 ≡ false = grind (arith, nat_tests) in
    rw (no_minus, no_plus) refl

pub fraction_at-some : (text : List ℕ) → 0 < length text → fraction_at text ≡ cond (eqb (get_or text 0 0) 46) (digits_at (behind text)) ([], text)
unfolding fraction_at
fraction_at-some [] some = absurd (omega arith)
fraction_at-some (c ∷ cs) some = rw (behind-cons c cs) refl

pub fraction_at-other : (text : List ℕ) → get_or text 0 0 ≢ 46 → fraction_at text ≡ ([], text)
unfolding fraction_at
fraction_at-other [] point = refl
fraction_at-other (c ∷ cs) point = let no_point : eqb c 46 ≡ false = grind (arith, nat_tests) in rw no_point refl

-- an empty text has no first byte
pub first-none : (text : List ℕ) (c : ℕ) → length text < 1 → 0 < c → get_or text 0 0 ≢ c
first-none [] c none some = omega arith
first-none (d ∷ ds) c none some = absurd (omega arith)

pub exponent_at-some : (text : List ℕ) → 0 < length text
    → exponent_at text ≡ cond (eqb (get_or text 0 0) 101 || eqb (get_or text 0 0) 69) (exponent_step (sign_at (behind text))) None
unfolding exponent_at
exponent_at-some [] some = absurd (omega arith)
exponent_at-some (c ∷ cs) some = rw (behind-cons c cs) refl

pub exponent_at-none : (text : List ℕ) → length text < 1 → exponent_at text ≡ Some (pos 0)
unfolding exponent_at
exponent_at-none [] none = refl
exponent_at-none (c ∷ cs) none = absurd (omega arith)

-- ---- numbers of digits

pub digits_value_after-above : (n : ℕ) (ds : List ℕ) → n ≤ digits_value_after 10 n ds
digits_value_after-above n [] = omega arith
digits_value_after-above n (d ∷ ds) = let more = digits_value_after-above (n * 10 + digit_value d) ds in omega arith

pub digits_value_after-append : (n : ℕ) (xs ys : List ℕ) → digits_value_after 10 n (xs ++ ys) ≡ digits_value_after 10 (digits_value_after 10 n xs) ys
digits_value_after-append n [] ys = refl
digits_value_after-append n (x ∷ xs) ys = digits_value_after-append (n * 10 + digit_value x) xs ys

pub digits_value_after-step : (n : ℕ) (ds : List ℕ) (i : ℕ) → AllDigits 10 ds → i < length ds
    → digits_value_after 10 (n * 10 + (get_or ds i 0 - 48)) (drop (i + 1) ds) ≡ digits_value_after 10 n (drop i ds)
digits_value_after-step n ds i all h =
    let range = digit_at ds i all h in
    let value : get_or ds i 0 - 48 ≡ digit_value (get_or ds i 0) = omega (arith, digit_value_digit (get_or ds i 0) range) in
    rw (value, add-one, drop-cons ds i 0) refl

pub read_value-few : (n : ℕ) → n < 10 ^ 38 → read_value n ≡ Some n
read_value-few n h = grind (arith, nat_tests)

pub read_value-many : (n : ℕ) → 10 ^ 38 ≤ n → read_value n ≡ None
read_value-many n h = grind (arith, nat_tests)

pub read_value-Some : (m n : ℕ) → Some m ≡ read_value n → (m ≡ n) × (n < 10 ^ 38)
read_value-Some m n e = by_size (ltb n (10 ^ 38)) refl e
  where
    by_size : (b : Bool) → ltb n (10 ^ 38) ≡ b → Some m ≡ cond b (Some n) None → (m ≡ n) × (n < 10 ^ 38)
    by_size true t e = ((cc), grind (arith, nat_tests))
    by_size false t e = absurd (cc)

pub read_value-None : (n : ℕ) → None ≡ read_value n → 10 ^ 38 ≤ n
read_value-None n e = by_size (ltb n (10 ^ 38)) refl e
  where
    by_size : (b : Bool) → ltb n (10 ^ 38) ≡ b → None ≡ cond b (Some n) None → 10 ^ 38 ≤ n
    by_size true t e = absurd (cc)
    by_size false t e = grind (arith, nat_tests)

-- ---- the digits of an exponent

digit_below : (d : ℕ) → is_ascii_digit d ≡ true → digit_value d < 10
digit_below d e = let low : 48 ≤ d = grind (arith, nat_tests) in let high : d ≤ 57 = grind (arith, nat_tests) in omega (arith, digit_value_digit d (low, high))

pub AllDigits-list_all : (ds : List ℕ) → list_all is_ascii_digit ds ≡ true → AllDigits 10 ds
AllDigits-list_all [] all = tt
AllDigits-list_all (d ∷ ds) all = let parts = and_parts (is_ascii_digit d) (list_all is_ascii_digit ds) all in (digit_below d parts.0, AllDigits-list_all ds parts.1)

pub is_digit : (d : ℕ) → digit_value d < 10 → is_ascii_digit d ≡ true
is_digit d h = let range = digit_from_value d h in let low : 48 ≤ d = range.0 in let high : d ≤ 57 = range.1 in grind (arith, nat_tests)

pub list_all-AllDigits : (ds : List ℕ) → AllDigits 10 ds → list_all is_ascii_digit ds ≡ true
list_all-AllDigits [] all = refl
list_all-AllDigits (d ∷ ds) all = let first : is_ascii_digit d ≡ true = is_digit d all.0 in rw (first) (list_all-AllDigits ds all.1)

-- one or two digits are a number below a hundred
pub exponent_small : (ds : List ℕ) → are_exponent_digits ds ≡ true → AllDigits 10 ds × (digits_value 10 ds < 100)
exponent_small ds e =
    let all : list_all is_ascii_digit ds ≡ true = grind (arith, nat_tests) in
    let short : length ds ≤ 2 = grind (arith, nat_tests) in
    let digits = AllDigits-list_all ds all in
    (digits, omega (arith, digits_value-lt 10 ds digits, ten_up (length ds) 2 short))

-- ---- zeros at the end

last_split : (xs : List ℕ) → 1 ≤ length xs → xs ≡ take (length xs - 1) xs ++ get_or xs (length xs - 1) 0 ∷ []
last_split xs some = by_length (length xs - 1) (omega arith)
  where
    by_length : (n : ℕ) → suc n ≡ length xs → xs ≡ take n xs ++ get_or xs n 0 ∷ []
    by_length n e = let h : n < length xs = omega arith in sym (take_all (suc n) xs (omega arith)) ∙ take-suc xs n 0 h

pub without_end_zeros-zero : (xs : List ℕ) → without_end_zeros (xs ++ 48 ∷ []) ≡ without_end_zeros xs
unfolding without_end_zeros
without_end_zeros-zero [] = refl
without_end_zeros-zero (x ∷ xs) = ap (without_zero x) (without_end_zeros-zero xs)

pub without_end_zeros-other : (xs : List ℕ) (c : ℕ) → c ≢ 48 → without_end_zeros (xs ++ c ∷ []) ≡ xs ++ c ∷ []
unfolding without_end_zeros
without_end_zeros-other [] c other = let no : eqb c 48 ≡ false = grind (arith, nat_tests) in rw no refl
without_end_zeros-other (x ∷ xs) c other = ap (without_zero x) (without_end_zeros-other xs c other) ∙ kept xs
  where
    kept : (ys : List ℕ) → without_zero x (ys ++ c ∷ []) ≡ x ∷ (ys ++ c ∷ [])
    kept [] = refl
    kept (y ∷ ys) = refl

-- the last digit is a zero
pub without_end_zeros-front : (xs : List ℕ) → 1 ≤ length xs → get_or xs (length xs - 1) 0 ≡ 48 → without_end_zeros (take (length xs - 1) xs) ≡ without_end_zeros xs
without_end_zeros-front xs some last =
    sym (ap without_end_zeros (last_split xs some ∙ ap (λ (c : ℕ). take (length xs - 1) xs ++ c ∷ []) last) ∙ without_end_zeros-zero (take (length xs - 1) xs))

-- and here it is none
pub without_end_zeros-whole : (xs : List ℕ) → 1 ≤ length xs → get_or xs (length xs - 1) 0 ≢ 48 → xs ≡ without_end_zeros xs
without_end_zeros-whole xs some last =
    let other = without_end_zeros-other (take (length xs - 1) xs) (get_or xs (length xs - 1) 0) last in
    last_split xs some ∙ sym (ap without_end_zeros (last_split xs some) ∙ other)

pub without_end_zeros-none : (xs : List ℕ) → length xs < 1 → xs ≡ without_end_zeros xs
unfolding without_end_zeros
without_end_zeros-none [] none = refl
without_end_zeros-none (x ∷ xs) none = absurd (omega arith)

pub AllDigits-append : (xs ys : List ℕ) → AllDigits 10 xs → AllDigits 10 ys → AllDigits 10 (xs ++ ys)
AllDigits-append [] ys a b = b
AllDigits-append (x ∷ xs) ys a b = (a.0, AllDigits-append xs ys a.1 b)

pub AllDigits-front : (xs ys : List ℕ) → AllDigits 10 (xs ++ ys) → AllDigits 10 xs
AllDigits-front [] ys a = tt
AllDigits-front (x ∷ xs) ys a = (a.0, AllDigits-front xs ys a.1)

pub AllDigits-back : (xs ys : List ℕ) → AllDigits 10 (xs ++ ys) → AllDigits 10 ys
AllDigits-back [] ys a = a
AllDigits-back (x ∷ xs) ys a = AllDigits-back xs ys a.1

pub AllDigits-without_end_zeros : (xs : List ℕ) → AllDigits 10 xs → AllDigits 10 (without_end_zeros xs)
unfolding without_end_zeros
AllDigits-without_end_zeros [] a = tt
AllDigits-without_end_zeros (x ∷ xs) a = kept (without_end_zeros xs) (AllDigits-without_end_zeros xs a.1)
  where
    kept : (ys : List ℕ) → AllDigits 10 ys → AllDigits 10 (without_zero x ys)
    kept [] b = by_case (eqb x 48)
      where
        by_case : (t : Bool) → AllDigits 10 (cond t [] (x ∷ []))
        by_case true = tt
        by_case false = (a.0, tt)
    kept (y ∷ ys) b = (a.0, b)

-- both in a row: where the second is nothing but zeros, the first ends before them
pub without_end_zeros-append : (xs ys : List ℕ) → without_end_zeros (xs ++ ys) ≡ cond (eqb (length (without_end_zeros ys)) 0) (without_end_zeros xs) (xs ++ without_end_zeros ys)
unfolding without_end_zeros
without_end_zeros-append [] ys = kept (without_end_zeros ys)
  where
    kept : (zs : List ℕ) → zs ≡ cond (eqb (length zs) 0) [] zs
    kept [] = refl
    kept (z ∷ zs) = grind (arith, nat_tests)
without_end_zeros-append (x ∷ xs) ys = ap (without_zero x) (without_end_zeros-append xs ys) ∙ kept (without_end_zeros ys)
  where
    some : (ws zs : List ℕ) (z : ℕ) → without_zero x (ws ++ z ∷ zs) ≡ x ∷ (ws ++ z ∷ zs)
    some [] zs z = refl
    some (w ∷ ws) zs z = refl

    kept : (zs : List ℕ) → without_zero x (cond (eqb (length zs) 0) (without_end_zeros xs) (xs ++ zs)) ≡ cond (eqb (length zs) 0) (without_zero x (without_end_zeros xs)) (x ∷ (xs ++ zs))
    kept [] = refl
    kept (z ∷ zs) = let no : eqb (length (z ∷ zs)) 0 ≡ false = grind (arith, nat_tests) in rw (no) (some xs zs z)

length-without_end_zeros : (xs : List ℕ) → length (without_end_zeros xs) ≤ length xs
unfolding without_end_zeros
length-without_end_zeros [] = omega arith
length-without_end_zeros (x ∷ xs) = omega (arith, kept (without_end_zeros xs), length-without_end_zeros xs)
  where
    kept : (ys : List ℕ) → length (without_zero x ys) ≤ suc (length ys)
    kept [] = by_case (eqb x 48)
      where
        by_case : (t : Bool) → length (cond t [] (x ∷ [])) ≤ 1
        by_case true = omega arith
        by_case false = omega arith
    kept (y ∷ ys) = omega arith

-- ---- the whole text

-- the digits that stand first are digits
pub AllDigits-digits_at : (text : List ℕ) → AllDigits 10 (digits_at text).0
unfolding digits_at
AllDigits-digits_at [] = tt
AllDigits-digits_at (c ∷ cs) = by_first (is_ascii_digit c) refl (AllDigits-digits_at cs)
  where
    by_first : (b : Bool) → is_ascii_digit c ≡ b → AllDigits 10 (take (prefix_len is_ascii_digit cs) cs) → AllDigits 10 (take (cond b (1 + prefix_len is_ascii_digit cs) 0) (c ∷ cs))
    by_first true e all = let n : 1 + prefix_len is_ascii_digit cs ≡ suc (prefix_len is_ascii_digit cs) = omega arith in rw n (digit_below c e, all)
    by_first false e all = tt

pub AllDigits-fraction_at : (text : List ℕ) → AllDigits 10 (fraction_at text).0
unfolding fraction_at
AllDigits-fraction_at [] = tt
AllDigits-fraction_at (c ∷ cs) = by_first (eqb c 46)
  where
    by_first : (b : Bool) → AllDigits 10 (cond b (digits_at cs) ([], c ∷ cs)).0
    by_first true = AllDigits-digits_at cs
    by_first false = tt

pub decimal_of-parts : (text u w aw f af : List ℕ) (negative : Bool) (e : Option ℤ) → negative ≡ (sign_at text).0 → u ≡ (sign_at text).1 → w ≡ (digits_at u).0 → aw ≡ (digits_at u).1
    → f ≡ (fraction_at aw).0 → af ≡ (fraction_at aw).1 → e ≡ exponent_at af → number_step negative w f e ≡ decimal_of text
unfolding decimal_of
decimal_of-parts text u w aw f af negative e is_sign is_u is_w is_aw is_f is_af is_e = rw (is_e, is_af, is_f, is_aw, is_w, is_u, is_sign) refl

pub lowest_of-parts : (negative : Bool) (digits kept : List ℕ) (places : ℤ) → kept ≡ without_end_zeros digits
    → value_step negative (places -ℤ pos (length digits - length kept)) (read_value (digits_value 10 kept)) ≡ lowest_of negative digits places
unfolding lowest_of
lowest_of-parts negative digits kept places e = rw e refl

pub length-kept : (digits kept : List ℕ) → kept ≡ without_end_zeros digits → length kept ≤ length digits
length-kept digits kept e = rw e (length-without_end_zeros digits)
