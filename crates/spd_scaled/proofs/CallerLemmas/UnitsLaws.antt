-- The text of a scaled number: its digits, and how long it is.
use Rattle.std.proofs.Common.{◌≡◌, ℕ, zero, suc, ◌+◌, ◌*◌, ◌/◌, ◌%◌, ◌^◌, ◌<◌, ◌⊎◌, List, [], ◌∷◌, ◌-◌, length, take, drop, take_all, decimal, refl, inl, inr, lit<, arith, ◌∙◌, length-append}
use Rattle.std.proofs.lemmas.Fmt.{decimal_digit, decimal_step_wide}
use Rattle.std.proofs.Math.Nat.{pow-suc, mod-lt}
use Rattle.std.proofs.lemmas.Nat.{div-mul-add, mod-mul-add}
use Rattle.std.proofs.Math.Arith.{mod-mul}
use Rattle.std.proofs.lemmas.Int.Digits.{digits_push, digits_value_push}
use Rattle.std.specs.Str.Parse.{AllDigits, digits_value}
use Rattle.std.specs.Char.{digit_value}
use Rattle.std.proofs.lemmas.Str.{digit_value_digit}
use Rattle.spd_scaled.specs.Units.{last_digits}

pub length-last_digits : (count n : ℕ) → length (last_digits count n) ≡ count
length-last_digits zero n = refl
length-last_digits (suc count) n =
    omega (arith, length-append (last_digits count (n / 10)) ((48 + n % 10) ∷ []), length-last_digits count (n / 10))

pub ten_above : (count : ℕ) → 0 < 10 ^ count
ten_above zero = omega arith
ten_above (suc count) = omega (arith, pow-suc 10 count, ten_above count)

-- a last digit d below the digits of a
digit_split : (a d : ℕ) → d < 10 → ((a * 10 + d) / 10 ≡ a) × ((a * 10 + d) % 10 ≡ d)
digit_split a d h = (div-mul-add a 10 d h, mod-mul-add a 10 d h)

-- a 1 before the last digits of a number, as `decimal` writes it
pub decimal-last_digits : (count n : ℕ) → 10 ^ count < 10 ^ 60 → decimal (10 ^ count + n % 10 ^ count) ≡ 49 ∷ last_digits count n
decimal-last_digits zero n h = let one : 10 ^ 0 + n % 10 ^ 0 ≡ 1 = omega arith in rw one (decimal_digit 1 (omega arith))
decimal-last_digits (suc count) n h =
    let front = 10 ^ count + n / 10 % 10 ^ count in
    let whole : 10 ^ suc count + n % 10 ^ suc count ≡ front * 10 + n % 10 = digits_shift count n in
    let above = ten_above count in
    let digits = digit_split front (n % 10) (omega arith) in
    let small : front < 2 * 10 ^ count = omega (arith, less_than_power count (n / 10)) in
    rw whole (
    decimal_step_wide (front * 10 + n % 10) (omega arith) (omega (arith, pow-suc 10 count))
    ∙ rw (digits.0, digits.1, decimal-last_digits count (n / 10) (omega (arith, pow-suc 10 count))) refl
    )
  where
    less_than_power : (count n : ℕ) → n % 10 ^ count < 10 ^ count
    less_than_power count n = mod-lt n (ten_above count)

    digits_shift : (count n : ℕ) → 10 ^ suc count + n % 10 ^ suc count ≡ (10 ^ count + n / 10 % 10 ^ count) * 10 + n % 10
    digits_shift count n =
        let split = mod-mul n {m = 10 ^ count} {c = 10} (ten_above count) (omega arith) in rw (pow-suc 10 count) (omega (arith, split))

-- what the code writes: all but the 1 of a 1 and the last digits
pub padded_text : (places n one : ℕ) (bytes : List ℕ) → (places ≡ 9) ⊎ (places ≡ 12) → one ≡ 10 ^ places → bytes ≡ decimal (one + n % one) → bytes ≡ 49 ∷ last_digits places n
padded_text places n one bytes few e text = text ∙ rw e (decimal-last_digits places n (power_small places few))
  where
    power_small : (places : ℕ) → (places ≡ 9) ⊎ (places ≡ 12) → 10 ^ places < 10 ^ 60
    power_small places (inl e) = rw e (lit< tt)
    power_small places (inr e) = rw e (lit< tt)

pub without_first : (first : ℕ) (bytes rest : List ℕ) → bytes ≡ first ∷ rest → take (length bytes - 1) (drop 1 bytes) ≡ rest
without_first first bytes rest e = rw e (let all : suc (length rest) - 1 ≡ length rest = omega arith in rw all (take_all (length rest) rest (omega arith)))

-- ---- what a reader of the text finds

digit_value_is : (d : ℕ) → d < 10 → digit_value (48 + d) ≡ d
digit_value_is d h = omega (arith, digit_value_digit (48 + d) (omega arith, omega arith))

pub AllDigits-last_digits : (count n : ℕ) → AllDigits 10 (last_digits count n)
AllDigits-last_digits zero n = tt
AllDigits-last_digits (suc count) n =
    digits_push 10 (last_digits count (n / 10)) (48 + n % 10) (AllDigits-last_digits count (n / 10)) (let value = digit_value_is (n % 10) (omega arith) in omega arith)

pub digits_value-last_digits : (count n : ℕ) → digits_value 10 (last_digits count n) ≡ n % 10 ^ count
digits_value-last_digits zero n = omega arith
digits_value-last_digits (suc count) n =
    let split = mod-mul n {m = 10 ^ count} {c = 10} (ten_above count) (omega arith) in
    let last = digit_value_is (n % 10) (omega arith) in
    let push = digits_value_push 10 (last_digits count (n / 10)) (48 + n % 10) in
    let rest = digits_value-last_digits count (n / 10) in
    rw (pow-suc 10 count) (omega (arith, push, rest, last, split))
