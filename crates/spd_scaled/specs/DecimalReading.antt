-- Decimals as functions of their text: what reading gives, or nothing where no decimal is written.
use Rattle.std.specs.Prelude.{ℕ, zero, suc, ◌+◌, ◌-◌, ◌*◌, ◌/◌, ◌%◌, ◌^◌, ◌==◌, nat_le, nat_lt, ◌&&◌, ◌||◌, if◌then◌else◌, Bool, true, false, List, [], ◌∷◌, ◌++◌, length, take, drop, Option, Some, None, Result, Ok, Err, ℤ, pos, negsuc, ◌-ℤ◌}
use Rattle.std.specs.List.{list_all, prefix_len}
use Rattle.std.specs.Char.{is_ascii_digit}
use Rattle.std.specs.Str.Parse.{digits_value}
use Rattle.spd_scaled.specs.declared.decimal.Decimal.{Decimal}
use Rattle.spd_scaled.specs.declared.decimal.Scale.{Scale}
use Rattle.spd_scaled.specs.declared.decimal.Scale.TheVariants.{TooFine, TooLarge}
use Rattle.spd_scaled.specs.Decimal.{with_sign}

-- ---- the parts of a text, from left to right: what stands first, and what is behind it

-- whether the sign is a minus
unfoldable pub sign_at : List ℕ → Bool × List ℕ
sign_at [] = (false, [])
sign_at (c ∷ cs) = if c == 45 then (true, cs) else (if c == 43 then (false, cs) else (false, c ∷ cs))

unfoldable pub digits_at : List ℕ → List ℕ × List ℕ
digits_at text = (take (prefix_len is_ascii_digit text) text, drop (prefix_len is_ascii_digit text) text)

-- the digits behind the point
unfoldable pub fraction_at : List ℕ → List ℕ × List ℕ
fraction_at [] = ([], [])
fraction_at (c ∷ cs) = if c == 46 then digits_at cs else ([], c ∷ cs)

-- one or two digits
abbrev pub are_exponent_digits : List ℕ → Bool
are_exponent_digits digits = nat_le 1 (length digits) && (nat_le (length digits) 2 && list_all is_ascii_digit digits)

abbrev pub exponent_step : Bool × List ℕ → Option ℤ
exponent_step s = if are_exponent_digits s.1 then Some (with_sign s.0 (digits_value 10 s.1)) else None

-- the exponent, up to the end of the text
unfoldable pub exponent_at : List ℕ → Option ℤ
exponent_at [] = Some (pos 0)
exponent_at (c ∷ cs) = if c == 101 || c == 69 then exponent_step (sign_at cs) else None

-- ---- the number

abbrev pub without_zero : ℕ → List ℕ → List ℕ
without_zero c [] = if c == 48 then [] else c ∷ []
without_zero c (d ∷ ds) = c ∷ d ∷ ds

-- the digits up to the last one that is no zero
unfoldable pub without_end_zeros : List ℕ → List ℕ
without_end_zeros [] = []
without_end_zeros (c ∷ cs) = without_zero c (without_end_zeros cs)

-- a number of at most 38 digits
abbrev pub read_value : ℕ → Option ℕ
read_value n = if nat_lt n (10 ^ 38) then Some n else None

abbrev pub value_step : Bool → ℤ → Option ℕ → Option Decimal
value_step negative places None = None
value_step negative places (Some zero) = Some (record { negative = false; digits = 0; places = pos 0 })
value_step negative places (Some (suc n)) = Some (record { negative = negative; digits = suc n; places = places })

-- the decimal of these digits without a point, times 10^-places
unfoldable pub lowest_of : Bool → List ℕ → ℤ → Option Decimal
lowest_of negative digits places =
    value_step negative (places -ℤ pos (length digits - length (without_end_zeros digits))) (read_value (digits_value 10 (without_end_zeros digits)))

abbrev pub number_step : Bool → List ℕ → List ℕ → Option ℤ → Option Decimal
number_step negative whole fraction None = None
number_step negative whole fraction (Some exponent) =
    if length (whole ++ fraction) == 0 then None else lowest_of negative (whole ++ fraction) (pos (length fraction) -ℤ exponent)

-- the decimal that a text writes
unfoldable pub decimal_of : List ℕ → Option Decimal
decimal_of text =
    let s = sign_at text in
    let w = digits_at s.1 in
    let f = fraction_at w.1 in
    number_step s.0 w.0 f.0 (exponent_at f.1)

-- ---- units

-- so many units, where they are at most 10^30
abbrev pub limited : ℕ → Result ℕ Scale
limited n = if nat_le n (10 ^ 30) then Ok n else Err TooLarge

-- `n / 10^p` units, where they are whole
abbrev pub divided_by : ℕ → ℕ → Result ℕ Scale
divided_by n p = if n % 10 ^ p == 0 then limited (n / 10 ^ p) else Err TooFine

-- so many units of 10^-places are `digits * 10^-p`
abbrev pub units_from : ℕ → ℕ → ℤ → Result ℕ Scale
units_from places digits (pos p) = divided_by (digits * 10 ^ places) p
units_from places digits (negsuc p) = limited (digits * 10 ^ (places + suc p))

abbrev pub signed_step : Bool → Result ℕ Scale → Result ℤ Scale
signed_step negative (Ok n) = Ok (with_sign negative n)
signed_step negative (Err e) = Err e

-- a decimal in units of 10^-places
unfoldable pub scaled_of : ℕ → Decimal → Result ℤ Scale
scaled_of places d = signed_step d.negative (units_from places d.digits d.places)
