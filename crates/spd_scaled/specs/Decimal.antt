-- Decimals: how a number is written, which decimal a text writes, and how many units a decimal is.
use Rattle.std.specs.Prelude.{ℕ, zero, suc, ◌+◌, ◌*◌, ◌^◌, ◌%◌, ◌<◌, ◌≤◌, ◌≡◌, ◌≢◌, ◌⊎◌, Bool, true, false, List, [], ◌∷◌, ◌++◌, length, codes, Option, Some, None, Result, Ok, Err, ℤ, pos, negsuc, neg_ℤ, ◌+ℤ◌, ◌-ℤ◌}
use Rattle.std.specs.Str.Parse.{AllDigits, digits_value}
use Rattle.spd_scaled.specs.declared.decimal.Decimal.{Decimal}
use Rattle.spd_scaled.specs.declared.decimal.Scale.{Scale}
use Rattle.spd_scaled.specs.declared.decimal.Scale.TheVariants.{TooFine, TooLarge}

-- ---- how a number is written

-- a sign, or none
pub data Sign : Type 0 where
  bare : Sign
  plus : Sign
  minus : Sign

abbrev pub sign_bytes : Sign → List ℕ
sign_bytes bare = []
sign_bytes plus = codes "+"
sign_bytes minus = codes "-"

abbrev pub is_minus : Sign → Bool
is_minus bare = false
is_minus plus = false
is_minus minus = true

-- an exponent: its letter, its sign and its digits
pub record Exponent : Type 0 where
  pub letter : ℕ
  pub sign : Sign
  pub digits : List ℕ

-- A number as it is written: its sign, the digits before the point, the digits behind the point where there is a point,
-- and the exponent where there is one.
pub record Numeral : Type 0 where
  pub sign : Sign
  pub whole : List ℕ
  pub fraction : Option (List ℕ)
  pub exponent : Option Exponent

abbrev pub fraction_text : Option (List ℕ) → List ℕ
fraction_text None = []
fraction_text (Some digits) = codes "." ++ digits

abbrev pub exponent_text : Option Exponent → List ℕ
exponent_text None = []
exponent_text (Some e) = e.letter ∷ sign_bytes e.sign ++ e.digits

abbrev pub numeral_text : Numeral → List ℕ
numeral_text n = sign_bytes n.sign ++ (n.whole ++ (fraction_text n.fraction ++ exponent_text n.exponent))

-- the digits behind the point
abbrev pub digits_behind : Option (List ℕ) → List ℕ
digits_behind None = []
digits_behind (Some digits) = digits

-- `e` or `E`, and one or two digits
abbrev pub IsExponent : Option Exponent → Type 0
IsExponent None = Unit {0}
IsExponent (Some e) =
    ((e.letter ≡ 101) ⊎ (e.letter ≡ 69)) × AllDigits 10 e.digits × (1 ≤ length e.digits) × (length e.digits ≤ 2)

-- digits before or behind the point, or both
pub record IsNumeral (n : Numeral) : Type 0 where
  pub whole : AllDigits 10 n.whole
  pub fraction : AllDigits 10 (digits_behind n.fraction)
  pub some : 0 < length (n.whole ++ digits_behind n.fraction)
  pub exponent : IsExponent n.exponent

-- ---- the number that is written: its digits without a point, times 10^-places

abbrev pub digits_of : Numeral → ℕ
digits_of n = digits_value 10 (n.whole ++ digits_behind n.fraction)

-- a number with this sign: whether it is below zero, and its magnitude
abbrev pub with_sign : Bool → ℕ → ℤ
with_sign true n = neg_ℤ (pos n)
with_sign false n = pos n

abbrev pub exponent_of : Option Exponent → ℤ
exponent_of None = pos 0
exponent_of (Some e) = with_sign (is_minus e.sign) (digits_value 10 e.digits)

abbrev pub places_of : Numeral → ℤ
places_of n = pos (length (digits_behind n.fraction)) -ℤ exponent_of n.exponent

-- The number `digits * 10^-places` as a decimal: so many zeros at its end are left out, and zero has no sign and no places.
abbrev pub IsLowest : Bool → ℕ → ℤ → Decimal → Type 0
IsLowest negative zero places d = d ≡ record { negative = false; digits = 0; places = pos 0 }
IsLowest negative (suc n) places d =
    (zeros : ℕ) × (suc n ≡ d.digits * 10 ^ zeros) × (d.digits % 10 ≢ 0) × (places ≡ d.places +ℤ pos zeros) × (d.negative ≡ negative)

-- The text writes this decimal, which has at most 38 digits.
pub record Writes (text : List ℕ) (d : Decimal) : Type 0 where
  pub numeral : Numeral
  pub spelled : text ≡ numeral_text numeral
  pub formed : IsNumeral numeral
  pub value : IsLowest (is_minus numeral.sign) (digits_of numeral) (places_of numeral) d
  pub few : d.digits < 10 ^ 38

-- ---- units

-- n units of 10^-places are `digits * 10^-p`
abbrev pub AreUnits : ℕ → ℕ → ℕ → ℤ → Type 0
AreUnits places n digits (pos p) = n * 10 ^ p ≡ digits * 10 ^ places
AreUnits places n digits (negsuc p) = n ≡ digits * 10 ^ (places + suc p)

-- What a decimal is in units of 10^-places: a number of at most 10^30 units, or why there is none.
abbrev pub IsScaled : ℕ → Decimal → Result ℤ Scale → Type 0
IsScaled places d (Ok units) = (n : ℕ) × AreUnits places n d.digits d.places × (n ≤ 10 ^ 30) × (units ≡ with_sign d.negative n)
IsScaled places d (Err TooFine) = (n : ℕ) → ¬ AreUnits places n d.digits d.places
IsScaled places d (Err TooLarge) = (n : ℕ) × AreUnits places n d.digits d.places × (10 ^ 30 < n)
