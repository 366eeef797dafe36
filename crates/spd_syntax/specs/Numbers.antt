-- Numbers: what a word in a number's place comes to.
use Rattle.std.specs.Prelude.{ℕ, ◌^◌, Bool, true, false, ◌&&◌, ◌||◌, not, if◌then◌else◌, List, Option, Some, None, Result, Ok, Err, ℤ, pos, neg_ℤ, ◌*ℤ◌, int_lt}
use Rattle.spd_scaled.specs.declared.decimal.Decimal.{Decimal}
use Rattle.spd_scaled.specs.declared.decimal.Scale.{Scale}
use Rattle.spd_scaled.specs.declared.decimal.Scale.TheVariants as scales
use Rattle.spd_scaled.specs.DecimalReading.{decimal_of, scaled_of}
use Rattle.spd_syntax.specs.declared.file.Quantity.{Quantity}
use Rattle.spd_syntax.specs.declared.file.Quantity.TheVariants.{Diagram, Table, Reward, Discount, Tolerance, Horizon}
use Rattle.spd_syntax.specs.declared.refusal.Refusal.{Refusal}
use Rattle.spd_syntax.specs.declared.refusal.Refusal.TheVariants.{Number, TooFine, TooLarge, Negative}

-- the decimal places of the unit of which the number is a whole multiple
abbrev pub places_of : Quantity → ℕ
places_of Diagram = 12
places_of Table = 12
places_of Reward = 9
places_of Discount = 6
places_of Tolerance = 9
places_of Horizon = 0

-- how many of the units that are kept make one such unit: amounts are kept in units of 10^-12
abbrev pub step_of : Quantity → ℤ
step_of Diagram = pos 1
step_of Table = pos 1
step_of Reward = pos 1000
step_of Discount = pos 1
step_of Tolerance = pos 1
step_of Horizon = pos 1

-- the greatest number
abbrev pub most_of : Quantity → ℤ
most_of Diagram = pos (10 ^ 30)
most_of Table = pos (10 ^ 30)
most_of Reward = pos (10 ^ 27)
most_of Discount = pos 999999
most_of Tolerance = pos (10 ^ 30)
most_of Horizon = pos 1000

-- a number below this one is too large as well
abbrev pub least_of : Quantity → ℤ
least_of Diagram = neg_ℤ (pos (10 ^ 30))
least_of Table = neg_ℤ (pos (10 ^ 30))
least_of Reward = neg_ℤ (pos (10 ^ 27))
least_of Discount = neg_ℤ (pos (10 ^ 30))
least_of Tolerance = neg_ℤ (pos (10 ^ 30))
least_of Horizon = neg_ℤ (pos (10 ^ 30))

abbrev pub may_be_negative : Quantity → Bool
may_be_negative Diagram = true
may_be_negative Table = false
may_be_negative Reward = true
may_be_negative Discount = false
may_be_negative Tolerance = false
may_be_negative Horizon = false

abbrev pub units_judged : Quantity → ℕ → Result ℤ Scale → Result ℤ Refusal
units_judged q at (Err scales.TooFine) = Err (TooFine at)
units_judged q at (Err scales.TooLarge) = Err (TooLarge at)
units_judged q at (Ok n) =
    if int_lt (most_of q) n || int_lt n (least_of q) then Err (TooLarge at)
    else (if int_lt n (pos 0) && not (may_be_negative q) then Err (Negative at)
    else Ok (n *ℤ step_of q))

abbrev pub decimal_judged : Quantity → ℕ → Option Decimal → Result ℤ Refusal
decimal_judged q at None = Err (Number at)
decimal_judged q at (Some d) = units_judged q at (scaled_of (places_of q) d)

-- What a word at this place comes to as a number of this kind, or its first fault: no decimal, too fine, too large, negative.
unfoldable pub number_of : Quantity → ℕ → List ℕ → Result ℤ Refusal
number_of q at text = decimal_judged q at (decimal_of text)
