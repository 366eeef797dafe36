-- How many turns are enough: a bound that is known after turn 0, from its residual, the discount, the span and the tolerance.
use Rattle.std.specs.Prelude.{ℕ, ◌+◌, ◌-◌, ◌*◌, ◌^◌, Bool, ℤ, pos, ◌+ℤ◌, ◌*ℤ◌, int_le, int_lt, length}
use Rattle.std.specs.Int.{int_max}
use Rattle.spd_model.specs.Process.{Process}
use Rattle.spd_model.specs.States.{sizes, at}
use Rattle.spd_model.specs.Chances.{discount_one}
use Rattle.spd_model.specs.Turns.{residual_of, turn}

-- the residual of turn k
abbrev pub residual_at : Process → ℤ → ℕ → ℤ
residual_at m span k = residual_of m (at (sizes m) (turn m span k))

-- What a turn may add to the residual by merging and rounding, in units of 10^-9. The ranges that become one value span at most
-- `span`, or they are one range, which has at most two units for each variable and two for the discount; two units more are
-- for the middle, and for the discounted change of the value.
abbrev pub added_by_turn : Process → ℤ → ℤ
added_by_turn m span = int_max span (pos (2 * length m.vars + 2)) +ℤ pos 2

-- The error that stays: 2 * w / (1 - discount) + 2 * (N + 1), with w what a turn may add and N variables, in parts of which
-- 10^12 * (1 - discount) make one.
abbrev pub error_that_stays : Process → ℤ → ℤ
error_that_stays m span =
    let one = pos discount_one in
    pos 2 *ℤ one *ℤ one *ℤ added_by_turn m span +ℤ pos 2 *ℤ one *ℤ pos (discount_one - m.discount) *ℤ pos (length m.vars + 1)

-- tolerance * (1 - discount), in the same parts
abbrev pub error_allowed : Process → ℤ
error_allowed m = let rest = pos (discount_one - m.discount) in m.tolerance *ℤ (rest *ℤ rest)

-- Turn k is enough: 2 * discount^k * r(0) and the error that stays are at most tolerance * (1 - discount), where both sides are
-- multiplied by 10^6 to the power of k.
abbrev pub is_enough : Process → ℤ → ℕ → Bool
is_enough m span k =
    let one = pos discount_one in
    let power = pos (discount_one ^ k) in
    int_le
    (pos 2 *ℤ one *ℤ pos (discount_one - m.discount) *ℤ pos (m.discount ^ k) *ℤ residual_at m span 0 +ℤ power *ℤ error_that_stays m span)
    (power *ℤ error_allowed m)

-- the error that stays leaves room for more
abbrev pub leaves_room : Process → ℤ → Bool
leaves_room m span = int_lt (error_that_stays m span) (error_allowed m)
