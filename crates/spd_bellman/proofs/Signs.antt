-- Numbers that are at least 0, or above it.
use Rattle.std.proofs.Common.{ℕ, pos, ◌≤ℤ◌, ◌<ℤ◌, arith}
use Rattle.std.proofs.lemmas.Int.{ints}
use Rattle.spd_model.specs.Chances.{one, discount_one}

pub natural_nonnegative : (n : ℕ) → pos 0 ≤ℤ pos n
natural_nonnegative n = omega (arith, ints)

pub one_above : pos 0 <ℤ one
one_above = record { lt = tt }

pub discount_above : pos 0 <ℤ pos discount_one
discount_above = record { lt = tt }
