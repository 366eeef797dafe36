use Rattle.std.proofs.Common.{◌∙◌, sym, arith}
use Rattle.std.proofs.lemmas.Int.{ints}
use Rattle.spd_scaled.proofs.DecimalParts.{exponent_small, read_value-None, read_value-Some}
use Rattle.spd_scaled.proofs.decimal.exponent_value.Goals as goal

pub with_digits-requires-clause-digits : goal.with_digits-requires-clause-digits
with_digits-requires-clause-digits c =
    (exponent_small c.split_sign-negative.result.1.now (sym c.are_exponent_digits.ensures ∙ c.if-not-are_exponent_digits.false)).0

pub returns-in_err-magnitude-clause-value : goal.returns-in_err-magnitude-clause-value
returns-in_err-magnitude-clause-value c =
    let small = exponent_small c.split_sign-negative.result.1.now (sym c.are_exponent_digits.ensures ∙ c.if-not-are_exponent_digits.false) in
    let large = read_value-None _ c.in_err-magnitude.ensures in
    absurd (omega (arith, small.1, large))

pub returns-then-negative-clause-bound : goal.returns-then-negative-clause-bound
returns-then-negative-clause-bound c =
    let small = exponent_small c.split_sign-negative.result.1.now (sym c.are_exponent_digits.ensures ∙ c.if-not-are_exponent_digits.false) in
    let value = read_value-Some _ _ c.in_ok-magnitude.ensures in
    record { low = omega (arith, ints, small.1, value.0); high = omega (arith, ints, small.1, value.0) }

pub returns-else-negative-clause-bound : goal.returns-else-negative-clause-bound
returns-else-negative-clause-bound c =
    let small = exponent_small c.split_sign-negative.result.1.now (sym c.are_exponent_digits.ensures ∙ c.if-not-are_exponent_digits.false) in
    let value = read_value-Some _ _ c.in_ok-magnitude.ensures in
    record { low = omega (arith, ints, small.1, value.0); high = omega (arith, ints, small.1, value.0) }
