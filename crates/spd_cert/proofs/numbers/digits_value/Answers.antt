use Rattle.std.proofs.Common.{◌≡◌, ◌≤◌, ◌+◌, ◌*◌, ◌^◌, ◌∙◌, refl, add-one, lit<, arith}
use Rattle.std.proofs.Math.Nat.{pow-suc, pow-le-pow_right}
use Rattle.std.proofs.lemmas.Str.Parse.{digit_at}
use Rattle.spd_scaled.proofs.CallerLemmas.{digits_value_after-step}
use Rattle.spd_cert.proofs.numbers.digits_value.Goals as goal

pub overflow_mul-read : goal.overflow_mul-read
overflow_mul-read c =
    let at_most : c.loop-digit.digit-index ≤ 9 = omega (arith, c.requires.few, c.loop-digit-test.true) in
    let nine : 10 ^ c.loop-digit.digit-index ≤ 1000000000 = pow-le-pow_right (lit< tt) at_most in
    omega (arith, nine)

pub overflow_sub-read : goal.overflow_sub-read
overflow_sub-read c = (digit_at c.args.digits.now c.loop-digit.digit-index c.requires.digits c.loop-digit-test.true).0

pub overflow_add-read : goal.overflow_add-read
overflow_add-read c =
    let at_most : c.loop-digit.digit-index ≤ 9 = omega (arith, c.requires.few, c.loop-digit-test.true) in
    let nine : 10 ^ c.loop-digit.digit-index ≤ 1000000000 = pow-le-pow_right (lit< tt) at_most in
    omega (arith, nine, digit_at c.args.digits.now c.loop-digit.digit-index c.requires.digits c.loop-digit-test.true)

pub loop-digit-preserved : goal.loop-digit-preserved
loop-digit-preserved c =
    let range = digit_at c.args.digits.now c.loop-digit.digit-index c.requires.digits c.loop-digit-test.true in
    let step : 10 ^ (c.loop-digit.digit-index + 1) ≡ 10 ^ c.loop-digit.digit-index * 10 = rw (add-one, pow-suc 10 c.loop-digit.digit-index) refl in
    record {
      told = digits_value_after-step c.loop-digit.read c.args.digits.now c.loop-digit.digit-index c.requires.digits c.loop-digit-test.true ∙ c.loop-digit.invariant.told;
      few = omega (arith, step);
    }
