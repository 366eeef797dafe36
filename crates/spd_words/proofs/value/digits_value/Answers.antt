use Rattle.std.proofs.Common.{◌∙◌, arith}
use Rattle.std.proofs.lemmas.Str.Parse.{digit_at}
use Rattle.spd_scaled.proofs.CallerLemmas.{digits_value_after-step}
use Rattle.spd_words.proofs.Digits.{pow-step, pow-nine}
use Rattle.spd_words.proofs.value.digits_value.Goals as goal

pub overflow_mul-read : goal.overflow_mul-read
overflow_mul-read c = omega (arith, pow-nine c.loop-digit.digit-index (omega (arith, c.requires.few, c.loop-digit-test.true)))

pub overflow_sub-read : goal.overflow_sub-read
overflow_sub-read c = (digit_at c.args.digits.now c.loop-digit.digit-index c.requires.digits c.loop-digit-test.true).0

pub overflow_add-read : goal.overflow_add-read
overflow_add-read c = omega (arith, pow-nine c.loop-digit.digit-index (omega (arith, c.requires.few, c.loop-digit-test.true)), digit_at c.args.digits.now c.loop-digit.digit-index c.requires.digits c.loop-digit-test.true)

pub loop-digit-preserved : goal.loop-digit-preserved
loop-digit-preserved c =
    let range = digit_at c.args.digits.now c.loop-digit.digit-index c.requires.digits c.loop-digit-test.true in
    record {
      told = digits_value_after-step c.loop-digit.read c.args.digits.now c.loop-digit.digit-index c.requires.digits c.loop-digit-test.true ∙ c.loop-digit.invariant.told;
      few = omega (arith, pow-step c.loop-digit.digit-index);
    }
