use Rattle.std.proofs.Common.{◌≡◌, ◌+◌, ◌-◌, ◌*◌, ◌∙◌, get_or, drop, sym, arith}
use Rattle.std.specs.Str.Parse.{digits_value_after}
use Rattle.std.proofs.lemmas.Str.Parse.{digit_at}
use Rattle.spd_scaled.proofs.DecimalParts.{digits_value_after-step, digits_value_after-above, read_value-many}
use Rattle.spd_scaled.proofs.decimal.with_digits.Goals as goal

pub returns-then-read-ge-FULL : goal.returns-then-read-ge-FULL
returns-then-read-ge-FULL c =
    let i = c.loop-digit.digit-index in
    let read = c.loop-digit.read * 10 + (get_or c.args.digits.now i 0 - 48) in
    let step = digits_value_after-step c.loop-digit.read c.args.digits.now i c.requires.digits c.loop-digit-test.true in
    let above = digits_value_after-above read (drop (i + 1) c.args.digits.now) in
    let all : digits_value_after 10 read (drop (i + 1) c.args.digits.now) ≡ digits_value_after 10 c.args.value c.args.digits.now = step ∙ c.loop-digit.invariant.told in
    sym (read_value-many _ (omega arith))

pub overflow_sub-read : goal.overflow_sub-read
overflow_sub-read c = (digit_at c.args.digits.now c.loop-digit.digit-index c.requires.digits c.loop-digit-test.true).0

pub loop-digit-preserved : goal.loop-digit-preserved
loop-digit-preserved c =
    let range = digit_at c.args.digits.now c.loop-digit.digit-index c.requires.digits c.loop-digit-test.true in
    record {
      told = digits_value_after-step c.loop-digit.read c.args.digits.now c.loop-digit.digit-index c.requires.digits c.loop-digit-test.true ∙ c.loop-digit.invariant.told;
      few = omega arith;
    }
