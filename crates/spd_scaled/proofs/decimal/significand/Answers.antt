use Rattle.std.proofs.Common.{◌∙◌, ℕ, sym, ap, arith}
use Rattle.std.specs.Str.Parse.{digits_value_after}
use Rattle.spd_scaled.specs.DecimalReading.{read_value}
use Rattle.spd_scaled.proofs.DecimalParts.{digits_value_after-append, digits_value_after-above, read_value-None, read_value-Some, read_value-many}
use Rattle.spd_scaled.proofs.decimal.significand.Goals as goal

pub returns-in_err-with_digits : goal.returns-in_err-with_digits
returns-in_err-with_digits c =
    let many = read_value-None _ c.in_err-with_digits.ensures in
    let all = digits_value_after-append 0 c.args.whole.now c.args.fraction.now in
    let above = digits_value_after-above (digits_value_after 10 0 c.args.whole.now) c.args.fraction.now in
    c.from_residual.ensures ∙ sym (read_value-many _ (omega (arith, many, above, all)))

pub returns : goal.returns
returns c =
    let value = read_value-Some _ _ c.in_ok-with_digits.ensures in
    c.with_digits-2.ensures ∙ ap (λ (n : ℕ). read_value (digits_value_after 10 n c.args.fraction.now)) value.0
    ∙ sym (ap (λ (n : ℕ). read_value n) (digits_value_after-append 0 c.args.whole.now c.args.fraction.now))
