use Rattle.std.proofs.Common.{◌≡◌, ◌++◌, ◌∙◌, ℤ, pos, ◌-ℤ◌, true, false, eqb, Some, None, length, length-append, subst, sym, ap, refl, arith}
use Rattle.std.proofs.lemmas.Bool.Decides.{nat_tests}
use Rattle.std.proofs.lemmas.Int.{ints}
use Rattle.std.specs.Str.Parse.{AllDigits}
use Rattle.spd_scaled.specs.DecimalReading.{number_step, lowest_of}
use Rattle.spd_scaled.proofs.DecimalParts.{AllDigits-digits_at, AllDigits-fraction_at, decimal_of-parts}
use Rattle.spd_scaled.proofs.decimal.number.Goals as goal
use Rattle.spd_scaled.proofs.decimal.number.Goals.{else-is_empty-via-then-is_empty+else-is_empty-2, else-is_empty-via-else-is_empty}

pub returns-in_err-exponent : goal.returns-in_err-exponent
returns-in_err-exponent c =
    c.from_residual.ensures
    ∙ decimal_of-parts c.args.text.now _ c.split_digits.result.0.now _ c.split_fraction.result.0.now _ c.split_sign-negative.result.0 None c.split_sign-negative.ensures.negative c.split_sign-negative.ensures.rest
    c.split_digits.ensures.digits c.split_digits.ensures.rest c.split_fraction.ensures.digits c.split_fraction.ensures.rest c.in_err-exponent.ensures.value

pub returns-then-is_empty-2 : goal.returns-then-is_empty-2
returns-then-is_empty-2 c =
    let w = c.split_digits.result.0.now in
    let f = c.split_fraction.result.0.now in
    let whole : length w ≡ 0 = grind (arith, nat_tests) in
    let fraction : length f ≡ 0 = grind (arith, nat_tests) in
    let both = length-append w f in
    let none : eqb (length (w ++ f)) 0 ≡ true = grind (arith, nat_tests) in
    let empty : number_step c.split_sign-negative.result.0 w f (Some c.in_ok-exponent.exponent) ≡ None = rw none refl in
    sym empty
    ∙ decimal_of-parts c.args.text.now _ w _ f _ c.split_sign-negative.result.0 (Some c.in_ok-exponent.exponent) c.split_sign-negative.ensures.negative c.split_sign-negative.ensures.rest
    c.split_digits.ensures.digits c.split_digits.ensures.rest c.split_fraction.ensures.digits c.split_fraction.ensures.rest c.in_ok-exponent.ensures.value

pub lowest-requires-clause-whole : goal.lowest-requires-clause-whole
lowest-requires-clause-whole c = subst (AllDigits 10) (sym c.split_digits.ensures.digits) (AllDigits-digits_at c.split_sign-negative.result.1.now)

pub lowest-requires-clause-fraction : goal.lowest-requires-clause-fraction
lowest-requires-clause-fraction c = subst (AllDigits 10) (sym c.split_fraction.ensures.digits) (AllDigits-fraction_at c.split_digits.result.1.now)

pub returns : goal.returns
returns c =
    let w = c.split_digits.result.0.now in
    let f = c.split_fraction.result.0.now in
    let both = length-append w f in
    let some : eqb (length (w ++ f)) 0 ≡ false =
    elim c.else-is_empty.branch [
      | else-is_empty-via-then-is_empty+else-is_empty-2 b ↦ grind (arith, nat_tests)
      | else-is_empty-via-else-is_empty b ↦ grind (arith, nat_tests)
    ] in
    let is : number_step c.split_sign-negative.result.0 w f (Some c.in_ok-exponent.exponent) ≡ lowest_of c.split_sign-negative.result.0 (w ++ f) (pos (length f) -ℤ c.in_ok-exponent.exponent) = rw some refl in
    c.lowest.ensures ∙ ap (λ (p : ℤ). lowest_of c.split_sign-negative.result.0 (w ++ f) p) (omega (arith, ints, c.in_ok-exponent.ensures.bound)) ∙ sym is
    ∙ decimal_of-parts c.args.text.now _ w _ f _ c.split_sign-negative.result.0 (Some c.in_ok-exponent.exponent) c.split_sign-negative.ensures.negative c.split_sign-negative.ensures.rest
    c.split_digits.ensures.digits c.split_digits.ensures.rest c.split_fraction.ensures.digits c.split_fraction.ensures.rest c.in_ok-exponent.ensures.value
