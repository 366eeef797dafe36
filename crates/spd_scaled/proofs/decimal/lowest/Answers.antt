use Rattle.std.proofs.Common.{◌≡◌, ◌++◌, ◌∙◌, ◌-◌, List, ℕ, ℤ, pos, ◌-ℤ◌, Option, Some, length, length-append, subst, sym, ap, arith}
use Rattle.std.proofs.lemmas.Int.{ints}
use Rattle.std.specs.Str.Parse.{AllDigits}
use Rattle.spd_scaled.specs.DecimalReading.{value_step, without_end_zeros}
use Rattle.spd_scaled.proofs.DecimalParts.{AllDigits-append, AllDigits-front, AllDigits-back, AllDigits-without_end_zeros, lowest_of-parts, length-kept}
use Rattle.spd_scaled.proofs.decimal.lowest.Goals as goal

all_kept : (whole fraction kept_whole kept_fraction : List ℕ) → kept_whole ++ kept_fraction ≡ without_end_zeros (whole ++ fraction) → AllDigits 10 whole → AllDigits 10 fraction
    → AllDigits 10 (kept_whole ++ kept_fraction)
all_kept whole fraction kept_whole kept_fraction e all more =
    subst (AllDigits 10) (sym e) (AllDigits-without_end_zeros (whole ++ fraction) (AllDigits-append whole fraction all more))

pub significand-requires-clause-whole : goal.significand-requires-clause-whole
significand-requires-clause-whole c =
    let kept = c.significant.result in
    AllDigits-front kept.0.now kept.1.now (all_kept c.args.whole.now c.args.fraction.now kept.0.now kept.1.now c.significant.ensures c.requires.whole c.requires.fraction)

pub significand-requires-clause-fraction : goal.significand-requires-clause-fraction
significand-requires-clause-fraction c =
    let kept = c.significant.result in
    AllDigits-back kept.0.now kept.1.now (all_kept c.args.whole.now c.args.fraction.now kept.0.now kept.1.now c.significant.ensures c.requires.whole c.requires.fraction)

pub returns-in_err-digits : goal.returns-in_err-digits
returns-in_err-digits c =
    let kept = c.significant.result in
    let digits = c.args.whole.now ++ c.args.fraction.now in
    c.from_residual.ensures
    ∙ ap (λ (o : Option ℕ). value_step c.args.negative (c.args.places -ℤ pos (length digits - length (kept.0.now ++ kept.1.now))) o) c.in_err-digits.ensures
    ∙ lowest_of-parts c.args.negative digits (kept.0.now ++ kept.1.now) c.args.places c.significant.ensures

pub returns : goal.returns
returns c =
    let kept = c.significant.result in
    let digits = c.args.whole.now ++ c.args.fraction.now in
    let shorter = length-kept digits (kept.0.now ++ kept.1.now) c.significant.ensures in
    let here = length-append c.args.whole.now c.args.fraction.now in
    let there = length-append kept.0.now kept.1.now in
    c.signed.ensures
    ∙ ap (λ (p : ℤ). value_step c.args.negative p (Some c.in_ok-digits.digits)) (omega (arith, ints))
    ∙ ap (λ (o : Option ℕ). value_step c.args.negative (c.args.places -ℤ pos (length digits - length (kept.0.now ++ kept.1.now))) o) c.in_ok-digits.ensures
    ∙ lowest_of-parts c.args.negative digits (kept.0.now ++ kept.1.now) c.args.places c.significant.ensures
