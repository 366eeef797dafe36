use Rattle.std.proofs.Common.{rules, ◌≡◌, pos, ◌+ℤ◌, ap, subst, sym, FitsSigned, to_z, arith}
use Rattle.std.proofs.lemmas.Int.{ints, to_z-of_z}
use mir.Syntax.{w128}
use Rattle.spd_scaled.specs.Scaled.{IsWithin}
use Rattle.spd_model.specs.Turns.{value_limit}
use Rattle.spd_model.proofs.CallerLemmas.Bounded.{return_within}
use Rattle.spd_plain.specs.inner.Expectations.{rounding_of}
use Rattle.spd_plain.proofs.ReturnFits.{product_fits, return_fits, keeps_on}
use Rattle.spd_plain.proofs.backup.discounted_return.Goals as goal

pub returns-clause-value : goal.returns-clause-value
returns-clause-value c =
    let discount : to_z w128 c.args.discount ≡ pos c.args.discount = omega (arith, ints) in
    let fits : FitsSigned w128 c.args.expectation = c.ranges.expectation in
    let reward_fits : FitsSigned w128 c.args.reward = c.ranges.reward in
    let product = product_fits c.args.discount c.args.expectation c.requires.discount c.requires.expectation in
    let quotient_fits : FitsSigned w128 c.rounded.result = search rules in
    let quotient = simp (discount, to_z-of_z) at c.rounded.ensures in
    let whole : FitsSigned w128 (c.args.reward +ℤ c.rounded.result) = rw quotient (return_fits (rounding_of c.args.side) (keeps_on c.args.side) c.args.reward c.args.discount c.args.expectation c.requires.reward c.requires.discount c.requires.expectation) in
    simp to_z-of_z (ap (λ x. c.args.reward +ℤ x) quotient)

pub returns-clause-within : goal.returns-clause-within
returns-clause-within c =
    subst (IsWithin (pos value_limit)) (sym (returns-clause-value c))
    (return_within (rounding_of c.args.side) (keeps_on c.args.side) c.args.reward c.args.discount c.args.expectation c.requires.reward c.requires.discount c.requires.expectation)
