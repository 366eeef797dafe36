use Rattle.std.proofs.Common.{rules, ◌≡◌, pos, ℕ, ◌*ℤ◌, FitsSigned, ap, ◌∙◌, subst, sym, arith}
use Rattle.std.proofs.lemmas.Int.{to_z-of_z}
use mir.Syntax.{w128}
use Rattle.spd_scaled.specs.Scaled.{IsWithin}
use Rattle.spd_model.specs.Numbers.{sum_below}
use Rattle.spd_model.specs.Chances.{one}
use Rattle.spd_model.specs.Turns.{value_limit}
use Rattle.spd_plain.specs.inner.Expectations.{entry}
use Rattle.spd_plain.proofs.Weights.{term_fits, next_sum, next_fits, part_within}
use Rattle.spd_plain.proofs.expectation.weighted_sum.Goals as goal

pub overflow_mul-sum : goal.overflow_mul-sum
overflow_mul-sum c =
    let v = c.loop-value.value in
    let chance : FitsSigned w128 (entry c.args.after c.args.chances.now v c.args.place) = search rules in
    let value : FitsSigned w128 (entry c.args.after c.args.values.now v c.args.place) = search rules in
    simp to_z-of_z (term_fits c.requires.ready c.args.place c.requires.place v c.loop-value-test.true)

pub overflow_add-sum : goal.overflow_add-sum
overflow_add-sum c =
    let v = c.loop-value.value in
    let chance : FitsSigned w128 (entry c.args.after c.args.chances.now v c.args.place) = search rules in
    let value : FitsSigned w128 (entry c.args.after c.args.values.now v c.args.place) = search rules in
    let product = term_fits c.requires.ready c.args.place c.requires.place v c.loop-value-test.true in
    simp to_z-of_z (next_fits c.requires.ready c.args.place c.requires.place v _ c.loop-value.invariant c.loop-value-test.true)

pub loop-value-preserved : goal.loop-value-preserved
loop-value-preserved c =
    let v = c.loop-value.value in
    let chance : FitsSigned w128 (entry c.args.after c.args.chances.now v c.args.place) = search rules in
    let value : FitsSigned w128 (entry c.args.after c.args.values.now v c.args.place) = search rules in
    let product = term_fits c.requires.ready c.args.place c.requires.place v c.loop-value-test.true in
    let fits = next_fits c.requires.ready c.args.place c.requires.place v _ c.loop-value.invariant c.loop-value-test.true in
    simp to_z-of_z (next_sum c.requires.ready c.args.place c.requires.place v _ c.loop-value.invariant)

pub returns-clause-within : goal.returns-clause-within
returns-clause-within c =
    let all : c.loop-value.value ≡ c.args.size = omega arith in
    subst (IsWithin (one *ℤ pos value_limit))
    (sym (c.loop-value.invariant ∙ ap (λ (n : ℕ). sum_below n (λ v. entry c.args.after c.args.chances.now v c.args.place *ℤ entry c.args.after c.args.values.now v c.args.place)) all))
    (part_within c.requires.ready c.args.place c.requires.place c.args.size (omega arith))
