use Rattle.std.proofs.Common.{rules, ◌≡◌, ◌∙◌, ◌+◌, ◌*◌, ◌≤◌, ℕ, ℤ, [], ◌∷◌, map, drop, get_or, ap, FitsSigned, arith}
use Rattle.std.proofs.Math.Nat.{mul-le-mul_right}
use Rattle.std.proofs.lemmas.Int.{to_z-of_z}
use mir.Syntax.{w128}
use Rattle.spd_model.specs.States.{sizes, states}
use Rattle.spd_model.specs.Chances.{sizes_after}
use Rattle.spd_model.specs.Numbers.{numbers_below}
use Rattle.spd_plain.specs.inner.Chances.{chance_of}
use Rattle.spd_plain.proofs.Weights.{entry_below}
use Rattle.spd_plain.proofs.Tables.{axis_more, size_is, after_some, map_below_more}
use Rattle.spd_plain.proofs.chances.read_own.Goals as goal

pub chance_at-requires-clause-place : goal.chance_at-requires-clause-place
chance_at-requires-clause-place c =
    let axis = c.args.axis.now in
    omega (arith, entry_below c.loop-value.value axis.size 0 axis.after c.loop-value-test.true (after_some c.args.model.now axis c.requires.axis))

pub loop-value-preserved : goal.loop-value-preserved
loop-value-preserved c =
    let m = c.args.model.now in
    let axis = c.args.axis.now in
    let v = c.loop-value.value in
    let chance = chance_of m c.args.action.now c.args.s.now axis.var in
    let f : ℕ → ℤ = λ v. chance (v ∷ get_or (states (sizes_after m axis.var)) 0 []) in
    let fits : FitsSigned w128 c.chance_at.result = search rules in
    let place : v * axis.after ≡ v * axis.after + 0 = omega arith in
    let here : c.chance_at.result ≡ f v = c.chance_at.ensures.value ∙ ap (λ (n : ℕ). chance (get_or (states (drop axis.var (sizes m))) n [])) place
    ∙ ap chance (axis_more m axis c.requires.axis v 0 c.loop-value-test.true (after_some m axis c.requires.axis)) in
    rw (c.in_ok-push.ensures.items, to_z-of_z w128 c.chance_at.result fits) (map_below_more f v c.loop-value.own.items _ c.loop-value.invariant here)

pub overflow_mul-value : goal.overflow_mul-value
overflow_mul-value c =
    let axis = c.args.axis.now in
    let below : c.loop-value.value * axis.after ≤ axis.size * axis.after = mul-le-mul_right axis.after (omega arith) in
    omega (arith, below, c.requires.axis.few)

pub returns : goal.returns
returns c =
    let m = c.args.model.now in
    let axis = c.args.axis.now in
    let chance = chance_of m c.args.action.now c.args.s.now axis.var in
    let f : ℕ → ℤ = λ v. chance (v ∷ get_or (states (sizes_after m axis.var)) 0 []) in
    let all : c.loop-value.value ≡ axis.size = omega arith in
    c.loop-value.invariant ∙ ap (λ (n : ℕ). map f (numbers_below n)) (all ∙ size_is m axis c.requires.axis)
