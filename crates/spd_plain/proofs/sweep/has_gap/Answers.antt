use Rattle.std.proofs.Common.{rules, ◌∙◌, ◌-ℤ◌, ◌||◌, ap, sym, FitsSigned, arith}
use Rattle.std.specs.Ordering.{int_eq}
use Rattle.std.proofs.lemmas.Int.{ints, to_z-of_z}
use mir.Syntax.{w128}
use Rattle.spd_plain.proofs.BitTests.{same_test, differs}
use Rattle.spd_plain.proofs.sweep.has_gap.Goals as goal

pub returns-else-residual-bounds : goal.returns-else-residual-bounds
returns-else-residual-bounds c =
    let low : FitsSigned w128 c.args.bounds.now.low = search rules in
    let high : FitsSigned w128 c.args.bounds.now.high = search rules in
    let value : FitsSigned w128 c.args.value = search rules in
    let above : FitsSigned w128 (c.args.bounds.now.high -ℤ c.args.value) = omega (arith, ints) in
    let below : FitsSigned w128 (c.args.value -ℤ c.args.bounds.now.low) = omega (arith, ints) in
    let first = differs c.args.residual (c.args.bounds.now.high -ℤ c.args.value) (simp to_z-of_z at c.if-residual-bounds.false) in
    simp to_z-of_z (same_test c.args.residual (c.args.value -ℤ c.args.bounds.now.low) c.ranges.residual below
    ∙ ap (λ b. b || int_eq c.args.residual (c.args.value -ℤ c.args.bounds.now.low)) (sym first))
