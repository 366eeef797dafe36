use Rattle.std.proofs.Common.{rules, ◌-ℤ◌, FitsSigned, arith}
use Rattle.std.proofs.lemmas.Int.{ints, to_z-of_z}
use mir.Syntax.{w128}
use Rattle.spd_plain.proofs.sweep.gap.Goals as goal

pub returns : goal.returns
returns c =
    let low : FitsSigned w128 c.args.bounds.now.low = search rules in
    let high : FitsSigned w128 c.args.bounds.now.high = search rules in
    let value : FitsSigned w128 c.args.value = search rules in
    let above : FitsSigned w128 (c.args.bounds.now.high -ℤ c.args.value) = omega (arith, ints) in
    let below : FitsSigned w128 (c.args.value -ℤ c.args.bounds.now.low) = omega (arith, ints) in
    let fits : FitsSigned w128 c.max.result = search rules in
    let greater = simp to_z-of_z at c.max.ensures.value in
    simp to_z-of_z greater
