use Rattle.std.proofs.Common.{rules, ◌∙◌, ap, pos, ◌*ℤ◌, FitsSigned, arith}
use Rattle.std.proofs.lemmas.Int.{ints, to_z-of_z}
use mir.Syntax.{w128}
use Rattle.spd_scaled.specs.Scaled.{ceil_div}
use Rattle.spd_turn.proofs.telling.error_of.Goals as goal

pub returns : goal.returns
returns c =
    let residual = c.ranges.residual in
    let scaled : FitsSigned w128 (c.args.residual *ℤ pos 1000000) = omega (arith, ints) in
    let left : FitsSigned w128 c.discount_left.result = search rules in
    let fits : FitsSigned w128 c.ceil_div.result = search rules in
    let quotient = simp to_z-of_z at c.ceil_div.ensures.quotient in
    simp to_z-of_z (quotient ∙ ap (ceil_div (c.args.residual *ℤ pos 1000000)) c.discount_left.ensures.value)
