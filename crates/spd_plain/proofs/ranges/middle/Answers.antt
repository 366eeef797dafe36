use Rattle.std.proofs.Common.{◌+ℤ◌, ◌∙◌, FitsSigned, rules}
use Rattle.std.proofs.lemmas.Int.{to_z-of_z}
use mir.Syntax.{w128}
use Rattle.spd_plain.proofs.ranges.middle.Goals as goal

pub returns : goal.returns
returns c =
    let low : FitsSigned w128 c.args.range.low = search rules in
    let high : FitsSigned w128 c.args.range.high = search rules in
    let sum : FitsSigned w128 (c.args.range.low +ℤ c.args.range.high) = search rules in
    let fits : FitsSigned w128 c.floor_div.result = search rules in
    let is = simp to_z-of_z at c.floor_div.ensures.quotient in
    to_z-of_z w128 _ fits ∙ is
