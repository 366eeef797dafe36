use Rattle.std.proofs.Common.{◌≡◌, ◌∙◌, ◌+ℤ◌, FitsSigned, rules, to_z, of_z, refl}
use mir.Syntax.{w128}
use Rattle.std.specs.Int.{int_max}
use Rattle.std.proofs.lemmas.Int.{to_z-of_z}
use Rattle.spd_ranges.proofs.BoundLaws.{past-all}
use Rattle.spd_ranges.proofs.groups.Group.takes.Goals as goal

pub returns-in-Some : goal.returns-in-Some
returns-in-Some c =
    let low : FitsSigned w128 c.args.self.low = search rules in
    let high : FitsSigned w128 c.args.self.high = search rules in
    let next : FitsSigned w128 c.args.next.high = search rules in
    let span : FitsSigned w128 c.args.span = c.ranges.span in
    let sum = c.in-Some.ensures in
    let most : to_z w128 (of_z w128 c.max.result) ≡ int_max c.args.self.high c.args.next.high =
    to_z-of_z w128 c.max.result (search rules) ∙ simp to_z-of_z at c.max.ensures.value in
    let fits : FitsSigned w128 c.in-Some.end = rw sum.1 sum.0 in
    let end : to_z w128 (of_z w128 c.in-Some.end) ≡ c.args.self.low +ℤ c.args.span = to_z-of_z w128 c.in-Some.end fits ∙ simp to_z-of_z at sum.1 in
    rw (most, end) refl

pub returns-in-None : goal.returns-in-None
returns-in-None c =
    let low : FitsSigned w128 c.args.self.low = search rules in
    let high : FitsSigned w128 c.args.self.high = search rules in
    let next : FitsSigned w128 c.args.next.high = search rules in
    let span : FitsSigned w128 c.args.span = c.ranges.span in
    past-all c.args.self.low c.args.span c.args.self.high c.args.next.high low c.requires high next (simp to_z-of_z at c.in-None.ensures)
