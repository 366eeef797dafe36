use Rattle.std.proofs.Common.{rules, ◌∙◌, ap}
use Rattle.std.proofs.lemmas.Int.{to_z-of_z}
use mir.Syntax.{w128}
use Rattle.spd_plain.specs.Plain.{plain_of}
use Rattle.spd_model.proofs.CallerLemmas.Validity.{is_valid}
use Rattle.spd_plain.proofs.Shapes.{plain-shaped}
use Rattle.spd_plain.proofs.Told.{told_is}
use Rattle.spd_plain.proofs.FaultCauses.{fault_placed, fault_invalid}
use Rattle.spd_plain.proofs.solve.plain_solve.Goals as goal

pub solve_valid-requires-clause-valid : goal.solve_valid-requires-clause-valid
solve_valid-requires-clause-valid c =
    is_valid c.args.model.now c.in_ok-checked.ensures.space.law c.in_ok-checked.ensures.sums c.in_ok-checked.ensures.rewards

pub returns-clause-valid : goal.returns-clause-valid
returns-clause-valid c =
    is_valid c.args.model.now c.in_ok-checked.ensures.space.law c.in_ok-checked.ensures.sums c.in_ok-checked.ensures.rewards

pub returns-clause-solved : goal.returns-clause-solved
returns-clause-solved c = c.in_ok-solve_valid.ensures ∙ ap (plain_of c.args.model.now c.args.turns) (to_z-of_z w128 c.args.span c.ranges.span)

pub returns-clause-told : goal.returns-clause-told
returns-clause-told c =
    told_is c.args.model.now c.args.turns c.args.span _ (c.in_ok-solve_valid.ensures ∙ ap (plain_of c.args.model.now c.args.turns) (to_z-of_z w128 c.args.span c.ranges.span))

pub returns-clause-shaped : goal.returns-clause-shaped
returns-clause-shaped c =
    let law = c.in_ok-checked.ensures.space.law in
    let valid = is_valid c.args.model.now law c.in_ok-checked.ensures.sums c.in_ok-checked.ensures.rewards in
    plain-shaped c.args.model.now law valid c.args.turns _ _ c.in_ok-solve_valid.ensures

pub returns-in_err-checked-clause-placed : goal.returns-in_err-checked-clause-placed
returns-in_err-checked-clause-placed c =
    let placed = fault_placed c.args.model.now _ c.in_err-checked.ensures.cause in
    search rules

pub returns-in_err-checked-clause-invalid : goal.returns-in_err-checked-clause-invalid
returns-in_err-checked-clause-invalid c =
    let invalid = fault_invalid c.args.model.now _ c.in_err-checked.ensures.cause in
    search rules
