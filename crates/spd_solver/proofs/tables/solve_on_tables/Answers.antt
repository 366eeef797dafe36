use Rattle.std.proofs.Common.{◌≡◌, ◌<◌, length, ℤ, sym, ap, subst, ◌∙◌, FitsSigned, rules}
use Rattle.std.specs.Int.{w128}
use Rattle.std.proofs.lemmas.Int.{to_z-of_z}
use Rattle.spd_model.specs.Process.{Process}
use Rattle.spd_model.specs.Lawful.{IsLawful}
use Rattle.spd_model.specs.ResultText.{result_of}
use Rattle.spd_frozen.specs.declared.iterate.Iterate.{Iterate}
use Rattle.spd_frozen.specs.Fits.{FitsModel}
use Rattle.spd_frozen.specs.Told.{told}
use Rattle.spd_plain.specs.declared.Plain.{Plain}
use Rattle.spd_plain.specs.Plain.{plain_of, told_of}
use Rattle.spd_solver.specs.declared.command.Way.TheVariants.{Tables}
use Rattle.spd_solver.specs.declared.solving.Unsolved.{Unsolved}
use Rattle.spd_solver.specs.Solve.{value}
use Rattle.spd_solver.specs.inner.Stages.{IsUnsolved}
use Rattle.spd_solver.proofs.BuildLaws.{plain-unsolved}
use Rattle.spd_solver.proofs.SolvingLaws.{values_within, choices_within, action_within, is_solution}
use Rattle.spd_solver.proofs.tables.solve_on_tables.Goals as goal

pub iterate_of-requires-clause-values : goal.iterate_of-requires-clause-values
iterate_of-requires-clause-values c =
    let m = c.args.model.now in
    let options = c.args.options.now in
    let fits : FitsSigned w128 options.span = search rules in
    let solved = subst (λ (span : ℤ). c.in-Ok.plain ≡ plain_of m options.turns span) (to_z-of_z w128 options.span fits) c.in-Ok.ensures.solved in
    values_within m options c.in-Ok.plain solved
    (λ k. c.law_bounded.ensures.turns m (subst IsLawful c.model.view_is c.model.invariant) c.in-Ok.ensures.valid options.span c.requires.least_span k)

pub iterate_of-requires-clause-choices : goal.iterate_of-requires-clause-choices
iterate_of-requires-clause-choices c =
    let m = c.args.model.now in
    let options = c.args.options.now in
    let fits : FitsSigned w128 options.span = search rules in
    let solved = subst (λ (span : ℤ). c.in-Ok.plain ≡ plain_of m options.turns span) (to_z-of_z w128 options.span fits) c.in-Ok.ensures.solved in
    choices_within m options c.in-Ok.plain solved (subst (λ (m : Process). 0 < length m.actions) c.model.view_is c.model.invariant.some_actions)

pub iterate_of-requires-clause-action : goal.iterate_of-requires-clause-action
iterate_of-requires-clause-action c =
    let m = c.args.model.now in
    let options = c.args.options.now in
    let fits : FitsSigned w128 options.span = search rules in
    let solved = subst (λ (span : ℤ). c.in-Ok.plain ≡ plain_of m options.turns span) (to_z-of_z w128 options.span fits) c.in-Ok.ensures.solved in
    action_within m options c.in-Ok.plain solved (subst (λ (m : Process). 0 < length m.actions) c.model.view_is c.model.invariant.some_actions)

pub returns-in-Ok-new-clause-solved : goal.returns-in-Ok-new-clause-solved
returns-in-Ok-new-clause-solved c =
    let m = c.args.model.now in
    let options = c.args.options.now in
    let plain = c.in-Ok.plain in
    let fits : FitsSigned w128 options.span = search rules in
    let solved = subst (λ (span : ℤ). plain ≡ plain_of m options.turns span) (to_z-of_z w128 options.span fits) c.in-Ok.ensures.solved in
    let result = subst (λ (span : ℤ). told_of m plain ≡ result_of m options.turns span) (to_z-of_z w128 options.span fits) c.in-Ok.ensures.told in
    let some = subst (λ (m : Process). 0 < length m.actions) c.model.view_is c.model.invariant.some_actions in
    let kept = c.in-Ok-new.ensures.ok in
    is_solution Tables m options (record { iterate = c.in-Ok-new.iterate; why = plain.why }) c.in-Ok.ensures.valid (ap (λ (p : Plain). p.why) solved)
    (ap told kept ∙ c.in_ok-iterate.ensures.told ∙ result)
    (c.law_bound.ensures.value m c.in-Ok.ensures.valid some (value m options))
    (λ k. c.law_turns.ensures.done m c.in-Ok.ensures.valid options.span k options.turns)
    (subst (λ (x : Iterate). FitsModel m x) (sym kept) c.in_ok-iterate.ensures.fits) c.in-Ok.ensures.cause.0

pub returns-in-Err-clause-refused : goal.returns-in-Err-clause-refused
returns-in-Err-clause-refused c =
    subst (λ (why : Unsolved). IsUnsolved Tables c.args.model.now c.args.options.now why) (sym c.in_ok-named-in-Err.ensures)
    (plain-unsolved c.args.model.now c.args.options.now c.in-Err.fault c.in-Err.ensures.cause)
