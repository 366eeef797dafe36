use Rattle.std.proofs.Common.{◌≡◌, ◌<◌, length, ◌∙◌, sym, ap, subst}
use Rattle.std.proofs.lemmas.Result.{err_from_is_err_and}
use Rattle.spd_model.specs.declared.options.Options.{Options}
use Rattle.spd_model.specs.Process.{Process}
use Rattle.spd_model.specs.Lawful.{IsLawful}
use Rattle.spd_model.specs.Stops.{Stop}
use Rattle.spd_model.proofs.CallerLemmas.Validity.{is_valid}
use Rattle.spd_frozen.specs.Fits.{FitsModel}
use Rattle.spd_frozen.specs.Told.{told}
use Rattle.spd_turn.proofs.CallerLemmas.{stop-told}
use Rattle.spd_solver.specs.declared.command.Way.TheVariants.{Diagrams}
use Rattle.spd_solver.specs.declared.solving.Solution.{Solution}
use Rattle.spd_solver.specs.Solve.{value}
use Rattle.spd_solver.specs.inner.Stages.{IsSolution}
use Rattle.spd_solver.proofs.SolvingLaws.{is_solution}
use Rattle.spd_solver.proofs.StopLaws.{start-fault}
use Rattle.spd_solver.proofs.diagrams.solve_on_diagrams.Goals as goal

pub start-requires-clause-valid : goal.start-requires-clause-valid
start-requires-clause-valid g c κs within =
    is_valid c.args.model.now (subst IsLawful c.model.view_is c.model.invariant) c.in_ok-built.ensures.built.sums c.in_ok-built.ensures.built.rewards

pub returns-in_err-run-clause-refused : goal.returns-in_err-run-clause-refused
returns-in_err-run-clause-refused g c =
    let valid = is_valid c.args.model.now (subst IsLawful c.model.view_is c.model.invariant) c.in_ok-built.ensures.built.sums c.in_ok-built.ensures.built.rewards in
    let p = err_from_is_err_and c.from_residual-in_err-run.result c.from_residual-in_err-run.ensures.1 in
    rw (p.1, p.2) (start-fault c.args.model.now c.args.options valid c.in_err-run.field-0.0 c.in_err-run.ensures.fault)

pub returns-clause-solved : goal.returns-clause-solved
returns-clause-solved g c =
    let r = c.run_to_stop.new.run in
    let m = r.process in
    let options = r.options in
    let run = c.now.ensures.run in
    let x : Solution = record { iterate = c.in_ok-iterate.iterate; why = c.in_ok-why.why } in
    let same : m ≡ c.args.model.now = c.run_to_stop.ensures.same.same ∙ c.in_ok-run.ensures.ok.same in
    let set : options ≡ c.args.options = c.run_to_stop.ensures.same.set ∙ c.in_ok-run.ensures.ok.set in
    let some = subst (λ (n : Process). 0 < length n.actions) (c.model.view_is ∙ sym same) c.model.invariant.some_actions in
    let here = c.in_ok-iterate.ensures.cases ∙ c.now.ensures.iterate in
    let stops = c.in_ok-why.ensures.stops in
    subst (λ (n : Process). IsSolution Diagrams n c.args.options x) same
    (subst (λ (o : Options). IsSolution Diagrams m o x) set
    (is_solution Diagrams m options x run.valid (ap (λ (s : Stop). s.why) (sym stops)) (ap told here ∙ stop-told r run c.in_ok-why.why stops)
    (c.law_bound.ensures.value m run.valid some (value m options)) (λ k. c.law_turns.ensures.done m run.valid options.span k options.turns)
    (subst (FitsModel m) (sym here) run.fits) tt))
