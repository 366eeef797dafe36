use Rattle.std.proofs.Common.{subst, Ok}
use Rattle.std.proofs.lemmas.Result.{err_from_is_err_and}
use Rattle.spd_turn.specs.declared.running.Advance.{Advance}
use Rattle.spd_turn.specs.Runs.{AnswersRun}
use Rattle.spd_turn.proofs.CallerLemmas.{answer-stops}
use Rattle.spd_solver.proofs.StopLaws.{answer-fault}
use Rattle.spd_solver.proofs.diagrams.run_to_stop.Goals as goal

pub returns-in_err-advance-clause-fault : goal.returns-in_err-advance-clause-fault
returns-in_err-advance-clause-fault g c =
    let p = err_from_is_err_and c.from_residual.result c.from_residual.ensures.1 in
    rw (p.1, p.2) (answer-fault c.args.run.now.process c.args.run.now.options c.loop-why.run c.advance.new.self c.loop-why.invariant c.now.ensures.run c.in_err-advance.field-0.0 c.in_err-advance.ensures)

pub returns-in-Stopped-clause-stops : goal.returns-in-Stopped-clause-stops
returns-in-Stopped-clause-stops g c =
    answer-stops c.law_stop.ensures c.loop-why.run c.advance.new.self c.now.ensures.run c.in-Stopped.why
    (subst (λ (a : Advance). AnswersRun c.loop-why.run c.advance.new.self (Ok a)) c.in-Stopped.is c.in_ok-advance.ensures)
