use Rattle.std.proofs.Common.{refl, sym, subst}
use Rattle.std.proofs.lemmas.Result.{err_from_is_err_and}
use Rattle.spd_check.specs.Certificates.{value_by, policy_by}
use Rattle.spd_solver.specs.Command.{checking}
use Rattle.spd_solver.specs.Run.{seen}
use Rattle.spd_solver.specs.inner.Stages.{Answers}
use Rattle.spd_solver.specs.declared.status.Status.{Status}
use Rattle.spd_solver.proofs.CheckLaws.{given_unjudged, given_cut, given_written}
use Rattle.spd_solver.proofs.VerdictLaws.{verdict_placed}
use Rattle.spd_solver.proofs.checking.check.Goals as goal

pub returns-in_err-given-clause-answers : goal.returns-in_err-given-clause-answers
returns-in_err-given-clause-answers g c =
    let p = err_from_is_err_and c.from_residual.result c.from_residual.ensures.1 in
    rw (p.1, p.2) (c.in_err-given.ensures.refused c.args.purpose c.args.options.now (g.K.Sink.taken c.args.out.now) (g.K.Sink.faults c.args.out.now))

pub returns-in_err-judgement-clause-answers : goal.returns-in_err-judgement-clause-answers
returns-in_err-judgement-clause-answers g c =
    let before = seen g.P.Place.inputs g.K.Sink.taken g.K.Sink.faults c.args.place.now c.args.out.now in
    let now = seen g.P.Place.inputs g.K.Sink.taken g.K.Sink.faults c.read_both.new.place c.args.out.now in
    let p = err_from_is_err_and c.from_residual-in_err-judgement.result c.from_residual-in_err-judgement.ensures.1 in
    let why = c.in_err-judgement.ensures.unjudged in
    rw (p.1, p.2, why.2) (given_unjudged c.args.purpose c.args.file.now c.args.cert.now c.args.options.now before now c.in_ok-given.given c.in_ok-given.ensures.read why.0 why.1 (refl, refl))

pub write_verdict-requires-clause-placed : goal.write_verdict-requires-clause-placed
write_verdict-requires-clause-placed g c =
    let x = c.in_ok-judgement.judgement in
    verdict_placed c.in_ok-given.given.model (value_by x.cert.value) (policy_by x.cert.policy) x.cert.residual x.verdict c.in_ok-judgement.ensures.judged.verdict

pub returns-in_err-write_verdict-clause-answers : goal.returns-in_err-write_verdict-clause-answers
returns-in_err-write_verdict-clause-answers g c =
    let before = seen g.P.Place.inputs g.K.Sink.taken g.K.Sink.faults c.args.place.now c.args.out.now in
    let now = seen g.P.Place.inputs g.K.Sink.taken g.K.Sink.faults c.read_both.new.place c.write_verdict.new.out in
    let p = err_from_is_err_and c.from_residual-in_err-write_verdict.result c.from_residual-in_err-write_verdict.ensures.1 in
    rw (p.1, p.2) (given_cut c.args.purpose c.args.file.now c.args.cert.now c.args.options.now before now c.in_ok-given.given c.in_ok-given.ensures.read
    c.in_ok-judgement.judgement c.in_ok-judgement.ensures.judged c.in_err-write_verdict.ensures.text c.in_err-write_verdict.ensures.count.0)

pub returns-clause-answers : goal.returns-clause-answers
returns-clause-answers g c =
    let before = seen g.P.Place.inputs g.K.Sink.taken g.K.Sink.faults c.args.place.now c.args.out.now in
    let now = seen g.P.Place.inputs g.K.Sink.taken g.K.Sink.faults c.read_both.new.place c.write_verdict.new.out in
    subst (λ (status : Status). Answers (checking c.args.purpose c.args.file.now c.args.cert.now c.args.options.now) status before now) (sym c.in_ok-write_verdict.ensures.status)
    (given_written c.args.purpose c.args.file.now c.args.cert.now c.args.options.now before now c.in_ok-given.given c.in_ok-given.ensures.read
    c.in_ok-judgement.judgement c.in_ok-judgement.ensures.judged c.in_ok-write_verdict.ensures.text c.in_ok-write_verdict.ensures.count)
