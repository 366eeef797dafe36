use Rattle.std.proofs.Common.{◌∙◌, refl, sym, subst}
use Rattle.std.proofs.lemmas.Result.{err_from_is_err_and}
use Rattle.spd_solver.specs.Command.{solving_ring}
use Rattle.spd_solver.specs.inner.Stages.{Answers, seen_beside}
use Rattle.spd_solver.specs.declared.status.Status.{Status}
use Rattle.spd_solver.proofs.RingLaws.{ring_unread, ring_model, ring_unsolved, ring_cut, ring_whole}
use Rattle.spd_solver.proofs.ring.solve_ring.Goals as goal

pub returns-in_err-model-clause-answers : goal.returns-in_err-model-clause-answers
returns-in_err-model-clause-answers g c = λ inputs.
    let before = seen_beside g.K.Sink.taken g.K.Sink.faults inputs c.args.out.now in
    let p = err_from_is_err_and c.from_residual-in_err-model.result c.from_residual-in_err-model.ensures.1 in
    rw (p.1, p.2) (ring_unread c.args.machines c.args.options.now before before c.deref.result.now (c.deref.ensures.value ∙ c.in_ok-bytes.ensures)
    (c.law_ring.ensures.read c.args.machines c.requires.many c.requires.few) c.in_err-model.field-0.0 c.in_err-model.ensures.refused (refl, refl))

pub returns-in_err-solution-clause-answers : goal.returns-in_err-solution-clause-answers
returns-in_err-solution-clause-answers g c = λ inputs.
    let before = seen_beside g.K.Sink.taken g.K.Sink.faults inputs c.args.out.now in
    let p = err_from_is_err_and c.from_residual-in_err-solution.result c.from_residual-in_err-solution.ensures.1 in
    let same = ring_model c.args.machines c.args.options.now before before c.deref.result.now (c.deref.ensures.value ∙ c.in_ok-bytes.ensures)
    (c.law_ring.ensures.read c.args.machines c.requires.many c.requires.few) c.in_ok-model.model c.in_ok-model.ensures.read in
    rw (p.1, p.2) (ring_unsolved c.args.machines c.args.options.now before before refl c.in_ok-model.model same
    (c.law_ring.ensures.valid c.args.machines c.requires.many c.requires.few) c.in_err-solution.field-0.0 c.in_err-solution.ensures.refused (refl, refl))

pub returns-in_err-write_summary-clause-answers : goal.returns-in_err-write_summary-clause-answers
returns-in_err-write_summary-clause-answers g c = λ inputs.
    let before = seen_beside g.K.Sink.taken g.K.Sink.faults inputs c.args.out.now in
    let now = seen_beside g.K.Sink.taken g.K.Sink.faults inputs c.write_summary.new.k in
    let p = err_from_is_err_and c.from_residual-in_err-write_summary.result c.from_residual-in_err-write_summary.ensures.1 in
    let read = c.law_ring.ensures.read c.args.machines c.requires.many c.requires.few in
    let same = ring_model c.args.machines c.args.options.now before now c.deref.result.now (c.deref.ensures.value ∙ c.in_ok-bytes.ensures) read c.in_ok-model.model c.in_ok-model.ensures.read in
    rw (p.1, p.2) (ring_cut c.args.machines c.args.options.now before now refl c.in_ok-model.model same
    (c.law_ring.ensures.short c.args.machines c.requires.many c.requires.few) read c.in_ok-solution.solution c.in_ok-solution.ensures.solved c.deref-2.result.now c.deref-2.ensures
    c.in_err-write_summary.ensures.text c.in_err-write_summary.ensures.count.0)

pub returns-clause-answers : goal.returns-clause-answers
returns-clause-answers g c = λ inputs.
    let before = seen_beside g.K.Sink.taken g.K.Sink.faults inputs c.args.out.now in
    let now = seen_beside g.K.Sink.taken g.K.Sink.faults inputs c.write_summary.new.k in
    let read = c.law_ring.ensures.read c.args.machines c.requires.many c.requires.few in
    let same = ring_model c.args.machines c.args.options.now before now c.deref.result.now (c.deref.ensures.value ∙ c.in_ok-bytes.ensures) read c.in_ok-model.model c.in_ok-model.ensures.read in
    subst (λ (status : Status). Answers (solving_ring c.args.machines c.args.options.now) status before now) (sym c.finished.ensures)
    (ring_whole c.args.machines c.args.options.now before now refl c.in_ok-model.model same
    (c.law_ring.ensures.short c.args.machines c.requires.many c.requires.few) read c.in_ok-solution.solution c.in_ok-solution.ensures.solved c.deref-2.result.now c.deref-2.ensures
    c.in_ok-write_summary.ensures.text c.in_ok-write_summary.ensures.count)
