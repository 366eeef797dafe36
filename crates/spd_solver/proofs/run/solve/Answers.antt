use Rattle.std.proofs.Common.{◌∙◌, refl, sym, ap, subst}
use Rattle.std.proofs.lemmas.Option.{none-some}
use Rattle.std.proofs.lemmas.Result.{err_from_is_err_and}
use Rattle.sha2.specs.Sha256.{sha256}
use Rattle.spd_edge.specs.declared.outside.Stage.TheVariants as Stage
use Rattle.spd_solver.specs.Command.{solving}
use Rattle.spd_solver.specs.Run.{seen}
use Rattle.spd_solver.specs.inner.Stages.{Answers}
use Rattle.spd_solver.specs.declared.status.Status.{Status}
use Rattle.spd_solver.proofs.RunLaws.{was_read, unreadable_answers, unread_answers, unsolved_answers, cut_answers, whole_answers}
use Rattle.spd_solver.proofs.run.solve.Goals as goal

pub returns-in_err-bytes-clause-answers : goal.returns-in_err-bytes-clause-answers
returns-in_err-bytes-clause-answers g c =
    let before = seen g.P.Place.inputs g.K.Sink.taken g.K.Sink.faults c.args.place.now c.args.out.now in
    let now = seen g.P.Place.inputs g.K.Sink.taken g.K.Sink.faults c.read_file.new.place c.args.out.now in
    let p = err_from_is_err_and c.from_residual.result c.from_residual.ensures.1 in
    rw (p.1, p.2) (unreadable_answers c.args.way c.args.file.now c.args.options.now before now c.in_err-bytes.field-0.0 c.in_err-bytes.ensures.cause (refl, refl))

pub returns-in_err-model-clause-answers : goal.returns-in_err-model-clause-answers
returns-in_err-model-clause-answers g c =
    let before = seen g.P.Place.inputs g.K.Sink.taken g.K.Sink.faults c.args.place.now c.args.out.now in
    let now = seen g.P.Place.inputs g.K.Sink.taken g.K.Sink.faults c.read_file.new.place c.args.out.now in
    let p = err_from_is_err_and c.from_residual-in_err-model.result c.from_residual-in_err-model.ensures.1 in
    rw (p.1, p.2) (unread_answers c.args.way c.args.file.now c.args.options.now before now c.deref-2.result.now
    (was_read c.args.file.now c.in_ok-bytes.bytes.items c.deref-2.result.now before now c.deref-2.ensures.value c.in_ok-bytes.ensures.held c.in_ok-bytes.ensures.within c.in_ok-bytes.ensures.read c.in_ok-bytes.ensures.calm)
    c.in_err-model.field-0.0 c.in_err-model.ensures.refused (refl, refl))

pub returns-in_err-solution-clause-answers : goal.returns-in_err-solution-clause-answers
returns-in_err-solution-clause-answers g c =
    let before = seen g.P.Place.inputs g.K.Sink.taken g.K.Sink.faults c.args.place.now c.args.out.now in
    let now = seen g.P.Place.inputs g.K.Sink.taken g.K.Sink.faults c.read_file.new.place c.args.out.now in
    let p = err_from_is_err_and c.from_residual-in_err-solution.result c.from_residual-in_err-solution.ensures.1 in
    rw (p.1, p.2) (unsolved_answers c.args.way c.args.file.now c.args.options.now before now c.deref-2.result.now
    (was_read c.args.file.now c.in_ok-bytes.bytes.items c.deref-2.result.now before now c.deref-2.ensures.value c.in_ok-bytes.ensures.held c.in_ok-bytes.ensures.within c.in_ok-bytes.ensures.read c.in_ok-bytes.ensures.calm)
    c.in_ok-model.model c.in_ok-model.ensures.read c.in_err-solution.field-0.0 c.in_err-solution.ensures.refused (refl, refl))

pub returns-in_err-write_result-clause-answers : goal.returns-in_err-write_result-clause-answers
returns-in_err-write_result-clause-answers g c =
    let before = seen g.P.Place.inputs g.K.Sink.taken g.K.Sink.faults c.args.place.now c.args.out.now in
    let now = seen g.P.Place.inputs g.K.Sink.taken g.K.Sink.faults c.read_file.new.place c.write_result.new.k in
    let p = err_from_is_err_and c.from_residual-in_err-write_result.result c.from_residual-in_err-write_result.ensures.1 in
    rw (p.1, p.2) (cut_answers c.args.way c.args.file.now c.args.options.now before now c.deref-2.result.now
    (was_read c.args.file.now c.in_ok-bytes.bytes.items c.deref-2.result.now before now c.deref-2.ensures.value c.in_ok-bytes.ensures.held c.in_ok-bytes.ensures.within c.in_ok-bytes.ensures.read c.in_ok-bytes.ensures.calm)
    c.in_ok-model.model c.in_ok-model.ensures.read
    c.digest_of-digest.result (c.digest_of-digest.ensures ∙ ap sha256 (c.deref.ensures.value ∙ sym c.deref-2.ensures.value))
    c.in_ok-solution.solution c.in_ok-solution.ensures.solved c.deref-3.result.now c.deref-3.ensures
    c.in_err-write_result.ensures.text c.in_err-write_result.ensures.count.0)

pub returns-in_err-write_result-clause-asked : goal.returns-in_err-write_result-clause-asked
returns-in_err-write_result-clause-asked g c = λ name not. c.read_file.ensures.other_stages name not ∙ c.requires.fresh name

pub returns-in_err-write_result-clause-closed : goal.returns-in_err-write_result-clause-closed
returns-in_err-write_result-clause-closed g c = λ name is. none-some Stage.Open (sym (c.requires.fresh name) ∙ c.read_file.ensures.closed name is)

pub returns-clause-answers : goal.returns-clause-answers
returns-clause-answers g c =
    let before = seen g.P.Place.inputs g.K.Sink.taken g.K.Sink.faults c.args.place.now c.args.out.now in
    let now = seen g.P.Place.inputs g.K.Sink.taken g.K.Sink.faults c.read_file.new.place c.write_result.new.k in
    let x = c.in_ok-solution.solution in
    subst (λ (status : Status). Answers (solving c.args.way c.args.file.now c.args.options.now) status before now) (sym c.finished.ensures)
    (whole_answers c.args.way c.args.file.now c.args.options.now before now c.deref-2.result.now
    (was_read c.args.file.now c.in_ok-bytes.bytes.items c.deref-2.result.now before now c.deref-2.ensures.value c.in_ok-bytes.ensures.held c.in_ok-bytes.ensures.within c.in_ok-bytes.ensures.read c.in_ok-bytes.ensures.calm)
    c.in_ok-model.model c.in_ok-model.ensures.read
    c.digest_of-digest.result (c.digest_of-digest.ensures ∙ ap sha256 (c.deref.ensures.value ∙ sym c.deref-2.ensures.value))
    x c.in_ok-solution.ensures.solved c.deref-3.result.now c.deref-3.ensures
    c.in_ok-write_result.ensures.text c.in_ok-write_result.ensures.count)

pub returns-clause-asked : goal.returns-clause-asked
returns-clause-asked g c = λ name not. c.read_file.ensures.other_stages name not ∙ c.requires.fresh name

pub returns-clause-closed : goal.returns-clause-closed
returns-clause-closed g c = λ name is. none-some Stage.Open (sym (c.requires.fresh name) ∙ c.read_file.ensures.closed name is)
