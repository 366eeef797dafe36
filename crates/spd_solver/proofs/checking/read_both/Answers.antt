use Rattle.std.proofs.Common.{ℕ, List, refl, sym, subst, ◌∙◌}
use Rattle.std.proofs.lemmas.Result.{err_from_is_err_and}
use Rattle.spd_reader.specs.Reading.{IsRead, TellsRefusal}
use Rattle.spd_solver.proofs.CheckLaws.{model_unreadable, model_unread, cert_unreadable}
use Rattle.spd_solver.proofs.checking.read_both.Goals as goal

pub returns-in_err-bytes-clause-refused : goal.returns-in_err-bytes-clause-refused
returns-in_err-bytes-clause-refused g c = λ purpose options.
    let p = err_from_is_err_and c.from_residual.result c.from_residual.ensures.1 in
    let none = c.read_file.ensures.other_stages c.args.cert.now (λ same. c.requires.two (sym same)) ∙ c.requires.fresh c.args.cert.now in
    rw (p.1, p.2) (λ taken faults. model_unreadable purpose c.args.file.now c.args.cert.now options
    (record { inputs = g.P.Place.inputs c.args.place.now; taken = taken; faults = faults }) (record { inputs = g.P.Place.inputs c.read_file.new.place; taken = taken; faults = faults })
    c.in_err-bytes.field-0.0 c.in_err-bytes.ensures.cause none (refl, refl))

pub returns-in_err-model-clause-refused : goal.returns-in_err-model-clause-refused
returns-in_err-model-clause-refused g c = λ purpose options.
    let p = err_from_is_err_and c.from_residual-in_err-model.result c.from_residual-in_err-model.ensures.1 in
    let none = c.read_file.ensures.other_stages c.args.cert.now (λ same. c.requires.two (sym same)) ∙ c.requires.fresh c.args.cert.now in
    rw (p.1, p.2) (λ taken faults. model_unread purpose c.args.file.now c.args.cert.now options
    (record { inputs = g.P.Place.inputs c.args.place.now; taken = taken; faults = faults }) (record { inputs = g.P.Place.inputs c.read_file.new.place; taken = taken; faults = faults })
    c.in_ok-bytes.bytes.items c.in_ok-bytes.ensures.held c.in_ok-bytes.ensures.read c.in_err-model.field-0.0 c.in_ok-bytes.ensures.within
    (subst (λ (b : List ℕ). TellsRefusal b c.in_err-model.field-0.0) c.deref.ensures.value c.in_err-model.ensures.refused) none c.in_ok-bytes.ensures.calm (refl, refl))

pub returns-in_err-text-clause-refused : goal.returns-in_err-text-clause-refused
returns-in_err-text-clause-refused g c = λ purpose options.
    let p = err_from_is_err_and c.from_residual-in_err-text.result c.from_residual-in_err-text.ensures.1 in
    let bytes = c.in_ok-bytes.bytes.items in
    let m = c.in_ok-model.model in
    let closed = c.read_file-2.ensures.other_stages c.args.file.now c.requires.two ∙ c.in_ok-bytes.ensures.read in
    rw (p.1, p.2) (λ taken faults. cert_unreadable purpose c.args.file.now c.args.cert.now options
    (record { inputs = g.P.Place.inputs c.args.place.now; taken = taken; faults = faults }) (record { inputs = g.P.Place.inputs c.read_file-2.new.place; taken = taken; faults = faults })
    bytes c.in_ok-bytes.ensures.held closed m (record { short = c.in_ok-bytes.ensures.within; reads = subst (λ (b : List ℕ). IsRead b m) c.deref.ensures.value c.in_ok-model.ensures.read })
    (g.P.Place.inputs c.read_file.new.place) c.read_file.ensures.holds c.in_ok-bytes.ensures.calm c.in_err-text.field-0.0 c.in_err-text.ensures.cause (refl, refl))
