use Rattle.std.proofs.Common.{sym, subst, ◌∙◌}
use Rattle.spd_model.specs.Lawful.{IsLawful}
use Rattle.spd_model.proofs.CallerLemmas.Results.{err_is}
use Rattle.spd_turn.specs.Parts.{MakesParts}
use Rattle.spd_turn.proofs.ThawLaws.{parts-made, process-fails, rewards-fit, value-fails, value-fits, weights-fit}
use Rattle.spd_turn.proofs.parts.thaw_parts.Goals as goal

pub thaw_built-requires-clause-weights : goal.thaw_built-requires-clause-weights
thaw_built-requires-clause-weights g c =
    let law : IsLawful c.args.model.now = subst IsLawful c.model.view_is c.model.invariant in
    weights-fit c.args.model.now law (g.F.Forest.shows c.args.forest.now) c.requires.layout c.args.built.now c.requires.built

pub thaw_built-requires-clause-rewards : goal.thaw_built-requires-clause-rewards
thaw_built-requires-clause-rewards g c =
    let law : IsLawful c.args.model.now = subst IsLawful c.model.view_is c.model.invariant in
    rewards-fit c.args.model.now law (g.F.Forest.shows c.args.forest.now) c.requires.layout c.args.built.now c.requires.built

pub returns-in_err-thawed-clause-made : goal.returns-in_err-thawed-clause-made
returns-in_err-thawed-clause-made g c = λ v is.
    let m = c.args.model.now in
    let law : IsLawful m = subst IsLawful c.model.view_is c.model.invariant in
    let s = g.F.Forest.shows c.args.forest.now in
    let t = g.F.Forest.shows c.thaw_built.new.forest in
    subst (MakesParts m v s t) (sym (err_is c.from_residual.result c.in_err-thawed.field-0.0 c.from_residual.ensures.1))
    (process-fails m law s c.requires.layout v c.args.value.now is t c.in_err-thawed.field-0.0 (c.in_err-thawed.ensures.process m law c.requires.valid c.requires.built c.requires.layout))

pub thaw-requires : goal.thaw-requires
thaw-requires g c =
    let m = c.args.model.now in
    let law : IsLawful m = subst IsLawful c.model.view_is c.model.invariant in
    value-fits m law (g.F.Forest.shows c.thaw_built.new.forest) (c.in_ok-thawed.ensures.made.made.grows.sizes ∙ c.requires.layout) c.requires.value.value c.args.value.now c.requires.value.is

pub returns-in_err-w-clause-made : goal.returns-in_err-w-clause-made
returns-in_err-w-clause-made g c = λ v is.
    let m = c.args.model.now in
    let law : IsLawful m = subst IsLawful c.model.view_is c.model.invariant in
    let s = g.F.Forest.shows c.args.forest.now in
    let t = g.F.Forest.shows c.thaw_built.new.forest in
    let u = g.F.Forest.shows c.thaw.new.forest in
    let thawed = c.in_ok-thawed.ensures.process m law c.requires.valid c.requires.built c.requires.layout in
    subst (MakesParts m v s u) (sym (err_is c.from_residual-in_err-w.result c.in_err-w.field-0.0 c.from_residual-in_err-w.ensures.1))
    (value-fails m law s c.requires.layout v c.args.value.now is t c.in_ok-thawed.thawed thawed u c.in_err-w.field-0.0 c.in_err-w.ensures.made)

pub returns-clause-made : goal.returns-clause-made
returns-clause-made g c = λ v is.
    let m = c.args.model.now in
    let law : IsLawful m = subst IsLawful c.model.view_is c.model.invariant in
    let s = g.F.Forest.shows c.args.forest.now in
    let t = g.F.Forest.shows c.thaw_built.new.forest in
    let u = g.F.Forest.shows c.thaw.new.forest in
    let thawed = c.in_ok-thawed.ensures.process m law c.requires.valid c.requires.built c.requires.layout in
    parts-made m law s c.requires.layout v c.args.value.now is t c.in_ok-thawed.thawed thawed u c.in_ok-w.w c.in_ok-w.ensures.made
