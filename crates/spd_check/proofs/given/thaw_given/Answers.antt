use Rattle.std.proofs.Common.{sym, subst}
use Rattle.spd_model.specs.Lawful.{IsLawful}
use Rattle.spd_model.proofs.CallerLemmas.Results.{err_is}
use Rattle.spd_backup.proofs.CallerLemmas.{built-rewards-fit, built-weights-fit}
use Rattle.spd_check.specs.Certificates.{value_by, policy_by}
use Rattle.spd_check.specs.inner.Judging.{MakesGiven}
use Rattle.spd_check.proofs.GivenLaws.{fits-t, fits-u, given-made, policy-fails, process-fails, value-fails}
use Rattle.spd_check.proofs.given.thaw_given.Goals as goal

pub thaw_built-requires-clause-weights : goal.thaw_built-requires-clause-weights
thaw_built-requires-clause-weights g c =
    built-weights-fit (g.F.Forest.shows c.args.forest.now) c.layout.ensures.sound c.args.model.now c.requires.layout c.args.built.now c.requires.built

pub thaw_built-requires-clause-rewards : goal.thaw_built-requires-clause-rewards
thaw_built-requires-clause-rewards g c =
    built-rewards-fit (g.F.Forest.shows c.args.forest.now) c.layout.ensures.sound c.args.model.now c.requires.layout c.args.built.now c.requires.built

pub returns-in_err-thawed-clause-made : goal.returns-in_err-thawed-clause-made
returns-in_err-thawed-clause-made g c =
    let m = c.args.model.now in
    let law : IsLawful m = subst IsLawful c.model.view_is c.model.invariant in
    let value = c.args.value.now in
    let policy = c.args.policy.now in
    let s = g.F.Forest.shows c.args.forest.now in
    let t = g.F.Forest.shows c.thaw_built.new.forest in
    subst (MakesGiven m (value_by value) (policy_by policy) s t) (sym (err_is c.from_residual.result c.in_err-thawed.field-0.0 c.from_residual.ensures.1))
    (process-fails m value policy c.nodes.ensures.frozen c.nodes-2.ensures.frozen c.requires.fit law c.requires.valid s c.requires.layout t c.in_err-thawed.field-0.0 (c.in_err-thawed.ensures.process m law c.requires.valid c.requires.built c.requires.layout))

pub thaw-requires : goal.thaw-requires
thaw-requires g c =
    let m = c.args.model.now in
    let law : IsLawful m = subst IsLawful c.model.view_is c.model.invariant in
    fits-t m c.args.value.now c.args.policy.now c.nodes.ensures.frozen c.nodes-2.ensures.frozen c.requires.fit law c.requires.valid (g.F.Forest.shows c.args.forest.now) c.requires.layout
    (g.F.Forest.shows c.thaw_built.new.forest) c.in_ok-thawed.thawed (c.in_ok-thawed.ensures.process m law c.requires.valid c.requires.built c.requires.layout)

pub returns-in_err-w-clause-made : goal.returns-in_err-w-clause-made
returns-in_err-w-clause-made g c =
    let m = c.args.model.now in
    let law : IsLawful m = subst IsLawful c.model.view_is c.model.invariant in
    let value = c.args.value.now in
    let policy = c.args.policy.now in
    let s = g.F.Forest.shows c.args.forest.now in
    let t = g.F.Forest.shows c.thaw_built.new.forest in
    let u = g.F.Forest.shows c.thaw.new.forest in
    subst (MakesGiven m (value_by value) (policy_by policy) s u) (sym (err_is c.from_residual-in_err-w.result c.in_err-w.field-0.0 c.from_residual-in_err-w.ensures.1))
    (value-fails m value policy c.nodes.ensures.frozen c.nodes-2.ensures.frozen c.requires.fit law c.requires.valid s c.requires.layout
    t c.in_ok-thawed.thawed (c.in_ok-thawed.ensures.process m law c.requires.valid c.requires.built c.requires.layout) u c.in_err-w.field-0.0 c.in_err-w.ensures.made)

pub thaw-requires-2 : goal.thaw-requires-2
thaw-requires-2 g c =
    let m = c.args.model.now in
    let law : IsLawful m = subst IsLawful c.model.view_is c.model.invariant in
    fits-u m c.args.value.now c.args.policy.now c.nodes.ensures.frozen c.nodes-2.ensures.frozen c.requires.fit law c.requires.valid (g.F.Forest.shows c.args.forest.now) c.requires.layout
    (g.F.Forest.shows c.thaw_built.new.forest) c.in_ok-thawed.thawed (c.in_ok-thawed.ensures.process m law c.requires.valid c.requires.built c.requires.layout)
    (g.F.Forest.shows c.thaw.new.forest) c.in_ok-w.w c.in_ok-w.ensures.made

pub returns-in_err-act-clause-made : goal.returns-in_err-act-clause-made
returns-in_err-act-clause-made g c =
    let m = c.args.model.now in
    let law : IsLawful m = subst IsLawful c.model.view_is c.model.invariant in
    let value = c.args.value.now in
    let policy = c.args.policy.now in
    let s = g.F.Forest.shows c.args.forest.now in
    let t = g.F.Forest.shows c.thaw_built.new.forest in
    let u = g.F.Forest.shows c.thaw.new.forest in
    let v = g.F.Forest.shows c.thaw-2.new.forest in
    subst (MakesGiven m (value_by value) (policy_by policy) s v) (sym (err_is c.from_residual-in_err-act.result c.in_err-act.field-0.0 c.from_residual-in_err-act.ensures.1))
    (policy-fails m value policy c.nodes.ensures.frozen c.nodes-2.ensures.frozen c.requires.fit law c.requires.valid s c.requires.layout
    t c.in_ok-thawed.thawed (c.in_ok-thawed.ensures.process m law c.requires.valid c.requires.built c.requires.layout) u c.in_ok-w.w c.in_ok-w.ensures.made v c.in_err-act.field-0.0 c.in_err-act.ensures.made)

pub returns-clause-made : goal.returns-clause-made
returns-clause-made g c =
    let m = c.args.model.now in
    let law : IsLawful m = subst IsLawful c.model.view_is c.model.invariant in
    let value = c.args.value.now in
    let policy = c.args.policy.now in
    let s = g.F.Forest.shows c.args.forest.now in
    let t = g.F.Forest.shows c.thaw_built.new.forest in
    let u = g.F.Forest.shows c.thaw.new.forest in
    let v = g.F.Forest.shows c.thaw-2.new.forest in
    given-made m value policy c.nodes.ensures.frozen c.nodes-2.ensures.frozen c.requires.fit law c.requires.valid s c.requires.layout
    t c.in_ok-thawed.thawed (c.in_ok-thawed.ensures.process m law c.requires.valid c.requires.built c.requires.layout) u c.in_ok-w.w c.in_ok-w.ensures.made v c.in_ok-act.act c.in_ok-act.ensures.made
