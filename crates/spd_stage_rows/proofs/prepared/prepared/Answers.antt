use Rattle.std.proofs.Common.{◌∙◌, map, subst}
use Rattle.spd_model.specs.Lawful.{IsLawful}
use Rattle.spd_model.proofs.CallerLemmas.Validity.{is_valid}
use Rattle.spd_build.specs.Functions.{reward}
use Rattle.spd_nodes.proofs.CallerLemmas.{stand-known}
use Rattle.spd_backup.proofs.CallerLemmas.{built-rewards-fit, built-weights-fit}
use Rattle.spd_stage_rows.proofs.prepared.prepared.Goals as goal

pub thaw_built-requires-clause-weights : goal.thaw_built-requires-clause-weights
thaw_built-requires-clause-weights g c =
    let b = c.in-Ok.ensures.built in
    built-weights-fit (g.F.Forest.shows c.build.new.forest) b.made.sound c.args.model.now (b.made.grows.sizes ∙ c.requires.layout) c.in-Ok.built b.ok.parts

pub thaw_built-requires-clause-rewards : goal.thaw_built-requires-clause-rewards
thaw_built-requires-clause-rewards g c =
    let b = c.in-Ok.ensures.built in
    built-rewards-fit (g.F.Forest.shows c.build.new.forest) b.made.sound c.args.model.now (b.made.grows.sizes ∙ c.requires.layout) c.in-Ok.built b.ok.parts

pub returns-in-Ok-thaw_built-clause-thawed : goal.returns-in-Ok-thaw_built-clause-thawed
returns-in-Ok-thaw_built-clause-thawed g c =
    let b = c.in-Ok.ensures.built in
    let m = c.args.model.now in
    let law = subst IsLawful c.model.view_is c.model.invariant in
    (c.in-Ok-thaw_built.ensures.process m law (is_valid m law b.ok.sums b.ok.rewards) b.ok.parts (b.made.grows.sizes ∙ c.requires.layout)).ok

pub returns-in-Ok-thaw_built-clause-rewards : goal.returns-in-Ok-thaw_built-clause-rewards
returns-in-Ok-thaw_built-clause-rewards g c =
    let b = c.in-Ok.ensures.built in
    let m = c.args.model.now in
    let law = subst IsLawful c.model.view_is c.model.invariant in
    let thawed = (c.in-Ok-thaw_built.ensures.process m law (is_valid m law b.ok.sums b.ok.rewards) b.ok.parts (b.made.grows.sizes ∙ c.requires.layout)).ok in
    stand-known (g.F.Forest.shows c.thaw_built.new.forest) c.in-Ok-thaw_built.thawed.rewards.items (map (reward m) m.actions) thawed.rewards
