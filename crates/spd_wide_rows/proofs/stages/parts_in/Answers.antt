use Rattle.std.proofs.Common.{subst}
use Rattle.spd_model.specs.Lawful.{IsLawful}
use Rattle.spd_model.proofs.CallerLemmas.Validity.{is_valid}
use Rattle.spd_backup.proofs.CallerLemmas.{built-rewards-fit, built-weights-fit}
use Rattle.spd_wide_rows.proofs.stages.parts_in.Goals as goal

pub thaw_built-requires-clause-weights : goal.thaw_built-requires-clause-weights
thaw_built-requires-clause-weights g c =
    built-weights-fit (g.F.Forest.shows c.args.forest.now) c.layout.ensures.sound c.args.model.now c.requires.layout c.args.built.now c.requires.built.parts

pub thaw_built-requires-clause-rewards : goal.thaw_built-requires-clause-rewards
thaw_built-requires-clause-rewards g c =
    built-rewards-fit (g.F.Forest.shows c.args.forest.now) c.layout.ensures.sound c.args.model.now c.requires.layout c.args.built.now c.requires.built.parts

pub returns-in-Ok-clause-thawed : goal.returns-in-Ok-clause-thawed
returns-in-Ok-clause-thawed g c =
    let m = c.args.model.now in
    let b = c.requires.built in
    let law = subst IsLawful c.model.view_is c.model.invariant in
    (c.in-Ok.ensures.process m law (is_valid m law b.sums b.rewards) b.parts c.requires.layout).ok
