use Rattle.std.proofs.Common.{IfSome, subst}
use Rattle.spd_backup.specs.Thawing.{IsThawedOf}
use Rattle.spd_stage_rows.proofs.BuiltLaws.{parts-grow}
use Rattle.spd_stage_rows.proofs.limits.stages.Goals as goal

pub backed_up-requires-clause-thawed : goal.backed_up-requires-clause-thawed
backed_up-requires-clause-thawed g c =
    let s = g.F.Forest.shows c.prepared.new.forest in
    parts-grow c.args.model.now s (g.F.Forest.shows c.thaw.new.forest) c.in-Some.thawed c.in-Ok.ensures.made.grows
    (subst (λ o. IfSome o (IsThawedOf c.args.model.now s)) c.in-Some.is c.in_ok-thawed.ensures.thawed)
