use Rattle.std.proofs.Common.{IfSome, subst}
use Rattle.spd_backup.specs.Thawing.{IsThawedOf}
use Rattle.spd_stage_rows.proofs.BuiltLaws.{parts-grow}
use Rattle.spd_stage_rows.proofs.backing.check_backup.Goals as goal

pub bounds_in-requires-clause-thawed : goal.bounds_in-requires-clause-thawed
bounds_in-requires-clause-thawed g c =
    let s = g.F.Forest.shows c.prepared.new.forest in
    parts-grow c.args.model.now s (g.F.Forest.shows c.value_in.new.forest) c.in-Some.thawed c.value_in.ensures.grows
    (subst (λ o. IfSome o (IsThawedOf c.args.model.now s)) c.in-Some.is c.in_ok-thawed.ensures.thawed)
