use Rattle.std.proofs.Common.{[], ◌∷◌, subst, sym}
use Rattle.std.specs.Prelude.{IfSome}
use Rattle.spd_nodes.specs.Shown.{MakesDiagram, meaning}
use Rattle.spd_restrict.specs.Primed.{primed}
use Rattle.spd_backup.specs.Keeping.{IsPrimed}
use Rattle.spd_model.proofs.CallerLemmas.Results.{err_is}
use Rattle.spd_backup.proofs.KeepingLaws.{last-grows, primed-made}
use Rattle.spd_backup.proofs.backing.primed_of.Goals as goal
use Rattle.spd_nodes.proofs.CallerLemmas.{makes_among-known}

pub returns-in-Some-clause-made : goal.returns-in-Some-clause-made
returns-in-Some-clause-made g c =
    let s = g.F.Forest.shows c.args.forest.now in
    let p : IsPrimed s c.args.f c.in-Some.primed = subst (λ l. IfSome l (λ q. IsPrimed s q.0 q.1)) c.in-Some.ensures c.requires.last in
    makes_among-known s c.layout.ensures.sound c.in-Some.primed (primed (meaning s c.args.f)) (primed (meaning s c.args.f) ∷ []) p.stands

pub returns-in_err-primed-clause-made : goal.returns-in_err-primed-clause-made
returns-in_err-primed-clause-made g c =
    let s = g.F.Forest.shows c.args.forest.now in
    subst (MakesDiagram s (g.F.Forest.shows c.prime.new.forest) (primed (meaning s c.args.f))) (sym (err_is c.from_residual.result c.in_err-primed.field-0.0 c.from_residual.ensures.1)) c.in_err-primed.ensures.made

pub returns-in_err-primed-clause-last : goal.returns-in_err-primed-clause-last
returns-in_err-primed-clause-last g c = last-grows (g.F.Forest.shows c.args.forest.now) (g.F.Forest.shows c.prime.new.forest) c.args.last.now c.in_err-primed.ensures.made.grows c.requires.last

pub returns-clause-made : goal.returns-clause-made
returns-clause-made g c = c.in_ok-primed.ensures.made

pub returns-clause-last : goal.returns-clause-last
returns-clause-last g c = primed-made (g.F.Forest.shows c.args.forest.now) (g.F.Forest.shows c.prime.new.forest) c.args.f c.in_ok-primed.primed c.requires.known c.in_ok-primed.ensures.made
