use Rattle.std.proofs.Common.{◌∙◌, All, IsTrue, arith, rules, subst}
use Rattle.std.proofs.lemmas.List.{take_all}
use Rattle.std.proofs.lemmas.List.Elements.{All-more}
use Rattle.spd_cons_core.specs.declared.key.Entry.{Entry}
use Rattle.spd_backup.specs.Exact.{HasExactLeaves}
use Rattle.spd_backup.proofs.exact.are_exact.Goals as goal

pub loop-r-preserved : goal.loop-r-preserved
loop-r-preserved g c =
    let s = g.F.Forest.shows c.args.forest.now in
    let before = c.loop-r.invariant in
    let none : Entry = record { 0 = 0 } in
    let yes : IsTrue c.in-Ok-true.field-0 = search rules in
    record {
      same = c.reaches_exact.ensures.same ∙ before.same;
      keeps = c.reaches_exact.ensures.keeps ∙ before.keeps;
      seen = rw before.same at c.in-Ok-true.ensures.seen;
      leaves = All-more (λ r. HasExactLeaves c.args.ratio (s.tree r)) c.args.refs.now c.loop-r.r-index none c.loop-r-test.true before.leaves (rw before.same at (c.in-Ok-true.ensures.leaves yes));
    }

pub returns-clause-leaves : goal.returns-clause-leaves
returns-clause-leaves g c = λ h.
    let s = g.F.Forest.shows c.args.forest.now in
    subst (All (λ r. HasExactLeaves c.args.ratio (s.tree r))) (take_all c.loop-r.r-index c.args.refs.now (omega arith)) c.loop-r.invariant.leaves
