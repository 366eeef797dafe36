use Rattle.std.proofs.Common.{◌∙◌, arith, subst, All}
use Rattle.std.proofs.lemmas.List.{take_all}
use Rattle.std.proofs.lemmas.List.Elements.{All-more}
use Rattle.spd_nodes.specs.Shown.{IsWhole}
use Rattle.spd_diagram_rows.proofs.guarded.are_whole.Goals as goal

pub loop-kid-preserved : goal.loop-kid-preserved
loop-kid-preserved g c =
    let s = g.F.Forest.shows c.args.forest.now in
    let h = c.loop-kid.invariant in
    let here = rw h.same at (c.is_whole.ensures.whole.0 c.if-not-is_whole.false) in
    record {
      same = c.is_whole.ensures.same ∙ h.same;
      whole = All-more (λ k. IsWhole s k) c.args.kids.now c.loop-kid.kid-index _ c.loop-kid-test.true h.whole here;
    }

pub returns-clause-whole : goal.returns-clause-whole
returns-clause-whole g c t = subst (λ ks. All (λ k. IsWhole (g.F.Forest.shows c.args.forest.now) k) ks) (take_all c.loop-kid.kid-index c.args.kids.now (omega arith)) c.loop-kid.invariant.whole
