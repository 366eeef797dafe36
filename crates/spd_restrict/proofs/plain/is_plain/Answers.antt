use Rattle.std.proofs.Common.{sym, ◌∙◌, arith, refl, true≢false}
use Rattle.std.proofs.lemmas.List.Elements.{All-more}
use Rattle.spd_restrict.specs.Primed.{IsPlainRoot}
use Rattle.spd_restrict.proofs.PlainLaws.{plain-reached, plain-roots, all-taken}
use Rattle.spd_restrict.proofs.plain.is_plain.Goals as goal

pub loop-q-preserved : goal.loop-q-preserved
loop-q-preserved g c =
    let s = g.F.Forest.shows c.args.forest.now in
    let h = c.loop-q.invariant in
    let here = rw h.same at (c.is_plain_root.ensures.plain.0 c.if-not-is_plain_root.false) in
    record {
      same = c.is_plain_root.ensures.same ∙ h.same;
      keeps = c.is_plain_root.ensures.keeps ∙ h.keeps;
      reached = h.reached;
      plain = All-more (IsPlainRoot s) c.as_slice-q-items.result.now c.loop-q.q-index _ c.loop-q-test.true h.plain here;
    }

pub returns-then-not-is_plain_root-clause-plain : goal.returns-then-not-is_plain_root-clause-plain
returns-then-not-is_plain_root-clause-plain g c =
    let s = g.F.Forest.shows c.args.forest.now in
    let h = c.loop-q.invariant in (
      λ e. absurd (true≢false (sym e)),
      λ p. absurd (true≢false (sym (c.is_plain_root.ensures.plain.1 (rw h.same (plain-roots s c.args.r c.as_slice-q-items.result.now h.reached p c.loop-q.q-index _ c.loop-q-test.true))) ∙ c.if-not-is_plain_root.true)),
    )

pub returns-clause-plain : goal.returns-clause-plain
returns-clause-plain g c =
    let s = g.F.Forest.shows c.args.forest.now in
    let h = c.loop-q.invariant in
    (λ _. plain-reached s c.args.r c.as_slice-q-items.result.now h.reached (all-taken (IsPlainRoot s) c.as_slice-q-items.result.now c.loop-q.q-index (omega arith) h.plain), λ _. refl)
