use Rattle.std.proofs.Common.{◌≡◌, true, sym, ◌∙◌, arith, All, true≢false}
use Rattle.std.proofs.lemmas.List.Elements.{All-more}
use Rattle.spd_apply.proofs.FitLaws.{all-passed, one-failed}
use Rattle.spd_apply.proofs.conditions.fits_all.Goals as goal

pub loop-a-preserved : goal.loop-a-preserved
loop-a-preserved g c = All-more (λ a. All (λ b. g.O.LeafOp.fits c.args.op.now a b ≡ true) c.args.right.now) c.args.left.now c.loop-a.a-index _ c.loop-a-test.true c.loop-a.invariant (c.fits_each.ensures.0 c.if-not-fits_each.false)

pub returns-then-not-fits_each : goal.returns-then-not-fits_each
returns-then-not-fits_each g c = one-failed (λ a. All (λ b. g.O.LeafOp.fits c.args.op.now a b ≡ true) c.args.right.now) c.args.left.now c.loop-a.a-index _ c.loop-a-test.true (λ all. true≢false (sym (c.fits_each.ensures.1 all) ∙ c.if-not-fits_each.true))

pub returns : goal.returns
returns g c = all-passed (λ a. All (λ b. g.O.LeafOp.fits c.args.op.now a b ≡ true) c.args.right.now) c.args.left.now c.loop-a.a-index (omega arith) c.loop-a.invariant
