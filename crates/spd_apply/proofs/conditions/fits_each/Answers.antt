use Rattle.std.proofs.Common.{◌≡◌, true, sym, ◌∙◌, arith}
use Rattle.std.proofs.lemmas.List.Elements.{All-more}
use Rattle.spd_apply.proofs.FitLaws.{all-passed, one-failed, not-both}
use Rattle.spd_apply.proofs.conditions.fits_each.Goals as goal

pub loop-b-preserved : goal.loop-b-preserved
loop-b-preserved g c = All-more (λ b. g.O.LeafOp.fits c.args.op.now c.args.a b ≡ true) c.args.right.now c.loop-b.b-index _ c.loop-b-test.true c.loop-b.invariant (sym c.fits.ensures ∙ c.if-not-fits.false)

pub returns-then-not-fits : goal.returns-then-not-fits
returns-then-not-fits g c = one-failed (λ b. g.O.LeafOp.fits c.args.op.now c.args.a b ≡ true) c.args.right.now c.loop-b.b-index _ c.loop-b-test.true (not-both c.fits.ensures c.if-not-fits.true)

pub returns : goal.returns
returns g c = all-passed (λ b. g.O.LeafOp.fits c.args.op.now c.args.a b ≡ true) c.args.right.now c.loop-b.b-index (omega arith) c.loop-b.invariant
