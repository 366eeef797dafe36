use Rattle.std.proofs.Common.{◌≡◌, true, sym, ◌∙◌, arith}
use Rattle.std.proofs.lemmas.List.Elements.{All-more}
use Rattle.spd_apply.proofs.FitLaws.{all-passed, one-failed, not-both}
use Rattle.spd_apply.proofs.conditions.maps_all.Goals as goal

pub loop-a-preserved : goal.loop-a-preserved
loop-a-preserved g c = All-more (λ a. g.M.LeafMap.fits c.args.map.now a ≡ true) c.args.leaves.now c.loop-a.a-index _ c.loop-a-test.true c.loop-a.invariant (sym c.fits.ensures ∙ c.if-not-fits.false)

pub returns-then-not-fits : goal.returns-then-not-fits
returns-then-not-fits g c = one-failed (λ a. g.M.LeafMap.fits c.args.map.now a ≡ true) c.args.leaves.now c.loop-a.a-index _ c.loop-a-test.true (not-both c.fits.ensures c.if-not-fits.true)

pub returns : goal.returns
returns g c = all-passed (λ a. g.M.LeafMap.fits c.args.map.now a ≡ true) c.args.leaves.now c.loop-a.a-index (omega arith) c.loop-a.invariant
