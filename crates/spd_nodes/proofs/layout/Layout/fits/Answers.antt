use Rattle.std.proofs.Common.{◌<◌, ◌≤◌, arith}
use Rattle.std.proofs.lemmas.List.Elements.{All-more}
use Rattle.spd_nodes.proofs.LayoutLaws.{levels-more}
use Rattle.spd_nodes.proofs.layout.Layout.fits.Goals as goal

pub loop-size-preserved : goal.loop-size-preserved
loop-size-preserved c =
    let h = c.loop-size.invariant in
    let more = levels-more c.loop-size.size-index c.args.sizes.now c.loop-size-test.true in
    record {
      some = h.some;
      few = h.few;
      sizes = All-more (λ d. (0 < d) × (d ≤ 64)) c.args.sizes.now c.loop-size.size-index 0 c.loop-size-test.true h.sizes (grind arith, grind arith);
      tests = omega (arith, more);
      small = grind arith;
    }
