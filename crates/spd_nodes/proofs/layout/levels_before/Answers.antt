use Rattle.std.proofs.Common.{arith, ◌<◌, length}
use Rattle.spd_nodes.proofs.LayoutLaws.{fits-at, levels-more}
use Rattle.spd_nodes.proofs.layout.levels_before.Goals as goal

pub overflow_add-before : goal.overflow_add-before
overflow_add-before c =
    let here : c.loop-i.i < length c.args.sizes.now = omega arith in
    let fits = fits-at c.args.sizes.now c.requires.layout c.loop-i.i here in
    omega (arith, c.loop-i.invariant)

pub loop-i-preserved : goal.loop-i-preserved
loop-i-preserved c =
    let here : c.loop-i.i < length c.args.sizes.now = omega arith in
    let more = levels-more c.loop-i.i c.args.sizes.now here in
    omega (arith, c.loop-i.invariant)
