use Rattle.spd_nodes.specs.Shown.{meaning}
use Rattle.spd_apply.proofs.FitLaws.{each-fit, fit-everywhere}
use Rattle.spd_apply.proofs.conditions.fits_leaves.Goals as goal

pub returns-clause-each : goal.returns-clause-each
returns-clause-each g c =
    let right = rw c.leaves_of.ensures.same at c.in_ok-right.ensures.ok in
    let fits = each-fit (g.O.LeafOp.fits c.args.op.now) (g.F.Forest.shows c.args.forest.now).sizes (meaning (g.F.Forest.shows c.args.forest.now) c.args.f) (meaning (g.F.Forest.shows c.args.forest.now) c.args.g) c.in_ok-left.left.items c.in_ok-right.right.items c.in_ok-left.ensures.ok right in
    let all = rw (c.deref.ensures.value, c.deref-2.ensures.value) at c.fits_all.ensures in
    (λ t. fits.0 (all.0 t), λ each. all.1 (fits.1 each))

pub returns-clause-everywhere : goal.returns-clause-everywhere
returns-clause-everywhere g c t =
    let right = rw c.leaves_of.ensures.same at c.in_ok-right.ensures.ok in
    let fits = each-fit (g.O.LeafOp.fits c.args.op.now) (g.F.Forest.shows c.args.forest.now).sizes (meaning (g.F.Forest.shows c.args.forest.now) c.args.f) (meaning (g.F.Forest.shows c.args.forest.now) c.args.g) c.in_ok-left.left.items c.in_ok-right.right.items c.in_ok-left.ensures.ok right in
    let all = rw (c.deref.ensures.value, c.deref-2.ensures.value) at c.fits_all.ensures in
    fit-everywhere (g.O.LeafOp.fits c.args.op.now) (g.F.Forest.shows c.args.forest.now) c.args.f c.args.g (fits.0 (all.0 t))
