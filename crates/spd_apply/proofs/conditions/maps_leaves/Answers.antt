use Rattle.spd_apply.proofs.FitLaws.{fits-everywhere}
use Rattle.spd_apply.proofs.conditions.maps_leaves.Goals as goal

pub returns-clause-everywhere : goal.returns-clause-everywhere
returns-clause-everywhere g c =
    let fits = fits-everywhere (g.M.LeafMap.fits c.args.map.now) (g.F.Forest.shows c.args.forest.now) c.args.f c.in_ok-leaves.leaves.items c.in_ok-leaves.ensures.ok in
    let all = rw c.deref.ensures.value at c.maps_all.ensures in
    (λ t. fits.0 (all.0 t), λ every. all.1 (fits.1 every))
