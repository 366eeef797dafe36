use Rattle.std.proofs.Common.{refl}
use Rattle.spd_nodes.proofs.CallerLemmas.{makes-diagram}
use Rattle.spd_apply.proofs.MapLaws.{map-tree, map-fits}
use Rattle.spd_apply.proofs.unary.map_leaves.Goals as goal

pub make_alone-requires-clause-may : goal.make_alone-requires-clause-may
make_alone-requires-clause-may g c = (map-fits (g.M.LeafMap.of c.args.map.now) (g.M.LeafMap.fits c.args.map.now) (g.F.Forest.shows c.args.forest.now) c.layout.ensures.sound c.args.f c.requires.known c.requires.whole c.requires.fits, refl)

pub returns-clause-made : goal.returns-clause-made
returns-clause-made g c =
    makes-diagram c.layout.ensures.sound (map-tree (g.M.LeafMap.of c.args.map.now) (g.M.LeafMap.fits c.args.map.now) (g.F.Forest.shows c.args.forest.now) c.layout.ensures.sound c.args.f c.requires.known c.requires.whole) c.make_alone.ensures.made
