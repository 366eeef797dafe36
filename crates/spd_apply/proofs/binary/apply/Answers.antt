use Rattle.std.proofs.Common.{arith}
use Rattle.spd_nodes.proofs.CallerLemmas.{makes-diagram}
use Rattle.spd_apply.proofs.WholeLaws.{apply-ready, apply-tree}
use Rattle.spd_apply.proofs.binary.apply.Goals as goal

pub make_pair-requires : goal.make_pair-requires
make_pair-requires g c = apply-ready (g.O.LeafOp.fits c.args.op.now) (g.O.LeafOp.of c.args.op.now) (g.F.Forest.shows c.args.forest.now) c.layout.ensures.sound c.args.f c.args.g c.requires.left c.requires.right c.requires.left_whole c.requires.right_whole c.args.memo.now c.requires.fit c.requires.memo

pub returns-clause-made : goal.returns-clause-made
returns-clause-made g c =
    makes-diagram c.layout.ensures.sound
    (apply-tree (g.O.LeafOp.fits c.args.op.now) (g.O.LeafOp.of c.args.op.now) (g.F.Forest.shows c.args.forest.now) c.layout.ensures.sound c.args.f c.args.g c.requires.left c.requires.right c.requires.left_whole c.requires.right_whole) c.make_pair.ensures.made

pub returns-clause-steps : goal.returns-clause-steps
returns-clause-steps g c = λ room. let few = c.make_pair.ensures.steps room in omega arith
