use Rattle.std.proofs.Common.{◌^◌}
use Rattle.spd_bench.proofs.CountLaws.{fit-counts, applied-made, count-whole}
use Rattle.spd_bench.proofs.build.combined.Goals as goal

pub apply-requires-clause-fit : goal.apply-requires-clause-fit
apply-requires-clause-fit g c = fit-counts (g.O.LeafOp.fits c.args.op.now) (2 ^ 20) c.requires.fits c.requires.left c.requires.right

pub returns-clause-ok : goal.returns-clause-ok
returns-clause-ok g c =
    applied-made (g.O.LeafOp.of c.args.op.now) (g.F.Forest.shows c.args.forest.now) (g.F.Forest.shows c.apply.new.forest) c.args.f c.args.g c.layout.ensures.sound
    c.requires.left.knows c.requires.right.knows (count-whole c.requires.left) (count-whole c.requires.right) c.apply.ensures.made.grows c.in_ok-apply.ensures.made.ok
