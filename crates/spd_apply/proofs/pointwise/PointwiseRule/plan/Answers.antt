use Rattle.std.proofs.Common.{sym}
use Rattle.spd_apply.proofs.PlanLaws.{applies-at}
use Rattle.spd_apply.proofs.pointwise.PointwiseRule.plan.Goals as goal

pub returns-in-Some : goal.returns-in-Some
returns-in-Some g c = record {
  plan = rw c.test_of_halves.ensures (applies-at (g.O.LeafOp.fits c.args.self.now.op.now) (g.O.LeafOp.of c.args.self.now.op.now) (g.F.Forest.shows c.args._forest.now) c.requires.sound c.args.f.name c.args.g.name c.requires.left.known c.requires.right.known c.requires.may
      c.args.f.root c.args.g.root c.in-Some.level c.requires.left.root c.requires.right.root (sym c.in-Some.ensures));
}
