use Rattle.spd_apply.proofs.MapLaws.{map-plans}
use Rattle.spd_apply.proofs.unary.EachLeafRule.plan.Goals as goal

pub returns-in-Test : goal.returns-in-Test
returns-in-Test g c =
    let view = rw c.in-Test.is at c.requires.left.root in
    record {
      plan = map-plans (g.M.LeafMap.of c.args.self.now.map.now) (g.M.LeafMap.fits c.args.self.now.map.now) (g.F.Forest.shows c.args._forest.now) c.requires.sound c.args.f.name c.requires.left.known
          c.args._g.name c.in-Test.yes c.in-Test.no c.in-Test.level.0 c.requires.may.0 c.requires.may.1 view.0 view.1 view.2;
    }
