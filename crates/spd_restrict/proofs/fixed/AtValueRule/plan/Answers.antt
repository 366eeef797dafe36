use Rattle.spd_restrict.proofs.FixedLaws.{plans-before, plans-no}
use Rattle.spd_restrict.proofs.fixed.AtValueRule.plan.Goals as goal

pub returns-then-level-self : goal.returns-then-level-self
returns-then-level-self g c =
    let view = rw c.in-Test.is at c.requires.left.root in
    record { plan = plans-before c.args.self.now.first c.args.self.now.end c.args.self.now.value (g.F.Forest.shows c.args._forest.now) c.requires.sound c.args.f.name c.args._g.name c.requires.left.known c.requires.may.0 c.requires.may.1 c.in-Test.level.0 c.in-Test.yes c.in-Test.no view.0 view.1 view.2 c.if-level-self.true }

pub returns-else-level-self-3 : goal.returns-else-level-self-3
returns-else-level-self-3 g c =
    let view = rw c.in-Test.is at c.requires.left.root in
    record { plan = plans-no c.args.self.now.first c.args.self.now.end c.args.self.now.value (g.F.Forest.shows c.args._forest.now) c.requires.sound c.args.f.name c.args._g.name c.requires.left.known c.requires.may.0 c.requires.may.1 c.in-Test.level.0 c.in-Test.yes c.in-Test.no view.0 view.1 view.2 c.if-level-self.false c.if-level-self-2.false c.if-level-self-3.false }
