use Rattle.spd_restrict.proofs.PrimedLaws.{primed-at, primes-test}
use Rattle.spd_restrict.proofs.next.PrimingRule.plan.Goals as goal

pub returns-in-Test : goal.returns-in-Test
returns-in-Test g c =
    let view = rw c.in-Test.is at c.requires.left.root in
    let at = primed-at c.args.self.now.layout (g.F.Forest.shows c.args._forest.now) c.requires.sound c.args.f.name c.args._g.name c.requires.left.known c.requires.may.0 c.in-Test.level.0 c.level.result.0 c.what-var.result.0 c.what-var.result.2 c.what-var.result.1 c.in-Test.yes c.in-Test.no view.0 c.what-var.ensures c.level.ensures.level in
    record {
      plan = primes-test c.args.self.now.layout (g.F.Forest.shows c.args._forest.now) c.requires.sound c.args.f.name c.args._g.name c.requires.left.known c.requires.may.0 c.in-Test.level.0 c.level.result.0 c.in-Test.yes c.in-Test.no c.requires.may.1 view.0 view.1 view.2 at;
    }
