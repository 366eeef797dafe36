use Rattle.spd_policy.proofs.AlikeLaws.{highest-known}
use Rattle.spd_policy.proofs.highest.HighestListRule.known.Goals as goal

pub returns-then-are_one-clause-known : goal.returns-then-are_one-clause-known
returns-then-are_one-clause-known g c =
    highest-known c.args.self.now.levels (g.F.Forest.shows c.args._forest.now) c.requires.sound c.args.list.now _ c.requires.met.known c.requires.met.trees (c.are_one.ensures.0 c.if-are_one.true)
