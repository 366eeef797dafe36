use Rattle.spd_restrict.proofs.PlainLaws.{plain-root}
use Rattle.spd_restrict.proofs.plain.is_plain_root.Goals as goal

pub returns-in-Test-clause-plain : goal.returns-in-Test-clause-plain
returns-in-Test-clause-plain g c =
    let s = g.F.Forest.shows c.args.forest.now in
    let test = rw (c.layout.ensures.sizes, c.view.ensures.same) at c.what-primed.ensures in
    plain-root s c.args.q c.in-Test.level.0 c.what-primed.result.0 c.what-primed.result.2 c.what-primed.result.1 (s.tree c.in-Test.yes) (s.tree c.in-Test.no) c.in-Test.ensures.view.0 test
