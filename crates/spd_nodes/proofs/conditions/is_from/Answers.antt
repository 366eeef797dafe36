use Rattle.spd_nodes.proofs.SlotLaws.{from-test}
use Rattle.spd_nodes.proofs.conditions.is_from.Goals as goal

pub returns-then-end-level-clause-from : goal.returns-then-end-level-clause-from
returns-then-end-level-clause-from g c =
    let s = g.F.Forest.shows c.args.forest.now in
    let test = rw (c.layout.ensures.sizes, c.view.ensures.same) at c.what-value.ensures in
    rw c.in-Test.ensures.view.0 (from-test s.sizes c.in-Test.level.0 c.what-value.result.0 c.what-value.result.2 c.args.end c.what-value.result.1 (s.tree c.in-Test.yes) (s.tree c.in-Test.no) test c.if-end-level.true)
