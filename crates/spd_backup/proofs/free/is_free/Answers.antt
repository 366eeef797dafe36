use Rattle.std.proofs.Common.{true}
use Rattle.spd_nodes.proofs.CallerLemmas.{slot-of}
use Rattle.spd_backup.proofs.FreeLaws.{none-free, none-seen}
use Rattle.spd_backup.proofs.free.is_free.Goals as goal

pub reaches_none-requires-clause-seen : goal.reaches_none-requires-clause-seen
reaches_none-requires-clause-seen g c = none-seen c.tests-first.result.0 c.tests-first.result.1 (g.F.Forest.shows c.args.forest.now) c.new-seen.result c.new-seen.ensures

pub returns-in-Ok-clause-free : goal.returns-in-Ok-clause-free
returns-in-Ok-clause-free g c = λ h.
    let s = g.F.Forest.shows c.args.forest.now in
    let tests = rw c.layout.ensures.sizes at c.tests-first.ensures in
    let slot = slot-of s.sizes c.args.var c.tests-first.result.0 c.tests-first.result.1 true c.requires.var tests.first tests.end in
    none-free s c.args.f c.args.var c.tests-first.result.0 c.tests-first.result.1 c.requires.var slot (c.in-Ok.ensures.none h)
