use Rattle.std.proofs.Common.{arith, refl, ◌≤◌, ◌+◌}
use Rattle.spd_nodes.proofs.CallerLemmas.{makes-diagram, slot-of}
use Rattle.spd_restrict.proofs.FixedLaws.{may-whole, fixed-tree}
use Rattle.spd_restrict.proofs.fixed.cofactor.Goals as goal

pub make_alone-requires-clause-may : goal.make_alone-requires-clause-may
make_alone-requires-clause-may g c =
    let tests = rw c.layout.ensures.sizes at c.tests-first.ensures in
    let slot = slot-of (g.F.Forest.shows c.args.forest.now).sizes c.args.var c.tests-first.result.0 c.tests-first.result.1 c.args.primed c.requires.var tests.first tests.end in
    let within : c.tests-first.result.0 + c.args.value ≤ c.tests-first.result.1 = omega (arith, tests.end, c.requires.value) in
    (may-whole c.tests-first.result.0 c.tests-first.result.1 c.args.value c.args.var c.args.primed (g.F.Forest.shows c.args.forest.now) c.layout.ensures.sound c.args.f c.requires.known c.requires.whole c.requires.var slot within, refl)

pub returns-clause-made : goal.returns-clause-made
returns-clause-made g c =
    let tests = rw c.layout.ensures.sizes at c.tests-first.ensures in
    let slot = slot-of (g.F.Forest.shows c.args.forest.now).sizes c.args.var c.tests-first.result.0 c.tests-first.result.1 c.args.primed c.requires.var tests.first tests.end in
    let within : c.tests-first.result.0 + c.args.value ≤ c.tests-first.result.1 = omega (arith, tests.end, c.requires.value) in
    makes-diagram c.layout.ensures.sound (fixed-tree c.tests-first.result.0 c.tests-first.result.1 c.args.value c.args.var c.args.primed (g.F.Forest.shows c.args.forest.now) c.layout.ensures.sound c.args.f c.requires.known c.requires.whole c.requires.var slot within) c.make_alone.ensures.made
