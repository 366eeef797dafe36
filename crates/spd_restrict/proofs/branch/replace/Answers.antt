use Rattle.std.proofs.Common.{arith, ◌<◌, ◌+◌}
use Rattle.spd_nodes.proofs.CallerLemmas.{makes-diagram, slot-of}
use Rattle.spd_restrict.proofs.BranchLaws.{may-replace, replace-tree}
use Rattle.spd_restrict.proofs.branch.replace.Goals as goal

pub make_alone-requires-clause-may : goal.make_alone-requires-clause-may
make_alone-requires-clause-may g c =
    let tests = rw c.layout.ensures.sizes at c.tests-first.ensures in
    let slot = slot-of (g.F.Forest.shows c.args.forest.now).sizes c.args.var c.tests-first.result.0 c.tests-first.result.1 c.args.primed c.requires.var tests.first tests.end in
    let within : c.tests-first.result.0 + c.args.value < c.tests-first.result.1 = omega (arith, tests.end, c.requires.value) in
    may-replace c.tests-first.result.0 c.tests-first.result.1 c.args.value c.args.var c.args.primed (g.F.Forest.shows c.args.forest.now) c.layout.ensures.sound c.args.f c.args.g c.requires.left c.requires.right c.requires.left_whole c.requires.right_whole c.requires.var slot within

pub returns-clause-made : goal.returns-clause-made
returns-clause-made g c =
    let tests = rw c.layout.ensures.sizes at c.tests-first.ensures in
    let slot = slot-of (g.F.Forest.shows c.args.forest.now).sizes c.args.var c.tests-first.result.0 c.tests-first.result.1 c.args.primed c.requires.var tests.first tests.end in
    let within : c.tests-first.result.0 + c.args.value < c.tests-first.result.1 = omega (arith, tests.end, c.requires.value) in
    makes-diagram c.layout.ensures.sound (replace-tree c.tests-first.result.0 c.tests-first.result.1 c.args.value c.args.var c.args.primed (g.F.Forest.shows c.args.forest.now) c.layout.ensures.sound c.args.f c.args.g c.requires.left c.requires.right c.requires.left_whole c.requires.right_whole c.requires.var slot within) c.make_alone.ensures.made
