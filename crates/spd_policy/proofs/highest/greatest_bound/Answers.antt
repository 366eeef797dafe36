use Rattle.std.proofs.Common.{arith}
use Rattle.spd_nodes.proofs.CallerLemmas.{makes-diagram}
use Rattle.spd_policy.specs.Choosing.{greatest_leaf}
use Rattle.spd_policy.proofs.ListLaws.{greatest-tree, list-holds, list-ready}
use Rattle.spd_policy.proofs.highest.greatest_bound.Goals as goal
use Rattle.spd_weigh.proofs.CallerLemmas.{levels-from}

pub make_list-requires : goal.make_list-requires
make_list-requires g c =
    let same = levels-from (g.F.Forest.shows c.args.forest.now).sizes c.layout-layout.result.now c.sizes.result.now c.tests-levels.result.0 c.tests-levels.result.1 c.layout-layout.ensures.sizes c.sizes.ensures.sizes c.layout-layout.ensures.sound.layout.variables.0 c.tests-levels.ensures.first c.tests-levels.ensures.end in
    list-ready c.tests-levels.result.1 (g.F.Forest.shows c.args.forest.now) c.layout-layout.ensures.sound same c.args.list.now c.requires.list c.requires.some (omega (arith, c.requires.few)) greatest_leaf c.args.table.now c.requires.table

pub returns-clause-made : goal.returns-clause-made
returns-clause-made g c =
    let same = levels-from (g.F.Forest.shows c.args.forest.now).sizes c.layout-layout.result.now c.sizes.result.now c.tests-levels.result.0 c.tests-levels.result.1 c.layout-layout.ensures.sizes c.sizes.ensures.sizes c.layout-layout.ensures.sound.layout.variables.0 c.tests-levels.ensures.first c.tests-levels.ensures.end in
    makes-diagram c.layout-layout.ensures.sound (greatest-tree c.tests-levels.result.1 (g.F.Forest.shows c.args.forest.now) c.layout-layout.ensures.sound same c.args.list.now c.requires.list c.requires.some) c.make_list.ensures.made

pub returns-clause-table : goal.returns-clause-table
returns-clause-table g c =
    let same = levels-from (g.F.Forest.shows c.args.forest.now).sizes c.layout-layout.result.now c.sizes.result.now c.tests-levels.result.0 c.tests-levels.result.1 c.layout-layout.ensures.sizes c.sizes.ensures.sizes c.layout-layout.ensures.sound.layout.variables.0 c.tests-levels.ensures.first c.tests-levels.ensures.end in
    list-holds greatest_leaf c.tests-levels.result.1 (g.F.Forest.shows c.args.forest.now) (g.F.Forest.shows c.make_list.new.forest) same c.make_list.ensures.made.grows.sizes c.make_list.new.table c.make_list.ensures.table
