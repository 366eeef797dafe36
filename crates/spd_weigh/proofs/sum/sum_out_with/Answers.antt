use Rattle.spd_nodes.proofs.CallerLemmas.{makes-diagram}
use Rattle.spd_weigh.proofs.TopLaws.{known-beside, placed-from, sum-ready, sum-tree, sum-holds}
use Rattle.spd_weigh.proofs.sum.sum_out_with.Goals as goal

pub clear-requires : goal.clear-requires
clear-requires g c = record { sound = c.layout-layout.ensures.sound; zero = tt; known = rw c.in-Ok.ensures (known-beside (g.F.Forest.shows c.args.forest.now) c.args.f c.requires.known c.args.weights.now c.requires.weights_known) }

pub make_list-requires : goal.make_list-requires
make_list-requires g c =
    let placed = placed-from (g.F.Forest.shows c.args.forest.now).sizes c.layout-layout.result.now c.sizes.result.now c.args.var c.tests-first.result.0 c.tests-first.result.1 c.tests-levels.result.0 c.tests-levels.result.1
    c.layout-layout.ensures.sizes c.sizes.ensures.sizes c.layout-layout.ensures.sound.layout.variables.0 c.tests-first.ensures.first c.tests-first.ensures.end c.tests-levels.ensures.first c.tests-levels.ensures.end in
    let like = rw c.in-Ok.ensures at c.clear.ensures.like in
    rw (c.as_slice.ensures.value, c.clear.ensures.same) (sum-ready (g.F.Forest.shows c.args.forest.now) c.layout-layout.ensures.sound c.args.var c.tests-levels.result.1 c.tests-first.result.0 c.tests-first.result.1 c.requires.var placed
    c.args.f c.requires.known c.requires.whole c.args.weights.now c.requires.weights_known c.requires.weights_whole c.args.way c.clear.new.list.items c.clear.ensures.known like c.args.table.now c.requires.count c.requires.weights c.requires.values c.requires.table)

pub returns-in-Ok-clause-made : goal.returns-in-Ok-clause-made
returns-in-Ok-clause-made g c =
    let placed = placed-from (g.F.Forest.shows c.args.forest.now).sizes c.layout-layout.result.now c.sizes.result.now c.args.var c.tests-first.result.0 c.tests-first.result.1 c.tests-levels.result.0 c.tests-levels.result.1
    c.layout-layout.ensures.sizes c.sizes.ensures.sizes c.layout-layout.ensures.sound.layout.variables.0 c.tests-first.ensures.first c.tests-first.ensures.end c.tests-levels.ensures.first c.tests-levels.ensures.end in
    let like = rw c.in-Ok.ensures at c.clear.ensures.like in
    let made = rw (c.as_slice.ensures.value, c.clear.ensures.same) at c.make_list.ensures.made in
    makes-diagram c.layout-layout.ensures.sound (sum-tree (g.F.Forest.shows c.args.forest.now) c.layout-layout.ensures.sound c.args.var c.tests-levels.result.1 c.tests-first.result.0 c.tests-first.result.1 c.requires.var placed
    c.args.f c.requires.known c.requires.whole c.args.weights.now c.requires.weights_known c.requires.weights_whole c.args.way c.clear.new.list.items c.clear.ensures.known like) made

pub returns-in-Ok-clause-table : goal.returns-in-Ok-clause-table
returns-in-Ok-clause-table g c =
    let placed = placed-from (g.F.Forest.shows c.args.forest.now).sizes c.layout-layout.result.now c.sizes.result.now c.args.var c.tests-first.result.0 c.tests-first.result.1 c.tests-levels.result.0 c.tests-levels.result.1
    c.layout-layout.ensures.sizes c.sizes.ensures.sizes c.layout-layout.ensures.sound.layout.variables.0 c.tests-first.ensures.first c.tests-first.ensures.end c.tests-levels.ensures.first c.tests-levels.ensures.end in
    let made = rw c.clear.ensures.same at c.make_list.ensures.made in
    sum-holds c.args.way (g.F.Forest.shows c.args.forest.now) (g.F.Forest.shows c.make_list.new.forest) c.args.var c.tests-levels.result.1 c.tests-first.result.0 c.tests-first.result.1 placed made.grows.sizes c.make_list.new.table c.make_list.ensures.table
