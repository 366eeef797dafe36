use Rattle.std.proofs.Common.{◌∷◌, arith}
use Rattle.spd_nodes.proofs.CallerLemmas.{makes-diagram}
use Rattle.spd_policy.specs.Choosing.{place_leaf, IsLike}
use Rattle.spd_policy.proofs.ListLaws.{list-holds}
use Rattle.spd_policy.proofs.PlaceLaws.{place-made, place-ready}
use Rattle.spd_policy.proofs.placing.first_greatest.Goals as goal
use Rattle.spd_weigh.proofs.CallerLemmas.{levels-from}

pub cut-requires : goal.cut-requires
cut-requires g c = rw c.in-Ok.ensures (omega arith)

pub make_list-requires : goal.make_list-requires
make_list-requires g c =
    let same = levels-from (g.F.Forest.shows c.args.forest.now).sizes c.layout-layout.result.now c.sizes.result.now c.tests-levels.result.0 c.tests-levels.result.1 c.layout-layout.ensures.sizes c.sizes.ensures.sizes c.layout-layout.ensures.sound.layout.variables.0 c.tests-levels.ensures.first c.tests-levels.ensures.end in
    let like : IsLike place_leaf (c.args.greatest ∷ c.args.list.now) c.cut.new.list.items = rw c.in-Ok.ensures at c.cut.ensures in
    rw c.as_slice.ensures.value (place-ready c.tests-levels.result.1 (g.F.Forest.shows c.args.forest.now) c.layout-layout.ensures.sound same c.args.list.now c.requires.list c.requires.some c.args.greatest c.requires.greatest c.cut.new.list.items like c.requires.few c.args.table.now c.requires.table)

pub returns-in-Ok-clause-made : goal.returns-in-Ok-clause-made
returns-in-Ok-clause-made g c =
    let same = levels-from (g.F.Forest.shows c.args.forest.now).sizes c.layout-layout.result.now c.sizes.result.now c.tests-levels.result.0 c.tests-levels.result.1 c.layout-layout.ensures.sizes c.sizes.ensures.sizes c.layout-layout.ensures.sound.layout.variables.0 c.tests-levels.ensures.first c.tests-levels.ensures.end in
    let like : IsLike place_leaf (c.args.greatest ∷ c.args.list.now) c.cut.new.list.items = rw c.in-Ok.ensures at c.cut.ensures in
    makes-diagram c.layout-layout.ensures.sound (place-made c.tests-levels.result.1 (g.F.Forest.shows c.args.forest.now) c.layout-layout.ensures.sound same c.args.list.now c.requires.list c.requires.some c.args.greatest c.requires.greatest c.cut.new.list.items like) (rw c.as_slice.ensures.value at c.make_list.ensures.made)

pub returns-in-Ok-clause-table : goal.returns-in-Ok-clause-table
returns-in-Ok-clause-table g c =
    let same = levels-from (g.F.Forest.shows c.args.forest.now).sizes c.layout-layout.result.now c.sizes.result.now c.tests-levels.result.0 c.tests-levels.result.1 c.layout-layout.ensures.sizes c.sizes.ensures.sizes c.layout-layout.ensures.sound.layout.variables.0 c.tests-levels.ensures.first c.tests-levels.ensures.end in
    list-holds place_leaf c.tests-levels.result.1 (g.F.Forest.shows c.args.forest.now) (g.F.Forest.shows c.make_list.new.forest) same c.make_list.ensures.made.grows.sizes c.make_list.new.table c.make_list.ensures.table
