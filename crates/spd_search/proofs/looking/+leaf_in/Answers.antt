use Rattle.std.proofs.Common.{rules, ◌≡◌, ◌<◌, true}
use Rattle.spd_nodes.specs.Levels.{slots}
use Rattle.spd_nodes.specs.Trees.{tree_rank}
use Rattle.spd_nodes.specs.Shown.{IsSound}
use Rattle.spd_nodes.proofs.CallerLemmas.{rank-view}
use Rattle.spd_search.specs.inner.Looking.{leaf_in}
use Rattle.spd_search.specs.inner.Barren.{AreBarren}
use Rattle.spd_search.proofs.BarrenLaws.{barren-notes, in-test}
use Rattle.spd_search.proofs.looking.+leaf_in.Goals as goal

pub leaf_in-requires : goal.leaf_in-requires
leaf_in-requires g t c κs within =
    let s = g.F.Forest.shows c.args.forest.now in
    let v = c.in-Test.ensures.view in
    let w = rank-view s c.requires.sound c.args.r c.in-Test.yes c.in-Test.no c.in-Test.level.0 c.requires.known v.0 in
    let smaller : tree_rank (slots (g.F.Forest.shows c.view.new.self).sizes) ((g.F.Forest.shows c.view.new.self).tree c.in-Test.yes) < tree_rank (slots s.sizes) (s.tree c.args.r) = rw c.view.ensures.same w.0 in
    let known : (g.F.Forest.shows c.view.new.self).knows c.in-Test.yes ≡ true = rw c.view.ensures.same v.1 in
    let barren : AreBarren (leaf_in (g.W.Wanted.wants c.args.wanted.now)) (g.F.Forest.shows c.view.new.self) c.args.barren.now = rw c.view.ensures.same c.requires.barren in
    search rules

pub leaf_in-requires-in-Test : goal.leaf_in-requires-in-Test
leaf_in-requires-in-Test g t c κs within =
    let s = g.F.Forest.shows c.args.forest.now in
    let v = c.in-Test.ensures.view in
    let w = rank-view s c.requires.sound c.args.r c.in-Test.yes c.in-Test.no c.in-Test.level.0 c.requires.known v.0 in
    let smaller : tree_rank (slots (g.F.Forest.shows c.leaf_in.new.forest).sizes) ((g.F.Forest.shows c.leaf_in.new.forest).tree c.in-Test.no) < tree_rank (slots s.sizes) (s.tree c.args.r) = rw (c.leaf_in.ensures.same, c.view.ensures.same) w.1 in
    let known : (g.F.Forest.shows c.leaf_in.new.forest).knows c.in-Test.no ≡ true = rw (c.leaf_in.ensures.same, c.view.ensures.same) v.2 in
    let sound : IsSound (g.F.Forest.shows c.leaf_in.new.forest) = rw (c.leaf_in.ensures.same, c.view.ensures.same) c.requires.sound in
    let barren : AreBarren (leaf_in (g.W.Wanted.wants c.args.wanted.now)) (g.F.Forest.shows c.leaf_in.new.forest) c.leaf_in.new.barren = rw c.leaf_in.ensures.same c.leaf_in.ensures.barren in
    search rules

pub returns-in_ok-found-in-Test-clause-barren : goal.returns-in_ok-found-in-Test-clause-barren
returns-in_ok-found-in-Test-clause-barren g t c =
    let s = g.F.Forest.shows c.args.forest.now in
    let wants = g.W.Wanted.wants c.args.wanted.now in
    let v = c.in-Test.ensures.view in
    let one = rw c.view.ensures.same at c.in_ok-leaf-in-Test.ensures.ok in
    let two = rw (c.leaf_in.ensures.same, c.view.ensures.same) at c.in_ok-found-in-Test.ensures.ok in
    let kept : AreBarren (leaf_in wants) s c.leaf_in-in-Test.new.barren = rw (c.leaf_in.ensures.same, c.view.ensures.same) at c.leaf_in-in-Test.ensures.barren in
    let here = in-test wants (s.tree c.args.r) (s.tree c.in-Test.yes) (s.tree c.in-Test.no) c.in-Test.level.0 c.in_ok-leaf-in-Test.field-0 c.in_ok-found-in-Test.found v.0 one c.in_default.is two in
    barren-notes (leaf_in wants) s c.leaf_in-in-Test.new.barren c.noted.new.barren c.args.r c.in_ok-found-in-Test.found kept c.noted.ensures.notes here
