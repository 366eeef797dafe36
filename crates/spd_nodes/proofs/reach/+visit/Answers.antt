use Rattle.std.proofs.Common.{rules, ◌≡◌, ◌<◌, true, Result, Ok, Err, OnOk}
use Rattle.spd_nodes.specs.Levels.{slots}
use Rattle.spd_nodes.specs.Shown.{IsSound}
use Rattle.spd_nodes.specs.Refs.{IsClosed}
use Rattle.spd_nodes.proofs.RankLaws.{rank-view}
use Rattle.spd_nodes.specs.Trees.{tree_rank}
use Rattle.spd_nodes.proofs.RefLaws.{visits-leaf, visits-test}
use Rattle.spd_nodes.proofs.reach.+visit.Goals as goal

pub visit-requires : goal.visit-requires
visit-requires g t c κs within =
    let s = g.F.Forest.shows c.args.forest.now in
    let v = c.in-Test.ensures.view in
    let w = rank-view s c.requires.sound c.args.r c.in-Test.yes c.in-Test.no c.in-Test.level.0 c.requires.known v.0 in
    let smaller : tree_rank (slots (g.F.Forest.shows c.view.new.self).sizes) ((g.F.Forest.shows c.view.new.self).tree c.in-Test.yes) < tree_rank (slots s.sizes) (s.tree c.args.r) = rw c.view.ensures.same w.0 in
    let known : (g.F.Forest.shows c.view.new.self).knows c.in-Test.yes ≡ true = rw c.view.ensures.same v.1 in
    let closed : IsClosed (g.F.Forest.shows c.view.new.self) c.args.seen.now = rw c.view.ensures.same c.requires.closed in
    search rules

pub visit-requires-in-Test : goal.visit-requires-in-Test
visit-requires-in-Test g t c κs within =
    let s = g.F.Forest.shows c.args.forest.now in
    let v = c.in-Test.ensures.view in
    let w = rank-view s c.requires.sound c.args.r c.in-Test.yes c.in-Test.no c.in-Test.level.0 c.requires.known v.0 in
    let smaller : tree_rank (slots (g.F.Forest.shows c.visit.new.forest).sizes) ((g.F.Forest.shows c.visit.new.forest).tree c.in-Test.no) < tree_rank (slots s.sizes) (s.tree c.args.r) = rw (c.visit.ensures.same, c.view.ensures.same) w.1 in
    let known : (g.F.Forest.shows c.visit.new.forest).knows c.in-Test.no ≡ true = rw (c.visit.ensures.same, c.view.ensures.same) v.2 in
    let sound : IsSound (g.F.Forest.shows c.visit.new.forest) = rw (c.visit.ensures.same, c.view.ensures.same) c.requires.sound in
    let closed : IsClosed (g.F.Forest.shows c.visit.new.forest) c.visit.new.seen = rw c.visit.ensures.same c.in_ok-visit-in-Test.ensures.ok.closed in
    search rules

when-ok : {A E P Q : Type 0} (r : Result A E) → (P → Q) → OnOk r P → OnOk r Q
when-ok (Ok a) f p = f p
when-ok (Err e) f p = tt

pub returns-in-Leaf-clause-ok : goal.returns-in-Leaf-clause-ok
returns-in-Leaf-clause-ok g t c =
    when-ok c.add.result (visits-leaf (g.F.Forest.shows c.args.forest.now) c.args.seen.now c.add.new.self c.args.r c.in-Leaf.field-0 c.requires.known c.requires.closed c.in-Leaf.ensures.view) c.add.ensures.ok

pub returns-in_ok-visit-in-Test-2-clause-ok : goal.returns-in_ok-visit-in-Test-2-clause-ok
returns-in_ok-visit-in-Test-2-clause-ok g t c =
    let one = rw c.view.ensures.same at c.in_ok-visit-in-Test.ensures.ok in
    let two = rw (c.visit.ensures.same, c.view.ensures.same) at c.in_ok-visit-in-Test-2.ensures.ok in
    when-ok c.add-in-Test.result (visits-test (g.F.Forest.shows c.args.forest.now) c.args.seen.now c.visit.new.seen c.visit-in-Test.new.seen c.add-in-Test.new.self c.args.r c.in-Test.yes c.in-Test.no c.in-Test.level.0 c.requires.known c.in-Test.ensures.view.0 one two) c.add-in-Test.ensures.ok
