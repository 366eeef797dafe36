use Rattle.std.proofs.Common.{rules, ◌≡◌, ◌<◌, true, IsTrue}
use Rattle.spd_nodes.specs.Levels.{slots}
use Rattle.spd_nodes.specs.Shown.{IsSound}
use Rattle.spd_nodes.specs.Trees.{tree_rank}
use Rattle.spd_nodes.proofs.CallerLemmas.{rank-view}
use Rattle.spd_backup.specs.Exact.{HaveExactLeaves, HasExactLeaves}
use Rattle.spd_backup.proofs.ExactLaws.{both-exact, one-exact}
use Rattle.spd_backup.proofs.exact.+reaches_exact.Goals as goal

pub reaches_exact-requires : goal.reaches_exact-requires
reaches_exact-requires g t c κs within =
    let s = g.F.Forest.shows c.args.forest.now in
    let v = c.in-Test.ensures.view in
    let w = rank-view s c.requires.sound c.args.r c.in-Test.yes c.in-Test.no c.in-Test.level.0 c.requires.known v.0 in
    let smaller : tree_rank (slots (g.F.Forest.shows c.view.new.self).sizes) ((g.F.Forest.shows c.view.new.self).tree c.in-Test.yes) < tree_rank (slots s.sizes) (s.tree c.args.r) = rw c.view.ensures.same w.0 in
    let known : (g.F.Forest.shows c.view.new.self).knows c.in-Test.yes ≡ true = rw c.view.ensures.same v.1 in
    let seen : HaveExactLeaves c.args.ratio (g.F.Forest.shows c.view.new.self) c.args.seen.now = rw c.view.ensures.same c.requires.seen in
    search rules

pub reaches_exact-requires-in-Test : goal.reaches_exact-requires-in-Test
reaches_exact-requires-in-Test g t c κs within =
    let s = g.F.Forest.shows c.args.forest.now in
    let v = c.in-Test.ensures.view in
    let w = rank-view s c.requires.sound c.args.r c.in-Test.yes c.in-Test.no c.in-Test.level.0 c.requires.known v.0 in
    let smaller : tree_rank (slots (g.F.Forest.shows c.reaches_exact.new.forest).sizes) ((g.F.Forest.shows c.reaches_exact.new.forest).tree c.in-Test.no) < tree_rank (slots s.sizes) (s.tree c.args.r) = rw (c.reaches_exact.ensures.same, c.view.ensures.same) w.1 in
    let known : (g.F.Forest.shows c.reaches_exact.new.forest).knows c.in-Test.no ≡ true = rw (c.reaches_exact.ensures.same, c.view.ensures.same) v.2 in
    let sound : IsSound (g.F.Forest.shows c.reaches_exact.new.forest) = rw (c.reaches_exact.ensures.same, c.view.ensures.same) c.requires.sound in
    let seen : HaveExactLeaves c.args.ratio (g.F.Forest.shows c.reaches_exact.new.forest) c.reaches_exact.new.seen = rw c.reaches_exact.ensures.same c.in_ok-reaches_exact-in-Test.ensures.seen in
    search rules

pub returns-in_ok-add-in-Test-clause-seen : goal.returns-in_ok-add-in-Test-clause-seen
returns-in_ok-add-in-Test-clause-seen g t c =
    let s = g.F.Forest.shows c.args.forest.now in
    let v = c.in-Test.ensures.view in
    let one : IsTrue c.in_ok-reaches_exact-in-Test.field-0 = search rules in
    let two : IsTrue c.in_ok-reaches_exact-in-Test-2.field-0 = search rules in
    let a : HasExactLeaves c.args.ratio (s.tree c.in-Test.yes) = rw c.view.ensures.same at (c.in_ok-reaches_exact-in-Test.ensures.leaves one) in
    let b : HasExactLeaves c.args.ratio (s.tree c.in-Test.no) = rw (c.reaches_exact.ensures.same, c.view.ensures.same) at (c.in_ok-reaches_exact-in-Test-2.ensures.leaves two) in
    let seen : HaveExactLeaves c.args.ratio s c.reaches_exact-in-Test.new.seen = rw (c.reaches_exact.ensures.same, c.view.ensures.same) at c.in_ok-reaches_exact-in-Test-2.ensures.seen in
    one-exact c.args.ratio s c.reaches_exact-in-Test.new.seen c.add.new.self c.args.r seen (both-exact c.args.ratio s c.args.r c.in-Test.yes c.in-Test.no c.in-Test.level.0 v.0 a b) c.in_ok-add-in-Test.ensures.ok
