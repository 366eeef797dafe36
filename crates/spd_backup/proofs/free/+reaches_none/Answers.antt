use Rattle.std.proofs.Common.{rules, arith, ◌≡◌, ◌<◌, ◌≤◌, true, IsTrue}
use Rattle.std.proofs.lemmas.Bool.Decides.{nat_tests}
use Rattle.spd_nodes.specs.Levels.{slots}
use Rattle.spd_nodes.specs.Shown.{IsSound}
use Rattle.spd_nodes.specs.Trees.{tree_rank}
use Rattle.spd_nodes.proofs.CallerLemmas.{rank-view}
use Rattle.spd_backup.specs.Free.{AreFree, TestsNone}
use Rattle.spd_backup.proofs.FreeLaws.{past-free, both-free, one-seen}
use Rattle.spd_backup.proofs.free.+reaches_none.Goals as goal

pub returns-then-level-first-clause-none : goal.returns-then-level-first-clause-none
returns-then-level-first-clause-none g t c = λ h.
    let v = c.in-Test.ensures.view in
    let past : c.args.end ≤ c.in-Test.level.0 = grind (arith, nat_tests) in
    past-free (g.F.Forest.shows c.args.forest.now) c.requires.sound c.args.r c.in-Test.yes c.in-Test.no c.args.first c.args.end c.in-Test.level.0 c.requires.known v.0 past

pub reaches_none-requires : goal.reaches_none-requires
reaches_none-requires g t c κs within =
    let s = g.F.Forest.shows c.args.forest.now in
    let v = c.in-Test.ensures.view in
    let w = rank-view s c.requires.sound c.args.r c.in-Test.yes c.in-Test.no c.in-Test.level.0 c.requires.known v.0 in
    let smaller : tree_rank (slots (g.F.Forest.shows c.view.new.self).sizes) ((g.F.Forest.shows c.view.new.self).tree c.in-Test.yes) < tree_rank (slots s.sizes) (s.tree c.args.r) = rw c.view.ensures.same w.0 in
    let known : (g.F.Forest.shows c.view.new.self).knows c.in-Test.yes ≡ true = rw c.view.ensures.same v.1 in
    let seen : AreFree c.args.first c.args.end (g.F.Forest.shows c.view.new.self) c.args.seen.now = rw c.view.ensures.same c.requires.seen in
    search rules

pub reaches_none-requires-in-Test : goal.reaches_none-requires-in-Test
reaches_none-requires-in-Test g t c κs within =
    let s = g.F.Forest.shows c.args.forest.now in
    let v = c.in-Test.ensures.view in
    let w = rank-view s c.requires.sound c.args.r c.in-Test.yes c.in-Test.no c.in-Test.level.0 c.requires.known v.0 in
    let smaller : tree_rank (slots (g.F.Forest.shows c.reaches_none.new.forest).sizes) ((g.F.Forest.shows c.reaches_none.new.forest).tree c.in-Test.no) < tree_rank (slots s.sizes) (s.tree c.args.r) = rw (c.reaches_none.ensures.same, c.view.ensures.same) w.1 in
    let known : (g.F.Forest.shows c.reaches_none.new.forest).knows c.in-Test.no ≡ true = rw (c.reaches_none.ensures.same, c.view.ensures.same) v.2 in
    let sound : IsSound (g.F.Forest.shows c.reaches_none.new.forest) = rw (c.reaches_none.ensures.same, c.view.ensures.same) c.requires.sound in
    let seen : AreFree c.args.first c.args.end (g.F.Forest.shows c.reaches_none.new.forest) c.reaches_none.new.seen = rw c.reaches_none.ensures.same c.in_ok-reaches_none-in-Test.ensures.seen in
    search rules

pub returns-in_ok-add-in-Test-clause-seen : goal.returns-in_ok-add-in-Test-clause-seen
returns-in_ok-add-in-Test-clause-seen g t c =
    let s = g.F.Forest.shows c.args.forest.now in
    let v = c.in-Test.ensures.view in
    let before : c.in-Test.level.0 < c.args.first = omega arith in
    let one : IsTrue c.in_ok-reaches_none-in-Test.field-0 = search rules in
    let two : IsTrue c.in_ok-reaches_none-in-Test-2.field-0 = search rules in
    let a : TestsNone c.args.first c.args.end (s.tree c.in-Test.yes) = rw c.view.ensures.same at (c.in_ok-reaches_none-in-Test.ensures.none one) in
    let b : TestsNone c.args.first c.args.end (s.tree c.in-Test.no) = rw (c.reaches_none.ensures.same, c.view.ensures.same) at (c.in_ok-reaches_none-in-Test-2.ensures.none two) in
    let seen : AreFree c.args.first c.args.end s c.reaches_none-in-Test.new.seen = rw (c.reaches_none.ensures.same, c.view.ensures.same) at c.in_ok-reaches_none-in-Test-2.ensures.seen in
    one-seen c.args.first c.args.end s c.reaches_none-in-Test.new.seen c.add.new.self c.args.r seen (both-free s c.args.r c.in-Test.yes c.in-Test.no c.args.first c.args.end c.in-Test.level.0 v.0 before a b) c.in_ok-add-in-Test.ensures.ok
