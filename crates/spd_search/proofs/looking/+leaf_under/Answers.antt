use Rattle.std.proofs.Common.{rules, ◌≡◌, ◌<◌, ℕ, true, List, Option, ◌∙◌, sym, ap}
use Rattle.std.specs.Option.{option_or}
use Rattle.spd_nodes.specs.declared.leaf.Leaf.{Leaf}
use Rattle.spd_nodes.specs.Levels.{slots}
use Rattle.spd_nodes.specs.Trees.{Tree, tree_rank}
use Rattle.spd_nodes.specs.Shown.{Shown, IsSound}
use Rattle.spd_nodes.proofs.CallerLemmas.{rank-view}
use Rattle.spd_search.specs.inner.Looking.{leaf_in, leaf_under, turn_of}
use Rattle.spd_search.specs.inner.Barren.{AreBarren}
use Rattle.spd_search.proofs.BarrenLaws.{barren-notes, under-test}
use Rattle.spd_search.specs.declared.looking.Turn.TheVariants.{Both, Yes, No}
use Rattle.spd_search.proofs.looking.+leaf_under.Goals as goal
use Rattle.spd_search.proofs.looking.+leaf_under.Goals.{in-Yes+in_ok-found-in-Yes, in-No+in_ok-found-in-No, in-Both+in_ok-leaf-in-Both+in-None+in_ok-found-in-None}

pub leaf_under-requires : goal.leaf_under-requires
leaf_under-requires g t c κs within =
    let s = g.F.Forest.shows c.args.forest.now in
    let v = c.in-Test.ensures.view in
    let w = rank-view s c.requires.sound c.args.r c.in-Test.yes c.in-Test.no c.in-Test.level.0 c.requires.known v.0 in
    let smaller : tree_rank (slots (g.F.Forest.shows c.view.new.self).sizes) ((g.F.Forest.shows c.view.new.self).tree c.in-Test.yes) < tree_rank (slots s.sizes) (s.tree c.args.r) = rw c.view.ensures.same w.0 in
    let known : (g.F.Forest.shows c.view.new.self).knows c.in-Test.yes ≡ true = rw c.view.ensures.same v.1 in
    let barren : AreBarren (leaf_in (g.W.Wanted.wants c.args.wanted.now)) (g.F.Forest.shows c.view.new.self) c.args.barren.now = rw c.view.ensures.same c.requires.barren in
    let here : AreBarren (leaf_under (g.F.Forest.shows c.view.new.self).sizes (g.W.Wanted.wants c.args.wanted.now) c.args.first.now) (g.F.Forest.shows c.view.new.self) c.args.barren_here.now = rw c.view.ensures.same c.requires.here in
    search rules

pub leaf_under-requires-in-No : goal.leaf_under-requires-in-No
leaf_under-requires-in-No g t c κs within =
    let s = g.F.Forest.shows c.args.forest.now in
    let v = c.in-Test.ensures.view in
    let w = rank-view s c.requires.sound c.args.r c.in-Test.yes c.in-Test.no c.in-Test.level.0 c.requires.known v.0 in
    let smaller : tree_rank (slots (g.F.Forest.shows c.view.new.self).sizes) ((g.F.Forest.shows c.view.new.self).tree c.in-Test.no) < tree_rank (slots s.sizes) (s.tree c.args.r) = rw c.view.ensures.same w.1 in
    let known : (g.F.Forest.shows c.view.new.self).knows c.in-Test.no ≡ true = rw c.view.ensures.same v.2 in
    let barren : AreBarren (leaf_in (g.W.Wanted.wants c.args.wanted.now)) (g.F.Forest.shows c.view.new.self) c.args.barren.now = rw c.view.ensures.same c.requires.barren in
    let here : AreBarren (leaf_under (g.F.Forest.shows c.view.new.self).sizes (g.W.Wanted.wants c.args.wanted.now) c.args.first.now) (g.F.Forest.shows c.view.new.self) c.args.barren_here.now = rw c.view.ensures.same c.requires.here in
    search rules

pub leaf_under-requires-in-Both : goal.leaf_under-requires-in-Both
leaf_under-requires-in-Both g t c κs within =
    let s = g.F.Forest.shows c.args.forest.now in
    let v = c.in-Test.ensures.view in
    let w = rank-view s c.requires.sound c.args.r c.in-Test.yes c.in-Test.no c.in-Test.level.0 c.requires.known v.0 in
    let smaller : tree_rank (slots (g.F.Forest.shows c.view.new.self).sizes) ((g.F.Forest.shows c.view.new.self).tree c.in-Test.yes) < tree_rank (slots s.sizes) (s.tree c.args.r) = rw c.view.ensures.same w.0 in
    let known : (g.F.Forest.shows c.view.new.self).knows c.in-Test.yes ≡ true = rw c.view.ensures.same v.1 in
    let barren : AreBarren (leaf_in (g.W.Wanted.wants c.args.wanted.now)) (g.F.Forest.shows c.view.new.self) c.args.barren.now = rw c.view.ensures.same c.requires.barren in
    let here : AreBarren (leaf_under (g.F.Forest.shows c.view.new.self).sizes (g.W.Wanted.wants c.args.wanted.now) c.args.first.now) (g.F.Forest.shows c.view.new.self) c.args.barren_here.now = rw c.view.ensures.same c.requires.here in
    search rules

pub leaf_under-requires-in-None : goal.leaf_under-requires-in-None
leaf_under-requires-in-None g t c κs within =
    let s = g.F.Forest.shows c.args.forest.now in
    let v = c.in-Test.ensures.view in
    let w = rank-view s c.requires.sound c.args.r c.in-Test.yes c.in-Test.no c.in-Test.level.0 c.requires.known v.0 in
    let smaller : tree_rank (slots (g.F.Forest.shows c.leaf_under-in-Both.new.forest).sizes) ((g.F.Forest.shows c.leaf_under-in-Both.new.forest).tree c.in-Test.no) < tree_rank (slots s.sizes) (s.tree c.args.r) = rw (c.leaf_under-in-Both.ensures.same, c.view.ensures.same) w.1 in
    let known : (g.F.Forest.shows c.leaf_under-in-Both.new.forest).knows c.in-Test.no ≡ true = rw (c.leaf_under-in-Both.ensures.same, c.view.ensures.same) v.2 in
    let sound : IsSound (g.F.Forest.shows c.leaf_under-in-Both.new.forest) = rw (c.leaf_under-in-Both.ensures.same, c.view.ensures.same) c.requires.sound in
    let barren : AreBarren (leaf_in (g.W.Wanted.wants c.args.wanted.now)) (g.F.Forest.shows c.leaf_under-in-Both.new.forest) c.leaf_under-in-Both.new.barren = rw c.leaf_under-in-Both.ensures.same c.leaf_under-in-Both.ensures.barren in
    let here : AreBarren (leaf_under (g.F.Forest.shows c.leaf_under-in-Both.new.forest).sizes (g.W.Wanted.wants c.args.wanted.now) c.args.first.now) (g.F.Forest.shows c.leaf_under-in-Both.new.forest) c.leaf_under-in-Both.new.barren_here = rw c.leaf_under-in-Both.ensures.same c.leaf_under-in-Both.ensures.here in
    search rules

pub returns-after-turn_of-clause-barren : goal.returns-after-turn_of-clause-barren
returns-after-turn_of-clause-barren g t c =
    elim c.match-turn_of.branch [
      | in-Yes+in_ok-found-in-Yes w ↦ rw w.barren-is (rw c.view.ensures.same at w.leaf_under.ensures.barren)
      | in-No+in_ok-found-in-No w ↦ rw w.barren-is (rw c.view.ensures.same at w.leaf_under-in-No.ensures.barren)
      | in-Both+in_ok-leaf-in-Both+in-None+in_ok-found-in-None w ↦ rw w.barren-is (rw (w.leaf_under-in-Both.ensures.same, c.view.ensures.same) at w.leaf_under-in-None.ensures.barren)
    ]

pub returns-after-turn_of-clause-here : goal.returns-after-turn_of-clause-here
returns-after-turn_of-clause-here g t c =
    let s = g.F.Forest.shows c.args.forest.now in
    let wants = g.W.Wanted.wants c.args.wanted.now in
    let v = c.in-Test.ensures.view in
    let look : Tree → Option Leaf = λ x. leaf_under s.sizes wants c.args.first.now x in
    let turn : turn_of s.sizes c.args.first.now c.in-Test.level.0 ≡ c.turn_of.result =
    ap (λ (z : List ℕ). turn_of z c.args.first.now c.in-Test.level.0) (sym (c.layout.ensures.sizes ∙ ap (λ (x : Shown). x.sizes) c.view.ensures.same)) ∙ sym c.turn_of.ensures in
    elim c.match-turn_of.branch [
      | in-Yes+in_ok-found-in-Yes w ↦
          let kept : AreBarren look s c.match-turn_of.barren_here = rw w.barren_here-is (rw c.view.ensures.same at w.leaf_under.ensures.here) in
          let one : c.match-turn_of.found ≡ look (s.tree c.in-Test.yes) = w.found-is ∙ rw c.view.ensures.same at w.in_ok-found-in-Yes.ensures.ok in
          barren-notes look s c.match-turn_of.barren_here c.noted.new.barren c.args.r c.match-turn_of.found kept c.noted.ensures.notes
          (under-test s.sizes wants c.args.first.now (s.tree c.args.r) (s.tree c.in-Test.yes) (s.tree c.in-Test.no) c.in-Test.level.0 Yes c.match-turn_of.found v.0 (turn ∙ w.in-Yes.is) one)
      | in-No+in_ok-found-in-No w ↦
          let kept : AreBarren look s c.match-turn_of.barren_here = rw w.barren_here-is (rw c.view.ensures.same at w.leaf_under-in-No.ensures.here) in
          let one : c.match-turn_of.found ≡ look (s.tree c.in-Test.no) = w.found-is ∙ rw c.view.ensures.same at w.in_ok-found-in-No.ensures.ok in
          barren-notes look s c.match-turn_of.barren_here c.noted.new.barren c.args.r c.match-turn_of.found kept c.noted.ensures.notes
          (under-test s.sizes wants c.args.first.now (s.tree c.args.r) (s.tree c.in-Test.yes) (s.tree c.in-Test.no) c.in-Test.level.0 No c.match-turn_of.found v.0 (turn ∙ w.in-No.is) one)
      | in-Both+in_ok-leaf-in-Both+in-None+in_ok-found-in-None w ↦
          let kept : AreBarren look s c.match-turn_of.barren_here = rw w.barren_here-is (rw (w.leaf_under-in-Both.ensures.same, c.view.ensures.same) at w.leaf_under-in-None.ensures.here) in
          let one : w.in_ok-leaf-in-Both.field-0 ≡ look (s.tree c.in-Test.yes) = rw c.view.ensures.same at w.in_ok-leaf-in-Both.ensures.ok in
          let two : c.match-turn_of.found ≡ look (s.tree c.in-Test.no) = w.found-is ∙ rw (w.leaf_under-in-Both.ensures.same, c.view.ensures.same) at w.in_ok-found-in-None.ensures.ok in
          let both : c.match-turn_of.found ≡ option_or (look (s.tree c.in-Test.yes)) (look (s.tree c.in-Test.no)) = two ∙ ap (λ (o : Option Leaf). option_or o (look (s.tree c.in-Test.no))) (sym w.in-None.is ∙ one) in
          barren-notes look s c.match-turn_of.barren_here c.noted.new.barren c.args.r c.match-turn_of.found kept c.noted.ensures.notes
          (under-test s.sizes wants c.args.first.now (s.tree c.args.r) (s.tree c.in-Test.yes) (s.tree c.in-Test.no) c.in-Test.level.0 Both c.match-turn_of.found v.0 (turn ∙ w.in-Both.is) both)
    ]
