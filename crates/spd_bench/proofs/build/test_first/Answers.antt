use Rattle.std.proofs.Common.{◌≡◌, ℕ, List, false, ◌^◌, ◌∙◌, ap}
use Rattle.spd_nodes.specs.Levels.{level_at}
use Rattle.spd_bench.proofs.CountLaws.{count-can, count-test, if-ok}
use Rattle.spd_bench.proofs.build.test_first.Goals as goal

-- the level in the forest's own sizes
level-here : (level var : ℕ) (own sizes : List ℕ) → own ≡ sizes → level ≡ level_at own var false 0 → level ≡ level_at sizes var false 0
level-here level var own sizes e h = h ∙ ap (λ (w : List ℕ). level_at w var false 0) e

pub test-requires-clause-fits : goal.test-requires-clause-fits
test-requires-clause-fits g c =
    let shown = g.F.Forest.shows c.args.forest.now in
    count-can shown shown (2 ^ 16) c.args.var c.level-level.result.0 c.args.yes c.args.no c.requires.sizes c.requires.var
    (level-here c.level-level.result.0 c.args.var c.layout.result.now shown.sizes c.layout.ensures.sizes c.level-level.ensures.level) c.requires.yes c.requires.no

pub returns-clause-ok : goal.returns-clause-ok
returns-clause-ok g c =
    let shown = g.F.Forest.shows c.args.forest.now in
    if-ok (λ r k. count-test shown (g.F.Forest.shows c.test.new.self) (2 ^ 16) c.args.var c.level-level.result.0 c.args.yes c.args.no c.requires.sizes c.requires.var
    (level-here c.level-level.result.0 c.args.var c.layout.result.now shown.sizes c.layout.ensures.sizes c.level-level.ensures.level) c.requires.yes c.requires.no c.test.ensures.grows k)
    c.test.result c.test.ensures.ok
