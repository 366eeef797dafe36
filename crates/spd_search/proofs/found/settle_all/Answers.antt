use Rattle.std.proofs.Common.{arith, ◌≡◌, ◌<◌, ◌++◌, ◌∷◌, [], ℕ, List, length, refl, ◌∙◌, sym, ap, subst}
use Rattle.std.proofs.lemmas.List.{length-append}
use Rattle.spd_nodes.specs.Levels.{AllPositive, slots}
use Rattle.spd_nodes.proofs.CallerLemmas.{positive-slots, tree_of-value_at}
use Rattle.spd_search.specs.inner.Settling.{Settles}
use Rattle.spd_search.proofs.FoundLaws.{Along, along-start, along-next, along-end}
use Rattle.spd_search.proofs.found.settle_all.Goals as goal

pub loop-var-init : goal.loop-var-init
loop-var-init g c =
    let s = g.F.Forest.shows c.args.forest.now in
    let wants = g.W.Wanted.wants c.args.wanted.now in
    let o : AllPositive (slots s.sizes) = positive-slots s.sizes c.requires.sound.layout.values in
    let is = tree_of-value_at (slots s.sizes) 0 (s.tree c.args.r) (c.requires.sound.reduced c.args.r c.requires.known) c.requires.whole in
    let start = along-start s.sizes wants (s.tree c.args.r) o is c.args.leaf c.requires.some in
    record {
      same = refl;
      keeps = refl;
      barren = c.requires.barren;
      count = ap length c.in_ok-first.ensures.items;
      along = subst (λ (l : List ℕ). Along s.sizes wants (s.tree c.args.r) l c.args.leaf) (sym c.in_ok-first.ensures.items) start;
    }

pub loop-var-preserved : goal.loop-var-preserved
loop-var-preserved g c =
    let s = g.F.Forest.shows c.args.forest.now in
    let wants = g.W.Wanted.wants c.args.wanted.now in
    let o : AllPositive (slots s.sizes) = positive-slots s.sizes c.requires.sound.layout.values in
    let is = tree_of-value_at (slots s.sizes) 0 (s.tree c.args.r) (c.requires.sound.reduced c.args.r c.requires.known) c.requires.whole in
    let i = c.loop-var.invariant in
    let settles : Settles s.sizes wants (s.tree c.args.r) c.loop-var.first.items c.settle.new.first.items c.in_ok-leaf.leaf = rw i.same at c.in_ok-leaf.ensures.ok in
    let variables : c.sizes-variables.result.now ≡ s.sizes = c.sizes-variables.ensures.sizes ∙ c.layout.ensures.sizes in
    let near : length c.loop-var.first.items < length s.sizes = omega (arith, i.count, ap length variables) in
    let pushed : length c.settle.new.first.items ≡ length (c.loop-var.first.items ++ settles.value ∷ []) = ap length settles.values in
    record {
      same = rw c.settle.ensures.same i.same;
      keeps = rw c.settle.ensures.keeps i.keeps;
      barren = rw i.same at c.settle.ensures.barren;
      count = omega (arith, i.count, pushed, length-append c.loop-var.first.items (settles.value ∷ []));
      along = along-next s.sizes wants (s.tree c.args.r) o is c.loop-var.first.items c.settle.new.first.items c.loop-var.leaf c.in_ok-leaf.leaf i.along near settles;
    }

pub returns-clause-found : goal.returns-clause-found
returns-clause-found g c =
    let s = g.F.Forest.shows c.args.forest.now in
    let wants = g.W.Wanted.wants c.args.wanted.now in
    let o : AllPositive (slots s.sizes) = positive-slots s.sizes c.requires.sound.layout.values in
    let is = tree_of-value_at (slots s.sizes) 0 (s.tree c.args.r) (c.requires.sound.reduced c.args.r c.requires.known) c.requires.whole in
    let i = c.loop-var.invariant in
    let variables : c.sizes-variables.result.now ≡ s.sizes = c.sizes-variables.ensures.sizes ∙ c.layout.ensures.sizes in
    let all : length c.loop-var.first.items ≡ length s.sizes = omega (arith, i.count, ap length variables) in
    along-end s.sizes wants (s.tree c.args.r) o is c.of.result c.deref.result.now c.loop-var.first.items c.loop-var.leaf c.of.ensures c.deref.ensures.value i.along all
