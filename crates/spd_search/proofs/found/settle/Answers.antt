use Rattle.std.proofs.Common.{arith, ◌≡◌, ◌++◌, ◌∷◌, [], length, vec_len, None}
use borrow.Author.Count.{below_more}
use Rattle.spd_nodes.specs.Levels.{AllPositive, slots}
use Rattle.spd_nodes.proofs.CallerLemmas.{positive-slots, tree_of-value_at}
use Rattle.spd_search.specs.inner.Looking.{leaf_under}
use Rattle.spd_search.proofs.FoundLaws.{some-value, none-here, popped}
use Rattle.spd_search.proofs.found.settle.Goals as goal

pub loop-value-preserved : goal.loop-value-preserved
loop-value-preserved g c =
    let s = g.F.Forest.shows c.args.forest.now in
    let wants = g.W.Wanted.wants c.args.wanted.now in
    let i = c.loop-value.invariant in
    let pushed : c.push.new.self.items ≡ c.args.first.now.items ++ c.loop-value.value ∷ [] = rw i.first at c.in_ok-push.ensures.items in
    let count : vec_len c.push.new.self ≡ length c.push.new.self.items = omega arith in
    let ok : c.in_ok-found.found ≡ leaf_under s.sizes wants c.deref.result.now (s.tree c.args.r) = rw i.same at c.in_ok-found.ensures.ok in
    let here = none-here s.sizes wants (s.tree c.args.r) c.deref.result.now c.push.new.self.items (c.args.first.now.items ++ c.loop-value.value ∷ []) c.in_ok-found.found c.deref.ensures.value pushed ok c.in_default.is in
    record {
      same = rw c.leaf_under.ensures.same i.same;
      keeps = rw c.leaf_under.ensures.keeps i.keeps;
      barren = rw i.same at c.leaf_under.ensures.barren;
      first = popped c.args.first.now.items c.push.new.self.items c.pop.new.self.items c.loop-value.value (vec_len c.push.new.self) pushed count c.pop.ensures.rest;
      before = below_more (λ v. leaf_under s.sizes wants (c.args.first.now.items ++ v ∷ []) (s.tree c.args.r) ≡ None) c.loop-value.value i.before here;
    }

pub unreachable-requires : goal.unreachable-requires
unreachable-requires g c =
    let s = g.F.Forest.shows c.args.forest.now in
    let wants = g.W.Wanted.wants c.args.wanted.now in
    let o : AllPositive (slots s.sizes) = positive-slots s.sizes c.requires.sound.layout.values in
    let is = tree_of-value_at (slots s.sizes) 0 (s.tree c.args.r) (c.requires.sound.reduced c.args.r c.requires.known) c.requires.whole in
    some-value s.sizes wants (s.tree c.args.r) o is c.args.first.now.items c.requires.first c.requires.var c.requires.some (λ v h. c.loop-value.invariant.before v (omega (arith, c.requires.values)))
