use Rattle.std.proofs.Common.{rules, arith, ◌≡◌, ◌+◌, ◌*◌, ◌-◌, ◌<◌, ◌≤◌, ℕ, List, true, sym, ◌∙◌, ap, subst, refl}
use Rattle.std.proofs.lemmas.Result.{IfOk-weaker}
use Rattle.spd_model.specs.Reduced.{Node}
use Rattle.spd_nodes.specs.Levels.{slots, slot_of, after, IsTestOf}
use Rattle.spd_nodes.specs.Shown.{IsSound, IsWhole}
use Rattle.spd_nodes.specs.Trees.{tree_rank}
use Rattle.spd_frozen.specs.Mixed.{all_slotted, slotted}
use Rattle.spd_frozen.specs.inner.Completed.{slot_diagram, IsRoot, HoldsNodes, IsCompleted, IsNext}
use Rattle.spd_frozen.proofs.KidLaws.{some-tests}
use Rattle.spd_frozen.proofs.FreezeLaws.{found, position-entry, leaf-next, add-completes}
use Rattle.spd_frozen.proofs.BranchLaws.{KidsDone, kids-start, yes-kid, rest-kid, kids-next, kids-last}
use Rattle.spd_frozen.proofs.freezing.+complete.Goals as goal

pub branch-overflow_sub-end : goal.branch-overflow_sub-end
branch-overflow_sub-end g t c =
    let s = g.F.Forest.shows c.args.forest.now in
    let is : IsTestOf s.sizes c.args.level.0 c.what-var.result.0 c.what-var.result.1 c.what-var.result.2 = subst (λ (z : List ℕ). IsTestOf z c.args.level.0 c.what-var.result.0 c.what-var.result.1 c.what-var.result.2) c.layout.ensures.sizes c.what-var.ensures in
    let e : c.end-end.result ≡ after (slots s.sizes) c.args.level.0 = c.end-end.ensures.end ∙ ap (λ (z : List ℕ). after (slots z) c.args.level.0) c.layout-2.ensures.sizes in
    let some : c.args.level.0 < c.end-end.result = some-tests s.sizes (s.tree c.args.r) c.args.level.0 c.what-var.result.0 c.what-var.result.2 c.end-end.result c.what-var.result.1 (c.requires.sound.reduced c.args.r c.requires.known) c.requires.whole c.requires.at is e in
    omega arith

pub branch-loop-test-init : goal.branch-loop-test-init
branch-loop-test-init g t c =
    let s = g.F.Forest.shows c.args.forest.now in
    let is : IsTestOf s.sizes c.args.level.0 c.what-var.result.0 c.what-var.result.1 c.what-var.result.2 = subst (λ (z : List ℕ). IsTestOf z c.args.level.0 c.what-var.result.0 c.what-var.result.1 c.what-var.result.2) c.layout.ensures.sizes c.what-var.ensures in
    let e : c.end-end.result ≡ after (slots s.sizes) c.args.level.0 = c.end-end.ensures.end ∙ ap (λ (z : List ℕ). after (slots z) c.args.level.0) c.layout-2.ensures.sizes in
    let nodes = all_slotted c.args.done.now.nodes.items in
    let start = kids-start s c.requires.sound c.args.r c.requires.known c.requires.whole c.args.level.0 c.what-var.result.0 c.what-var.result.2 c.end-end.result c.what-var.result.1 c.requires.at is e nodes c.args.done.now.refs.keys c.requires.holds in
    record {
      same = refl;
      keeps = refl;
      done = subst (λ (k : List ℕ). KidsDone s c.args.r c.args.level.0 c.end-end.result c.args.level.0 c.args.r nodes c.args.done.now.refs.keys nodes k) (sym c.in_ok-kids.ensures.items) start;
    }

pub branch-complete-requires : goal.branch-complete-requires
branch-complete-requires g t c κs within =
    let s = g.F.Forest.shows c.args.forest.now in
    let is : IsTestOf s.sizes c.args.level.0 c.what-var.result.0 c.what-var.result.1 c.what-var.result.2 = subst (λ (z : List ℕ). IsTestOf z c.args.level.0 c.what-var.result.0 c.what-var.result.1 c.what-var.result.2) c.layout.ensures.sizes c.what-var.ensures in
    let e : c.end-end.result ≡ after (slots s.sizes) c.args.level.0 = c.end-end.ensures.end ∙ ap (λ (z : List ℕ). after (slots z) c.args.level.0) c.layout-2.ensures.sizes in
    let i = c.loop-test.invariant in
    let same : g.F.Forest.shows c.halves.new.forest ≡ s = c.halves.ensures.same ∙ i.same in
    let known' : s.knows c.halves.result.0 ≡ true = rw i.same at c.halves.ensures.yes_known in
    let kid = yes-kid s c.requires.sound c.args.r c.requires.known c.requires.whole c.args.level.0 c.what-var.result.0 c.what-var.result.2 c.end-end.result c.what-var.result.1 c.requires.at is e c.loop-test.test c.loop-test.rest
    (all_slotted c.args.done.now.nodes.items) c.loop-test.done.refs.keys (all_slotted c.loop-test.done.nodes.items) c.loop-test.kids.items i.done c.halves.result.0 c.loop-test-test.true known' (rw i.same at c.halves.ensures.yes) in
    let rank = kid.rank in
    let falls : 2 * tree_rank (slots s.sizes) (s.tree c.halves.result.0) + 1 < 2 * tree_rank (slots s.sizes) (s.tree c.args.r) = omega arith in
    let smaller : 2 * tree_rank (slots (g.F.Forest.shows c.halves.new.forest).sizes) ((g.F.Forest.shows c.halves.new.forest).tree c.halves.result.0) + 1 < 2 * tree_rank (slots s.sizes) (s.tree c.args.r) = rw same falls in
    let sound : IsSound (g.F.Forest.shows c.halves.new.forest) = rw same c.requires.sound in
    let known : (g.F.Forest.shows c.halves.new.forest).knows c.halves.result.0 ≡ true = rw same known' in
    let whole : IsWhole (g.F.Forest.shows c.halves.new.forest) c.halves.result.0 = rw same kid.whole in
    let holds : HoldsNodes (g.F.Forest.shows c.halves.new.forest) c.loop-test.done.refs.keys (all_slotted c.loop-test.done.nodes.items) = rw same i.done.holds in
    search rules

pub branch-loop-test-preserved : goal.branch-loop-test-preserved
branch-loop-test-preserved g t c =
    let s = g.F.Forest.shows c.args.forest.now in
    let is : IsTestOf s.sizes c.args.level.0 c.what-var.result.0 c.what-var.result.1 c.what-var.result.2 = subst (λ (z : List ℕ). IsTestOf z c.args.level.0 c.what-var.result.0 c.what-var.result.1 c.what-var.result.2) c.layout.ensures.sizes c.what-var.ensures in
    let e : c.end-end.result ≡ after (slots s.sizes) c.args.level.0 = c.end-end.ensures.end ∙ ap (λ (z : List ℕ). after (slots z) c.args.level.0) c.layout-2.ensures.sizes in
    let i = c.loop-test.invariant in
    let same : g.F.Forest.shows c.halves.new.forest ≡ s = c.halves.ensures.same ∙ i.same in
    let old = all_slotted c.args.done.now.nodes.items in
    let nodes = all_slotted c.loop-test.done.nodes.items in
    let kid = yes-kid s c.requires.sound c.args.r c.requires.known c.requires.whole c.args.level.0 c.what-var.result.0 c.what-var.result.2 c.end-end.result c.what-var.result.1 c.requires.at is e c.loop-test.test c.loop-test.rest
    old c.loop-test.done.refs.keys nodes c.loop-test.kids.items i.done c.halves.result.0 c.loop-test-test.true (rw i.same at c.halves.ensures.yes_known) (rw i.same at c.halves.ensures.yes) in
    let new = all_slotted c.complete.new.done.nodes.items in
    let made : IsCompleted s nodes c.complete.new.done.refs.keys new (slot_diagram s c.halves.result.0) c.in_ok-complete.field-0 = rw same at c.in_ok-complete.ensures.ok in
    let next = kids-next s c.requires.sound c.args.r c.requires.known c.requires.whole c.args.level.0 c.what-var.result.0 c.what-var.result.2 c.end-end.result c.what-var.result.1 c.requires.at is e c.loop-test.test c.loop-test.rest
    old c.loop-test.done.refs.keys nodes c.loop-test.kids.items i.done c.halves.result.0 c.halves.result.1 c.complete.new.done.refs.keys new c.in_ok-complete.field-0 c.loop-test-test.true kid (rw i.same at c.halves.ensures.no_known) (rw i.same at c.halves.ensures.no) made in
    record {
      same = c.complete.ensures.same ∙ same;
      keeps = c.complete.ensures.keeps ∙ c.halves.ensures.keeps ∙ i.keeps;
      done = subst (λ (k : List ℕ). KidsDone s c.args.r c.args.level.0 c.end-end.result (c.loop-test.test + 1) c.halves.result.1 old c.complete.new.done.refs.keys new k) (sym c.in_ok-push.ensures.items) next;
    }

pub branch-complete-requires-2 : goal.branch-complete-requires-2
branch-complete-requires-2 g t c κs within =
    let s = g.F.Forest.shows c.args.forest.now in
    let is : IsTestOf s.sizes c.args.level.0 c.what-var.result.0 c.what-var.result.1 c.what-var.result.2 = subst (λ (z : List ℕ). IsTestOf z c.args.level.0 c.what-var.result.0 c.what-var.result.1 c.what-var.result.2) c.layout.ensures.sizes c.what-var.ensures in
    let e : c.end-end.result ≡ after (slots s.sizes) c.args.level.0 = c.end-end.ensures.end ∙ ap (λ (z : List ℕ). after (slots z) c.args.level.0) c.layout-2.ensures.sizes in
    let i = c.loop-test.invariant in
    let past : c.end-end.result ≤ c.loop-test.test = omega (arith, c.loop-test-test.false) in
    let kid = rest-kid s c.requires.sound c.args.r c.requires.known c.requires.whole c.args.level.0 c.what-var.result.0 c.what-var.result.2 c.end-end.result c.what-var.result.1 c.requires.at is e c.loop-test.test c.loop-test.rest
    (all_slotted c.args.done.now.nodes.items) c.loop-test.done.refs.keys (all_slotted c.loop-test.done.nodes.items) c.loop-test.kids.items i.done past in
    let rank = kid.rank in
    let falls : 2 * tree_rank (slots s.sizes) (s.tree c.loop-test.rest) + 1 < 2 * tree_rank (slots s.sizes) (s.tree c.args.r) = omega arith in
    let smaller : 2 * tree_rank (slots (g.F.Forest.shows c.loop-test.forest).sizes) ((g.F.Forest.shows c.loop-test.forest).tree c.loop-test.rest) + 1 < 2 * tree_rank (slots s.sizes) (s.tree c.args.r) = rw i.same falls in
    let sound : IsSound (g.F.Forest.shows c.loop-test.forest) = rw i.same c.requires.sound in
    let known : (g.F.Forest.shows c.loop-test.forest).knows c.loop-test.rest ≡ true = rw i.same i.done.known in
    let whole : IsWhole (g.F.Forest.shows c.loop-test.forest) c.loop-test.rest = rw i.same kid.whole in
    let holds : HoldsNodes (g.F.Forest.shows c.loop-test.forest) c.loop-test.done.refs.keys (all_slotted c.loop-test.done.nodes.items) = rw i.same i.done.holds in
    search rules

pub branch-returns-clause-ok : goal.branch-returns-clause-ok
branch-returns-clause-ok g t c =
    let s = g.F.Forest.shows c.args.forest.now in
    let is : IsTestOf s.sizes c.args.level.0 c.what-var.result.0 c.what-var.result.1 c.what-var.result.2 = subst (λ (z : List ℕ). IsTestOf z c.args.level.0 c.what-var.result.0 c.what-var.result.1 c.what-var.result.2) c.layout.ensures.sizes c.what-var.ensures in
    let e : c.end-end.result ≡ after (slots s.sizes) c.args.level.0 = c.end-end.ensures.end ∙ ap (λ (z : List ℕ). after (slots z) c.args.level.0) c.layout-2.ensures.sizes in
    let i = c.loop-test.invariant in
    let past : c.end-end.result ≤ c.loop-test.test = omega (arith, c.loop-test-test.false) in
    let old = all_slotted c.args.done.now.nodes.items in
    let nodes = all_slotted c.loop-test.done.nodes.items in
    let new = all_slotted c.complete-2.new.done.nodes.items in
    let made : IsCompleted s nodes c.complete-2.new.done.refs.keys new (slot_diagram s c.loop-test.rest) c.in_ok-complete-2.field-0 = rw i.same at c.in_ok-complete-2.ensures.ok in
    let last = kids-last s c.requires.sound c.args.r c.requires.known c.requires.whole c.args.level.0 c.what-var.result.0 c.what-var.result.2 c.end-end.result c.what-var.result.1 c.requires.at is e c.loop-test.test c.loop-test.rest
    old c.loop-test.done.refs.keys nodes c.loop-test.kids.items i.done c.args.done.now.refs.keys c.complete-2.new.done.refs.keys new c.in_ok-complete-2.field-0 past c.requires.holds made in
    subst (λ (k : List ℕ). IsNext s old c.complete-2.new.done.refs.keys new (slot_diagram s c.args.r) (Node.branch (slot_of c.what-var.result.0 c.what-var.result.1) k)) (sym c.in_ok-push-2.ensures.items) last

pub complete-returns-in-Some-clause-ok : goal.complete-returns-in-Some-clause-ok
complete-returns-in-Some-clause-ok g t c =
    let s = g.F.Forest.shows c.args.forest.now in
    let refs = c.args.done.now.refs.keys in
    let nodes = all_slotted c.args.done.now.nodes.items in
    let there = position-entry refs c.args.r c.in-Some.number (sym c.get_index_of.ensures.index ∙ c.in-Some.is) in
    let done : IsCompleted s nodes refs nodes (slot_diagram s c.args.r) c.in-Some.number = found s c.requires.sound refs nodes c.requires.holds c.in-Some.number c.args.r there.0 there.1 in
    IfOk-weaker c.number_of.result (λ n. n ≡ c.in-Some.number) (λ n. IsCompleted s nodes refs nodes (slot_diagram s c.args.r) n) (λ n e. subst (λ (m : ℕ). IsCompleted s nodes refs nodes (slot_diagram s c.args.r) m) (sym e) done) c.number_of.ensures

pub complete-returns-in-Leaf-clause-ok : goal.complete-returns-in-Leaf-clause-ok
complete-returns-in-Leaf-clause-ok g t c =
    let s = g.F.Forest.shows c.args.forest.now in
    let refs = c.args.done.now.refs.keys in
    let nodes = all_slotted c.args.done.now.nodes.items in
    let root : IsRoot s c.args.r = (c.requires.known, c.requires.whole) in
    add-completes s c.requires.sound nodes refs c.add.new.done.refs.keys nodes (all_slotted c.add.new.done.nodes.items) c.args.r (Node.leaf c.in-Leaf.leaf) c.add.result root
    (leaf-next s c.requires.sound refs nodes c.args.r c.in-Leaf.leaf c.requires.holds root c.in-Leaf.ensures.view) c.add.ensures

pub complete-returns-in_ok-node-in-Test-clause-ok : goal.complete-returns-in_ok-node-in-Test-clause-ok
complete-returns-in_ok-node-in-Test-clause-ok g t c =
    let s = g.F.Forest.shows c.args.forest.now in
    let old = all_slotted c.args.done.now.nodes.items in
    let refs = c.branch-alloc.new.done.refs.keys in
    let nodes = all_slotted c.branch-alloc.new.done.nodes.items in
    let root : IsRoot s c.args.r = (c.requires.known, c.requires.whole) in
    let next : IsNext s old refs nodes (slot_diagram s c.args.r) (slotted c.in_ok-node-in-Test.node) = rw c.view.ensures.same at c.in_ok-node-in-Test.ensures.ok in
    add-completes s c.requires.sound old refs c.add-in-Test.new.done.refs.keys nodes (all_slotted c.add-in-Test.new.done.nodes.items) c.args.r (slotted c.in_ok-node-in-Test.node) c.add-in-Test.result root next c.add-in-Test.ensures
