use Rattle.std.proofs.Common.{rules, arith, ◌≡◌, ◌+◌, ◌-◌, ◌*◌, ◌<◌, ◌≤◌, ℕ, List, length, map, take, get_or, sym, ◌∙◌, ap, subst, Ok, Err, Some}
use Rattle.std.proofs.lemmas.Bool.Decides.{nat_tests}
use Rattle.std.proofs.lemmas.List.{length-map}
use Rattle.std.proofs.lemmas.Option.{slice_get-get_or}
use Rattle.spd_model.specs.Reduced.{Node}
use Rattle.spd_nodes.specs.declared.leaf.Leaf.{Leaf}
use Rattle.spd_nodes.specs.Levels.{levels_of, slots, slot_of}
use Rattle.spd_nodes.specs.Shown.{IsSound, KnowsAs, MakesTree}
use Rattle.spd_nodes.specs.Trees.{Tree, Ends, join}
use Rattle.spd_nodes.proofs.CallerLemmas.{makes_tree-known}
use Rattle.spd_frozen.specs.Fits.{FitsSizes}
use Rattle.spd_frozen.specs.inner.Thawed.{node_tree, node_at, node_kids, node_slot, kid_trees, tests_from, HasMade}
use Rattle.spd_frozen.proofs.MakeLaws.{seen-at, seen-long, branch-is, leaf-tree, branch-tree, has-grows, has-set, has-after, small, smaller, kid-fails, rest-fails, test-level, test-fits, test-then, levels-few}
use Rattle.spd_frozen.proofs.thawing.+make.Goals as goal

pub make-returns-in-Some-clause-made : goal.make-returns-in-Some-clause-made
make-returns-in-Some-clause-made g t c =
    let s = g.F.Forest.shows c.args.forest.now in
    let nodes = map g.M.Listed.seen c.args.nodes.now in
    let made : KnowsAs s c.in-Some.r (node_tree (slots s.sizes) nodes c.args.number) = c.requires.has.known c.args.number c.in-Some.r (slice_get-get_or c.args.made.now c.args.number _ (omega (arith, c.requires.has.long, length-map c.args.nodes.now g.M.Listed.seen, c.requires.number)) ∙ ap Some c.in-Some.is) in
    makes_tree-known s c.requires.sound c.in-Some.r (node_tree (slots s.sizes) nodes c.args.number) made

pub make-returns-in_err-r-in-Leaf-clause-made : goal.make-returns-in_err-r-in-Leaf-clause-made
make-returns-in_err-r-in-Leaf-clause-made g t c =
    let s = g.F.Forest.shows c.args.forest.now in
    let nodes = map g.M.Listed.seen c.args.nodes.now in
    let low = seen-long g.M.Listed.seen c.args.nodes.now c.args.number c.requires.number in
    let at = seen-at g.M.Listed.seen c.args.nodes.now c.args.number c.index-nodes-number.result c.requires.number c.index-nodes-number.is in
    let tree : node_tree (slots s.sizes) nodes c.args.number ≡ Ends c.in-Leaf.leaf = leaf-tree (slots s.sizes) nodes c.requires.frozen c.requires.fits c.args.number low c.in-Leaf.leaf (at ∙ c.in-Leaf.ensures) in
    let e = c.leaf.ensures in
    let leaf : MakesTree s (g.F.Forest.shows c.leaf.new.self) (Ends c.in-Leaf.leaf) (Err c.in_err-r-in-Leaf.field-0.0) = record { sound = e.sound; grows = e.grows; ok = tt; makes = e.makes; fault = c.in_err-r-in-Leaf.ensures.fault } in
    let made : MakesTree s (g.F.Forest.shows c.leaf.new.self) (node_tree (slots s.sizes) nodes c.args.number) (Err c.in_err-r-in-Leaf.field-0.0) = subst (λ (x : Tree). MakesTree s (g.F.Forest.shows c.leaf.new.self) x (Err c.in_err-r-in-Leaf.field-0.0)) (sym tree) leaf in
    search rules

pub make-returns-in_ok-r-in-Leaf-clause-made : goal.make-returns-in_ok-r-in-Leaf-clause-made
make-returns-in_ok-r-in-Leaf-clause-made g t c =
    let s = g.F.Forest.shows c.args.forest.now in
    let nodes = map g.M.Listed.seen c.args.nodes.now in
    let low = seen-long g.M.Listed.seen c.args.nodes.now c.args.number c.requires.number in
    let at = seen-at g.M.Listed.seen c.args.nodes.now c.args.number c.index-nodes-number.result c.requires.number c.index-nodes-number.is in
    let tree : node_tree (slots s.sizes) nodes c.args.number ≡ Ends c.in-Leaf.leaf = leaf-tree (slots s.sizes) nodes c.requires.frozen c.requires.fits c.args.number low c.in-Leaf.leaf (at ∙ c.in-Leaf.ensures) in
    let e = c.leaf.ensures in
    let leaf : MakesTree s (g.F.Forest.shows c.leaf.new.self) (Ends c.in-Leaf.leaf) (Ok c.in_ok-r-in-Leaf.r) = record { sound = e.sound; grows = e.grows; ok = c.in_ok-r-in-Leaf.ensures.ok; makes = e.makes; fault = tt } in
    subst (λ (x : Tree). MakesTree s (g.F.Forest.shows c.leaf.new.self) x (Ok c.in_ok-r-in-Leaf.r)) (sym tree) leaf

pub make-returns-in_ok-r-in-Leaf-clause-has : goal.make-returns-in_ok-r-in-Leaf-clause-has
make-returns-in_ok-r-in-Leaf-clause-has g t c =
    let s = g.F.Forest.shows c.args.forest.now in
    let new = g.F.Forest.shows c.leaf.new.self in
    let nodes = map g.M.Listed.seen c.args.nodes.now in
    let low = seen-long g.M.Listed.seen c.args.nodes.now c.args.number c.requires.number in
    let at = seen-at g.M.Listed.seen c.args.nodes.now c.args.number c.index-nodes-number.result c.requires.number c.index-nodes-number.is in
    let tree : node_tree (slots s.sizes) nodes c.args.number ≡ Ends c.in-Leaf.leaf = leaf-tree (slots s.sizes) nodes c.requires.frozen c.requires.fits c.args.number low c.in-Leaf.leaf (at ∙ c.in-Leaf.ensures) in
    let e = c.leaf.ensures in
    let k = c.in_ok-r-in-Leaf.ensures.ok in
    let known : KnowsAs new c.in_ok-r-in-Leaf.r (node_tree (slots new.sizes) nodes c.args.number) = record { knows = k.knows; tree = k.tree ∙ sym tree ∙ ap (λ (z : List ℕ). node_tree (slots z) nodes c.args.number) (sym e.grows.sizes) } in
    has-set new nodes c.args.made.now c.args.number c.in_ok-r-in-Leaf.r low (has-grows s new nodes c.args.made.now e.grows c.requires.has) known

pub make-tests-first-requires : goal.make-tests-first-requires
make-tests-first-requires g t c =
    let s = g.F.Forest.shows c.args.forest.now in
    let nodes = map g.M.Listed.seen c.args.nodes.now in
    let low = seen-long g.M.Listed.seen c.args.nodes.now c.args.number c.requires.number in
    let at = seen-at g.M.Listed.seen c.args.nodes.now c.args.number c.index-nodes-number.result c.requires.number c.index-nodes-number.is in
    let node = at ∙ c.in-Branch.ensures ∙ ap (λ (n : Node Leaf). Node.branch (slot_of c.in-Branch.var c.in-Branch.primed) (node_kids n)) (sym at) in
    let b = branch-is s.sizes nodes c.requires.frozen c.requires.fits c.args.number c.in-Branch.var c.in-Branch.primed low node in
    subst (λ (z : List ℕ). c.in-Branch.var < length z) (sym c.layout.ensures.sizes) b.var_in

pub make-make_tests-requires : goal.make-make_tests-requires
make-make_tests-requires g t c κs within =
    let s = g.F.Forest.shows c.args.forest.now in
    let nodes = map g.M.Listed.seen c.args.nodes.now in
    let low = seen-long g.M.Listed.seen c.args.nodes.now c.args.number c.requires.number in
    let at = seen-at g.M.Listed.seen c.args.nodes.now c.args.number c.index-nodes-number.result c.requires.number c.index-nodes-number.is in
    let node = at ∙ c.in-Branch.ensures ∙ ap (λ (n : Node Leaf). Node.branch (slot_of c.in-Branch.var c.in-Branch.primed) (node_kids n)) (sym at) in
    let b = branch-is s.sizes nodes c.requires.frozen c.requires.fits c.args.number c.in-Branch.var c.in-Branch.primed low node in
    let falls : 66 * c.args.number + (64 - 0) < 66 * c.args.number + 65 = omega arith in
    let z : levels_of (take (slot_of c.in-Branch.var c.in-Branch.primed) (slots s.sizes)) + 0 ≡ levels_of (take (slot_of c.in-Branch.var c.in-Branch.primed) (slots s.sizes)) = omega arith in
    let first : c.tests-first.result.0 ≡ levels_of (take (node_slot (node_at nodes c.args.number)) (slots s.sizes)) =
    c.tests-first.ensures.first ∙ ap (λ (l : List ℕ). levels_of (take (slot_of c.in-Branch.var c.in-Branch.primed) (slots l)) + 0) c.layout.ensures.sizes ∙ z ∙ ap (λ (k : ℕ). levels_of (take k (slots s.sizes))) (sym b.slot) in
    let some : 0 < length (node_kids (node_at nodes c.args.number)) = b.some in
    search rules

pub make-returns-in_err-r-in-Branch-clause-made : goal.make-returns-in_err-r-in-Branch-clause-made
make-returns-in_err-r-in-Branch-clause-made g t c =
    let s = g.F.Forest.shows c.args.forest.now in
    let new = g.F.Forest.shows c.make_tests.new.forest in
    let nodes = map g.M.Listed.seen c.args.nodes.now in
    let low = seen-long g.M.Listed.seen c.args.nodes.now c.args.number c.requires.number in
    let at = seen-at g.M.Listed.seen c.args.nodes.now c.args.number c.index-nodes-number.result c.requires.number c.index-nodes-number.is in
    let node = at ∙ c.in-Branch.ensures ∙ ap (λ (n : Node Leaf). Node.branch (slot_of c.in-Branch.var c.in-Branch.primed) (node_kids n)) (sym at) in
    let z : levels_of (take (slot_of c.in-Branch.var c.in-Branch.primed) (slots s.sizes)) + 0 ≡ levels_of (take (slot_of c.in-Branch.var c.in-Branch.primed) (slots s.sizes)) = omega arith in
    let first : c.tests-first.result.0 ≡ levels_of (take (slot_of c.in-Branch.var c.in-Branch.primed) (slots s.sizes)) =
    c.tests-first.ensures.first ∙ ap (λ (l : List ℕ). levels_of (take (slot_of c.in-Branch.var c.in-Branch.primed) (slots l)) + 0) c.layout.ensures.sizes ∙ z in
    let tree = branch-tree (slots s.sizes) nodes c.requires.frozen c.requires.fits c.args.number low (slot_of c.in-Branch.var c.in-Branch.primed) node in
    let below : MakesTree s new (tests_from (kid_trees (slots s.sizes) nodes c.args.number) c.tests-first.result.0 0) (Err c.in_err-r-in-Branch.field-0.0) = c.in_err-r-in-Branch.ensures.made in
    let made : MakesTree s new (node_tree (slots s.sizes) nodes c.args.number) (Err c.in_err-r-in-Branch.field-0.0) =
    subst (λ (x : Tree). MakesTree s new x (Err c.in_err-r-in-Branch.field-0.0)) (ap (λ (k : ℕ). tests_from (kid_trees (slots s.sizes) nodes c.args.number) k 0) first ∙ sym tree) below in
    search rules

pub make-returns-in_ok-r-in-Branch-clause-made : goal.make-returns-in_ok-r-in-Branch-clause-made
make-returns-in_ok-r-in-Branch-clause-made g t c =
    let s = g.F.Forest.shows c.args.forest.now in
    let new = g.F.Forest.shows c.make_tests.new.forest in
    let nodes = map g.M.Listed.seen c.args.nodes.now in
    let low = seen-long g.M.Listed.seen c.args.nodes.now c.args.number c.requires.number in
    let at = seen-at g.M.Listed.seen c.args.nodes.now c.args.number c.index-nodes-number.result c.requires.number c.index-nodes-number.is in
    let node = at ∙ c.in-Branch.ensures ∙ ap (λ (n : Node Leaf). Node.branch (slot_of c.in-Branch.var c.in-Branch.primed) (node_kids n)) (sym at) in
    let z : levels_of (take (slot_of c.in-Branch.var c.in-Branch.primed) (slots s.sizes)) + 0 ≡ levels_of (take (slot_of c.in-Branch.var c.in-Branch.primed) (slots s.sizes)) = omega arith in
    let first : c.tests-first.result.0 ≡ levels_of (take (slot_of c.in-Branch.var c.in-Branch.primed) (slots s.sizes)) =
    c.tests-first.ensures.first ∙ ap (λ (l : List ℕ). levels_of (take (slot_of c.in-Branch.var c.in-Branch.primed) (slots l)) + 0) c.layout.ensures.sizes ∙ z in
    let tree = branch-tree (slots s.sizes) nodes c.requires.frozen c.requires.fits c.args.number low (slot_of c.in-Branch.var c.in-Branch.primed) node in
    subst (λ (x : Tree). MakesTree s new x (Ok c.in_ok-r-in-Branch.r)) (ap (λ (k : ℕ). tests_from (kid_trees (slots s.sizes) nodes c.args.number) k 0) first ∙ sym tree) c.in_ok-r-in-Branch.ensures.made

pub make-returns-in_ok-r-in-Branch-clause-has : goal.make-returns-in_ok-r-in-Branch-clause-has
make-returns-in_ok-r-in-Branch-clause-has g t c =
    let s = g.F.Forest.shows c.args.forest.now in
    let new = g.F.Forest.shows c.make_tests.new.forest in
    let nodes = map g.M.Listed.seen c.args.nodes.now in
    let low = seen-long g.M.Listed.seen c.args.nodes.now c.args.number c.requires.number in
    let at = seen-at g.M.Listed.seen c.args.nodes.now c.args.number c.index-nodes-number.result c.requires.number c.index-nodes-number.is in
    let node = at ∙ c.in-Branch.ensures ∙ ap (λ (n : Node Leaf). Node.branch (slot_of c.in-Branch.var c.in-Branch.primed) (node_kids n)) (sym at) in
    let z : levels_of (take (slot_of c.in-Branch.var c.in-Branch.primed) (slots s.sizes)) + 0 ≡ levels_of (take (slot_of c.in-Branch.var c.in-Branch.primed) (slots s.sizes)) = omega arith in
    let first : c.tests-first.result.0 ≡ levels_of (take (slot_of c.in-Branch.var c.in-Branch.primed) (slots s.sizes)) =
    c.tests-first.ensures.first ∙ ap (λ (l : List ℕ). levels_of (take (slot_of c.in-Branch.var c.in-Branch.primed) (slots l)) + 0) c.layout.ensures.sizes ∙ z in
    let tree = branch-tree (slots s.sizes) nodes c.requires.frozen c.requires.fits c.args.number low (slot_of c.in-Branch.var c.in-Branch.primed) node in
    let m = c.in_ok-r-in-Branch.ensures.made in
    let known : KnowsAs new c.in_ok-r-in-Branch.r (node_tree (slots new.sizes) nodes c.args.number) = record {
      knows = m.ok.knows;
      tree = m.ok.tree ∙ ap (λ (k : ℕ). tests_from (kid_trees (slots s.sizes) nodes c.args.number) k 0) first ∙ sym tree ∙ ap (λ (z : List ℕ). node_tree (slots z) nodes c.args.number) (sym m.grows.sizes);
    } in
    has-set new nodes c.make_tests.new.made c.args.number c.in_ok-r-in-Branch.r low c.in_ok-r-in-Branch.ensures.has known

pub make_tests-make-requires : goal.make_tests-make-requires
make_tests-make-requires g t c κs within =
    let s = g.F.Forest.shows c.args.forest.now in
    let r = c.requires in
    let nodes = map g.M.Listed.seen c.args.nodes.now in
    let low = seen-long g.M.Listed.seen c.args.nodes.now c.args.number r.number in
    let at = seen-at g.M.Listed.seen c.args.nodes.now c.args.number c.index-nodes-number.result r.number c.index-nodes-number.is in
    let kid : c.kid.result ≡ get_or (node_kids (node_at nodes c.args.number)) c.args.value 0 = c.kid.ensures ∙ ap (λ (n : Node Leaf). get_or (node_kids n) c.args.value 0) (sym at) in
    let few = small s r.sound nodes r.frozen r.fits c.args.number c.args.first c.args.value low r.first r.value in
    let before = smaller s r.sound nodes r.frozen r.fits c.args.number c.args.first c.args.value low r.first r.value in
    let falls : 66 * c.kid.result + 65 < 66 * c.args.number + (64 - c.args.value) = omega (arith, kid, few, before) in
    let number : c.kid.result < length c.args.nodes.now = omega (arith, kid, before, r.number) in
    search rules

pub make_tests-returns-in_err-kid-clause-made : goal.make_tests-returns-in_err-kid-clause-made
make_tests-returns-in_err-kid-clause-made g t c =
    let s = g.F.Forest.shows c.args.forest.now in
    let new = g.F.Forest.shows c.make.new.forest in
    let r = c.requires in
    let nodes = map g.M.Listed.seen c.args.nodes.now in
    let low = seen-long g.M.Listed.seen c.args.nodes.now c.args.number r.number in
    let at = seen-at g.M.Listed.seen c.args.nodes.now c.args.number c.index-nodes-number.result r.number c.index-nodes-number.is in
    let kid : c.kid.result ≡ get_or (node_kids (node_at nodes c.args.number)) c.args.value 0 = c.kid.ensures ∙ ap (λ (n : Node Leaf). get_or (node_kids n) c.args.value 0) (sym at) in
    let made : MakesTree s new (tests_from (kid_trees (slots s.sizes) nodes c.args.number) c.args.first c.args.value) (Err c.in_err-kid.field-0.0) =
    kid-fails s r.sound nodes r.frozen r.fits c.args.number c.args.first c.args.value low r.first r.value new c.in_err-kid.field-0.0 (subst (λ (k : ℕ). MakesTree s new (node_tree (slots s.sizes) nodes k) (Err c.in_err-kid.field-0.0)) kid c.in_err-kid.ensures.made) in
    search rules

pub make_tests-overflow_add-value : goal.make_tests-overflow_add-value
make_tests-overflow_add-value g t c =
    let s = g.F.Forest.shows c.args.forest.now in
    let r = c.requires in
    let nodes = map g.M.Listed.seen c.args.nodes.now in
    let low = seen-long g.M.Listed.seen c.args.nodes.now c.args.number r.number in
    let few : c.args.value < 64 = small s r.sound nodes r.frozen r.fits c.args.number c.args.first c.args.value low r.first r.value in
    search rules

pub make_tests-make_tests-requires : goal.make_tests-make_tests-requires
make_tests-make_tests-requires g t c κs within =
    let s = g.F.Forest.shows c.args.forest.now in
    let new = g.F.Forest.shows c.make.new.forest in
    let r = c.requires in
    let nodes = map g.M.Listed.seen c.args.nodes.now in
    let low = seen-long g.M.Listed.seen c.args.nodes.now c.args.number r.number in
    let at = seen-at g.M.Listed.seen c.args.nodes.now c.args.number c.index-nodes-number-2.result r.number c.index-nodes-number-2.is in
    let few = small s r.sound nodes r.frozen r.fits c.args.number c.args.first c.args.value low r.first r.value in
    let count : c.kid_count.result ≡ length (node_kids (node_at nodes c.args.number)) = c.kid_count.ensures ∙ ap (λ (n : Node Leaf). length (node_kids n)) (sym at) in
    let no = c.if-value-kid_count.false in
    let here = r.value in
    let more : c.args.value + 1 < length (node_kids (node_at nodes c.args.number)) = grind (arith, nat_tests) in
    let m = c.in_ok-kid.ensures.made in
    let falls : 66 * c.args.number + (64 - (c.args.value + 1)) < 66 * c.args.number + (64 - c.args.value) = omega (arith, few) in
    let sound : IsSound new = m.sound in
    let fits : FitsSizes (slots new.sizes) nodes = rw m.grows.sizes r.fits in
    let first : c.args.first ≡ levels_of (take (node_slot (node_at nodes c.args.number)) (slots new.sizes)) = rw m.grows.sizes r.first in
    let has : HasMade new nodes c.make.new.made = c.in_ok-kid.ensures.has in
    search rules

pub make_tests-returns-in_err-rest-clause-made : goal.make_tests-returns-in_err-rest-clause-made
make_tests-returns-in_err-rest-clause-made g t c =
    let s = g.F.Forest.shows c.args.forest.now in
    let mid = g.F.Forest.shows c.make.new.forest in
    let new = g.F.Forest.shows c.make_tests.new.forest in
    let r = c.requires in
    let nodes = map g.M.Listed.seen c.args.nodes.now in
    let low = seen-long g.M.Listed.seen c.args.nodes.now c.args.number r.number in
    let at = seen-at g.M.Listed.seen c.args.nodes.now c.args.number c.index-nodes-number.result r.number c.index-nodes-number.is in
    let at2 = seen-at g.M.Listed.seen c.args.nodes.now c.args.number c.index-nodes-number-2.result r.number c.index-nodes-number-2.is in
    let kid : c.kid.result ≡ get_or (node_kids (node_at nodes c.args.number)) c.args.value 0 = c.kid.ensures ∙ ap (λ (n : Node Leaf). get_or (node_kids n) c.args.value 0) (sym at) in
    let count : c.kid_count.result ≡ length (node_kids (node_at nodes c.args.number)) = c.kid_count.ensures ∙ ap (λ (n : Node Leaf). length (node_kids n)) (sym at2) in
    let no = c.if-value-kid_count.false in
    let here = r.value in
    let more : c.args.value + 1 < length (node_kids (node_at nodes c.args.number)) = grind (arith, nat_tests) in
    let m = subst (λ (k : ℕ). MakesTree s mid (node_tree (slots s.sizes) nodes k) (Ok c.in_ok-kid.kid)) kid c.in_ok-kid.ensures.made in
    let n = subst (λ (z : List ℕ). MakesTree mid new (tests_from (kid_trees (slots z) nodes c.args.number) c.args.first (c.args.value + 1)) (Err c.in_err-rest.field-0.0)) m.grows.sizes c.in_err-rest.ensures.made in
    let made : MakesTree s new (tests_from (kid_trees (slots s.sizes) nodes c.args.number) c.args.first c.args.value) (Err c.in_err-rest.field-0.0) =
    rest-fails s r.sound nodes r.frozen r.fits c.args.number c.args.first c.args.value low r.first r.value more mid new c.in_ok-kid.kid c.in_err-rest.field-0.0 m n in
    search rules

pub make_tests-overflow_cast-value : goal.make_tests-overflow_cast-value
make_tests-overflow_cast-value g t c =
    let s = g.F.Forest.shows c.args.forest.now in
    let r = c.requires in
    let nodes = map g.M.Listed.seen c.args.nodes.now in
    let low = seen-long g.M.Listed.seen c.args.nodes.now c.args.number r.number in
    let few : c.args.value < 64 = small s r.sound nodes r.frozen r.fits c.args.number c.args.first c.args.value low r.first r.value in
    search rules

pub make_tests-overflow_add-first : goal.make_tests-overflow_add-first
make_tests-overflow_add-first g t c =
    let s = g.F.Forest.shows c.args.forest.now in
    let mid = g.F.Forest.shows c.make.new.forest in
    let new = g.F.Forest.shows c.make_tests.new.forest in
    let r = c.requires in
    let nodes = map g.M.Listed.seen c.args.nodes.now in
    let low = seen-long g.M.Listed.seen c.args.nodes.now c.args.number r.number in
    let at = seen-at g.M.Listed.seen c.args.nodes.now c.args.number c.index-nodes-number.result r.number c.index-nodes-number.is in
    let at2 = seen-at g.M.Listed.seen c.args.nodes.now c.args.number c.index-nodes-number-2.result r.number c.index-nodes-number-2.is in
    let kid : c.kid.result ≡ get_or (node_kids (node_at nodes c.args.number)) c.args.value 0 = c.kid.ensures ∙ ap (λ (n : Node Leaf). get_or (node_kids n) c.args.value 0) (sym at) in
    let count : c.kid_count.result ≡ length (node_kids (node_at nodes c.args.number)) = c.kid_count.ensures ∙ ap (λ (n : Node Leaf). length (node_kids n)) (sym at2) in
    let no = c.if-value-kid_count.false in
    let here = r.value in
    let more : c.args.value + 1 < length (node_kids (node_at nodes c.args.number)) = grind (arith, nat_tests) in
    let m = subst (λ (k : ℕ). MakesTree s mid (node_tree (slots s.sizes) nodes k) (Ok c.in_ok-kid.kid)) kid c.in_ok-kid.ensures.made in
    let n = subst (λ (z : List ℕ). MakesTree mid new (tests_from (kid_trees (slots z) nodes c.args.number) c.args.first (c.args.value + 1)) (Ok c.in_ok-rest.rest)) m.grows.sizes c.in_ok-rest.ensures.made in
    let level : c.args.first + c.args.value < levels_of (slots new.sizes) = test-level s r.sound nodes r.frozen r.fits c.args.number c.args.first c.args.value low r.first r.value more mid new c.in_ok-kid.kid c.in_ok-rest.rest m n in
    let few : levels_of (slots new.sizes) ≤ 512 = levels-few new.sizes n.sound.layout in
    let room : c.args.first + c.args.value < 512 = omega arith in
    search rules

pub make_tests-test-requires-clause-level : goal.make_tests-test-requires-clause-level
make_tests-test-requires-clause-level g t c =
    let s = g.F.Forest.shows c.args.forest.now in
    let mid = g.F.Forest.shows c.make.new.forest in
    let new = g.F.Forest.shows c.make_tests.new.forest in
    let r = c.requires in
    let nodes = map g.M.Listed.seen c.args.nodes.now in
    let low = seen-long g.M.Listed.seen c.args.nodes.now c.args.number r.number in
    let at = seen-at g.M.Listed.seen c.args.nodes.now c.args.number c.index-nodes-number.result r.number c.index-nodes-number.is in
    let at2 = seen-at g.M.Listed.seen c.args.nodes.now c.args.number c.index-nodes-number-2.result r.number c.index-nodes-number-2.is in
    let kid : c.kid.result ≡ get_or (node_kids (node_at nodes c.args.number)) c.args.value 0 = c.kid.ensures ∙ ap (λ (n : Node Leaf). get_or (node_kids n) c.args.value 0) (sym at) in
    let count : c.kid_count.result ≡ length (node_kids (node_at nodes c.args.number)) = c.kid_count.ensures ∙ ap (λ (n : Node Leaf). length (node_kids n)) (sym at2) in
    let no = c.if-value-kid_count.false in
    let here = r.value in
    let more : c.args.value + 1 < length (node_kids (node_at nodes c.args.number)) = grind (arith, nat_tests) in
    let m = subst (λ (k : ℕ). MakesTree s mid (node_tree (slots s.sizes) nodes k) (Ok c.in_ok-kid.kid)) kid c.in_ok-kid.ensures.made in
    let n = subst (λ (z : List ℕ). MakesTree mid new (tests_from (kid_trees (slots z) nodes c.args.number) c.args.first (c.args.value + 1)) (Ok c.in_ok-rest.rest)) m.grows.sizes c.in_ok-rest.ensures.made in
    test-level s r.sound nodes r.frozen r.fits c.args.number c.args.first c.args.value low r.first r.value more mid new c.in_ok-kid.kid c.in_ok-rest.rest m n

pub make_tests-test-requires-clause-fits : goal.make_tests-test-requires-clause-fits
make_tests-test-requires-clause-fits g t c =
    let s = g.F.Forest.shows c.args.forest.now in
    let mid = g.F.Forest.shows c.make.new.forest in
    let new = g.F.Forest.shows c.make_tests.new.forest in
    let r = c.requires in
    let nodes = map g.M.Listed.seen c.args.nodes.now in
    let low = seen-long g.M.Listed.seen c.args.nodes.now c.args.number r.number in
    let at = seen-at g.M.Listed.seen c.args.nodes.now c.args.number c.index-nodes-number.result r.number c.index-nodes-number.is in
    let at2 = seen-at g.M.Listed.seen c.args.nodes.now c.args.number c.index-nodes-number-2.result r.number c.index-nodes-number-2.is in
    let kid : c.kid.result ≡ get_or (node_kids (node_at nodes c.args.number)) c.args.value 0 = c.kid.ensures ∙ ap (λ (n : Node Leaf). get_or (node_kids n) c.args.value 0) (sym at) in
    let count : c.kid_count.result ≡ length (node_kids (node_at nodes c.args.number)) = c.kid_count.ensures ∙ ap (λ (n : Node Leaf). length (node_kids n)) (sym at2) in
    let no = c.if-value-kid_count.false in
    let here = r.value in
    let more : c.args.value + 1 < length (node_kids (node_at nodes c.args.number)) = grind (arith, nat_tests) in
    let m = subst (λ (k : ℕ). MakesTree s mid (node_tree (slots s.sizes) nodes k) (Ok c.in_ok-kid.kid)) kid c.in_ok-kid.ensures.made in
    let n = subst (λ (z : List ℕ). MakesTree mid new (tests_from (kid_trees (slots z) nodes c.args.number) c.args.first (c.args.value + 1)) (Ok c.in_ok-rest.rest)) m.grows.sizes c.in_ok-rest.ensures.made in
    test-fits s r.sound nodes r.frozen r.fits c.args.number c.args.first c.args.value low r.first r.value more mid new c.in_ok-kid.kid c.in_ok-rest.rest m n

pub make_tests-returns-clause-made : goal.make_tests-returns-clause-made
make_tests-returns-clause-made g t c =
    let s = g.F.Forest.shows c.args.forest.now in
    let mid = g.F.Forest.shows c.make.new.forest in
    let new = g.F.Forest.shows c.make_tests.new.forest in
    let r = c.requires in
    let nodes = map g.M.Listed.seen c.args.nodes.now in
    let low = seen-long g.M.Listed.seen c.args.nodes.now c.args.number r.number in
    let at = seen-at g.M.Listed.seen c.args.nodes.now c.args.number c.index-nodes-number.result r.number c.index-nodes-number.is in
    let at2 = seen-at g.M.Listed.seen c.args.nodes.now c.args.number c.index-nodes-number-2.result r.number c.index-nodes-number-2.is in
    let kid : c.kid.result ≡ get_or (node_kids (node_at nodes c.args.number)) c.args.value 0 = c.kid.ensures ∙ ap (λ (n : Node Leaf). get_or (node_kids n) c.args.value 0) (sym at) in
    let count : c.kid_count.result ≡ length (node_kids (node_at nodes c.args.number)) = c.kid_count.ensures ∙ ap (λ (n : Node Leaf). length (node_kids n)) (sym at2) in
    let no = c.if-value-kid_count.false in
    let here = r.value in
    let more : c.args.value + 1 < length (node_kids (node_at nodes c.args.number)) = grind (arith, nat_tests) in
    let m = subst (λ (k : ℕ). MakesTree s mid (node_tree (slots s.sizes) nodes k) (Ok c.in_ok-kid.kid)) kid c.in_ok-kid.ensures.made in
    let n = subst (λ (z : List ℕ). MakesTree mid new (tests_from (kid_trees (slots z) nodes c.args.number) c.args.first (c.args.value + 1)) (Ok c.in_ok-rest.rest)) m.grows.sizes c.in_ok-rest.ensures.made in
    let e = c.test.ensures in
    let test : MakesTree new (g.F.Forest.shows c.test.new.self) (join (c.args.first + c.args.value) (new.tree c.in_ok-kid.kid) (new.tree c.in_ok-rest.rest)) c.test.result = record { sound = e.sound; grows = e.grows; ok = e.ok; makes = e.makes; fault = e.fault } in
    test-then s r.sound nodes r.frozen r.fits c.args.number c.args.first c.args.value low r.first r.value more mid new c.in_ok-kid.kid c.in_ok-rest.rest m n (g.F.Forest.shows c.test.new.self) c.test.result test

pub make_tests-returns-clause-has : goal.make_tests-returns-clause-has
make_tests-returns-clause-has g t c =
    let nodes = map g.M.Listed.seen c.args.nodes.now in
    has-after (g.F.Forest.shows c.make_tests.new.forest) (g.F.Forest.shows c.test.new.self) nodes c.make_tests.new.made c.test.result c.test.ensures.grows c.in_ok-rest.ensures.has
