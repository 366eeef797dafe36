use Rattle.std.proofs.Common.{rules, arith, ◌≡◌, ◌+◌, ◌<◌, ◌≤◌, ◌∙◌, ℕ, max, fold, [], List, length, map, flat_map, take, get_or, slice_index, All, Err, Ok, true, ap, sym, subst, Vec, Global}
use Rattle.std.proofs.lemmas.List.{length-map}
use Rattle.std.proofs.lemmas.List.Elements.{All-get_or}
use Rattle.spd_cons_core.specs.declared.key.Entry.{Entry}
use Rattle.spd_model.specs.declared.tree.Tree.{Tree, Named}
use Rattle.spd_model.specs.Lawful.{IsLawful}
use Rattle.spd_model.specs.States.{sizes}
use Rattle.spd_model.specs.Trees.{nesting, read_tree}
use Rattle.spd_model.proofs.CallerLemmas.Trees.{read_tree-Branch}
use Rattle.spd_model.proofs.CallerLemmas.StateOrder.{length-sizes}
use Rattle.spd_nodes.specs.Shown.{IsWhole, MakesAmong}
use Rattle.spd_build.specs.Functions.{tree_function, tree_functions}
use Rattle.spd_build.specs.Fitting.{FitsWith, StandForTrees}
use Rattle.spd_nodes.specs.Made.{MakesAll}
use Rattle.spd_build.proofs.FittingLaws.{FitsBranch, fits-name, fits-branch, name-stands, nests-within}
use Rattle.spd_build.proofs.TreeLaws.{kids-failed, whole-branch}
use Rattle.spd_build.proofs.trees.+tree.Goals as goal
use Rattle.spd_nodes.proofs.CallerLemmas.{Among, all-out, among-flat, has-made, has-none, has-then, makes_among-known, part-failed, stand-grow, stand-known, stand-length, stand-more, stand-whole}

-- ---- the tree

pub tree_of-bounds-dds-dd : goal.tree_of-bounds-dds-dd
tree_of-bounds-dds-dd g t c =
    let m = c.args.model.now in
    let k = length c.args.dds.now in
    fits-name m k c.in-Named.dd (subst (FitsWith m k) c.in-Named.is c.requires.fits)

pub tree_of-returns-in-Named-clause-made : goal.tree_of-returns-in-Named-clause-made
tree_of-returns-in-Named-clause-made g t c =
    let m = c.args.model.now in
    let s = g.F.Forest.shows c.args.forest.now in
    let law : IsLawful m = subst IsLawful c.model.view_is c.model.invariant in
    let d = c.in-Named.dd in
    let near = fits-name m (length c.args.dds.now) d (subst (FitsWith m (length c.args.dds.now)) c.in-Named.is c.requires.fits) in
    let r = get_or c.args.dds.now d (record { 0 = 0 }) in
    let stands = name-stands s m law c.args.dds.now c.requires.named c.requires.dds d (record { 0 = 0 }) near in
    subst (λ (u : Tree). MakesAmong s s (tree_function m u) (tree_functions m u) (Ok r)) (sym c.in-Named.is)
    (makes_among-known s c.layout.ensures.sound r (tree_function m (Named d)) (tree_functions m (Named d)) stands)

pub tree_of-trees_of-requires : goal.tree_of-trees_of-requires
tree_of-trees_of-requires g t c κs within =
    let m = c.args.model.now in
    let k = length c.args.dds.now in
    let branch : FitsBranch m k c.in-Branch.var c.in-Branch.kids = fits-branch m k c.in-Branch.var c.in-Branch.primed c.in-Branch.kids (subst (FitsWith m k) c.in-Branch.is c.requires.fits) in
    let fit : All (FitsWith m k) c.as_slice.result.now = subst (All (FitsWith m k)) (sym c.as_slice.ensures) branch.each in
    let deeper : read_tree nesting [] c.args.tree.now ≡ 1 + fold max 0 (map (read_tree nesting []) c.as_slice.result.now) =
    ap (read_tree nesting []) c.in-Branch.is ∙ read_tree-Branch nesting [] c.in-Branch.var c.in-Branch.primed c.in-Branch.kids ∙ ap (λ (l : List Tree). 1 + fold max 0 (map (read_tree nesting []) l)) (sym c.as_slice.ensures) in
    search rules

pub tree_of-returns-in_err-kids-in-Branch-clause-made : goal.tree_of-returns-in_err-kids-in-Branch-clause-made
tree_of-returns-in_err-kids-in-Branch-clause-made g t c =
    let made = kids-failed c.args.model.now c.in-Branch.var c.in-Branch.primed c.in-Branch.kids c.args.tree.now c.as_slice.result.now c.in-Branch.is c.as_slice.ensures
    (g.F.Forest.shows c.args.forest.now) (g.F.Forest.shows c.trees_of.new.forest) c.in_err-kids-in-Branch.field-0.0 c.in_err-kids-in-Branch.ensures.made in
    search rules

pub tree_of-choose-requires-clause-known : goal.tree_of-choose-requires-clause-known
tree_of-choose-requires-clause-known g t c =
    let v = g.F.Forest.shows c.trees_of.new.forest in
    subst (All (λ (r : Entry). v.knows r ≡ true)) (sym c.deref.ensures.value)
    (stand-known v c.in_ok-kids-in-Branch.kids.items (map (tree_function c.args.model.now) c.as_slice.result.now) c.in_ok-kids-in-Branch.ensures.stand)

pub tree_of-choose-requires-clause-whole : goal.tree_of-choose-requires-clause-whole
tree_of-choose-requires-clause-whole g t c =
    let v = g.F.Forest.shows c.trees_of.new.forest in
    subst (All (λ (r : Entry). IsWhole v r)) (sym c.deref.ensures.value)
    (stand-whole v c.in_ok-kids-in-Branch.kids.items (map (tree_function c.args.model.now) c.as_slice.result.now) c.in_ok-kids-in-Branch.ensures.stand)

pub tree_of-choose-requires-clause-count : goal.tree_of-choose-requires-clause-count
tree_of-choose-requires-clause-count g t c =
    let m = c.args.model.now in
    let k = length c.args.dds.now in
    let v = g.F.Forest.shows c.trees_of.new.forest in
    let branch = fits-branch m k c.in-Branch.var c.in-Branch.primed c.in-Branch.kids (subst (FitsWith m k) c.in-Branch.is c.requires.fits) in
    let same : v.sizes ≡ sizes m = c.in_ok-kids-in-Branch.ensures.made.made.grows.sizes ∙ c.requires.layout in
    ap length c.deref.ensures.value
    ∙ stand-length v c.in_ok-kids-in-Branch.kids.items (map (tree_function m) c.as_slice.result.now) c.in_ok-kids-in-Branch.ensures.stand
    ∙ length-map c.as_slice.result.now (tree_function m) ∙ ap length c.as_slice.ensures
    ∙ branch.count ∙ sym (ap (λ (z : List ℕ). slice_index z c.in-Branch.var) same)

pub tree_of-returns-in_ok-kids-in-Branch-clause-made : goal.tree_of-returns-in_ok-kids-in-Branch-clause-made
tree_of-returns-in_ok-kids-in-Branch-clause-made g t c =
    let m = c.args.model.now in
    let k = length c.args.dds.now in
    let v = g.F.Forest.shows c.trees_of.new.forest in
    let branch = fits-branch m k c.in-Branch.var c.in-Branch.primed c.in-Branch.kids (subst (FitsWith m k) c.in-Branch.is c.requires.fits) in
    let kids = c.in_ok-kids-in-Branch.ensures in
    let same : v.sizes ≡ sizes m = kids.made.made.grows.sizes ∙ c.requires.layout in
    let near : c.in-Branch.var < length (sizes m) = let here = branch.var_in in omega (arith, here, length-sizes m) in
    whole-branch m c.in-Branch.var c.in-Branch.primed c.in-Branch.kids c.args.tree.now c.as_slice.result.now c.in-Branch.is c.as_slice.ensures
    (g.F.Forest.shows c.args.forest.now) v (g.F.Forest.shows c.choose.new.forest) same kids.made.made c.in_ok-kids-in-Branch.kids.items c.deref.result.now c.deref.ensures.value
    kids.stand branch.count near c.choose.result c.choose.ensures.made

-- ---- a list of trees

pub trees_of-returns-in_err-refs-clause-made : goal.trees_of-returns-in_err-refs-clause-made
trees_of-returns-in_err-refs-clause-made g t c =
    let s = g.F.Forest.shows c.args.forest.now in
    let all = flat_map (tree_functions c.args.model.now) c.args.trees.now in
    let made : MakesAll {A = Vec Entry Global} s s all (Err c.in_err-refs.field-0.0) =
    all-out c.in_err-refs.field-0.0 c.in_err-refs.ensures.memory (has-none s c.layout.ensures.sound all) in
    search rules

pub trees_of-tree_of-requires : goal.trees_of-tree_of-requires
trees_of-tree_of-requires g t c κs within =
    let m = c.args.model.now in
    let k = length c.args.dds.now in
    let s = g.F.Forest.shows c.args.forest.now in
    let v = g.F.Forest.shows c.loop-tree.forest in
    let here = c.loop-tree.invariant in
    let layout : v.sizes ≡ sizes m = here.made.grows.sizes ∙ c.requires.layout in
    let dds : StandForTrees v m (take k m.dds) c.args.dds.now = stand-grow here.made.grows c.args.dds.now (map (tree_function m) (take k m.dds)) c.requires.dds in
    let fits : FitsWith m k c.tree-item.result =
    subst (FitsWith m k) (sym c.tree-item.is) (All-get_or (FitsWith m k) c.args.trees.now c.loop-tree.tree-index c.tree-item.result c.loop-tree-test.true c.requires.fit) in
    let deeper : read_tree nesting [] c.tree-item.result ≤ fold max 0 (map (read_tree nesting []) c.args.trees.now) =
    subst (λ (u : Tree). read_tree nesting [] u ≤ fold max 0 (map (read_tree nesting []) c.args.trees.now)) (sym c.tree-item.is)
    (nests-within 0 c.args.trees.now c.loop-tree.tree-index c.tree-item.result c.loop-tree-test.true) in
    search rules

pub trees_of-returns-in_err-made-clause-made : goal.trees_of-returns-in_err-made-clause-made
trees_of-returns-in_err-made-clause-made g t c =
    let m = c.args.model.now in
    let among = subst (λ (u : Tree). Among (tree_functions m u) (flat_map (tree_functions m) c.args.trees.now)) (sym c.tree-item.is)
    (among-flat (tree_functions m) c.args.trees.now c.loop-tree.tree-index c.tree-item.result c.loop-tree-test.true) in
    let made : MakesAll {A = Vec Entry Global} (g.F.Forest.shows c.args.forest.now) (g.F.Forest.shows c.tree_of.new.forest) (flat_map (tree_functions m) c.args.trees.now) (Err c.in_err-made.field-0.0) =
    part-failed c.in_err-made.field-0.0 among c.loop-tree.invariant.made c.in_err-made.ensures.made in
    search rules

pub trees_of-returns-in_err-push-clause-made : goal.trees_of-returns-in_err-push-clause-made
trees_of-returns-in_err-push-clause-made g t c =
    let m = c.args.model.now in
    let among = subst (λ (u : Tree). Among (tree_functions m u) (flat_map (tree_functions m) c.args.trees.now)) (sym c.tree-item.is)
    (among-flat (tree_functions m) c.args.trees.now c.loop-tree.tree-index c.tree-item.result c.loop-tree-test.true) in
    let made : MakesAll {A = Vec Entry Global} (g.F.Forest.shows c.args.forest.now) (g.F.Forest.shows c.tree_of.new.forest) (flat_map (tree_functions m) c.args.trees.now) (Err c.in_err-push.field-0.0) =
    all-out c.in_err-push.field-0.0 c.in_err-push.ensures.memory (has-then among c.loop-tree.invariant.made (has-made c.in_ok-made.ensures.made)) in
    search rules

pub trees_of-loop-tree-preserved : goal.trees_of-loop-tree-preserved
trees_of-loop-tree-preserved g t c =
    let m = c.args.model.now in
    let trees = c.args.trees.now in
    let i = c.loop-tree.tree-index in
    let here = c.loop-tree.invariant in
    let new = c.in_ok-made.ensures.made in
    let among = subst (λ (u : Tree). Among (tree_functions m u) (flat_map (tree_functions m) trees)) (sym c.tree-item.is)
    (among-flat (tree_functions m) trees i c.tree-item.result c.loop-tree-test.true) in
    record {
      made = has-then among here.made (has-made new);
      stand = stand-more (tree_function m) trees i c.tree-item.result new.grows c.loop-tree.refs.items _ c.in_ok-made.made c.loop-tree-test.true c.tree-item.is here.stand new.ok c.in_ok-push.ensures.items;
      keeps = c.tree_of.ensures.keeps ∙ here.keeps;
    }
