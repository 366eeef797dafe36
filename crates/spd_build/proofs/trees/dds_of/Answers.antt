use Rattle.std.proofs.Common.{rules, ◌≡◌, ◌+◌, ◌<◌, ◌∙◌, ℕ, List, length, flat_map, get_or, Err, ap, sym, subst, Vec, Global}
use Rattle.spd_cons_core.specs.declared.key.Entry.{Entry}
use Rattle.spd_model.specs.declared.tree.Tree.{Tree}
use Rattle.spd_model.specs.Process.{Process}
use Rattle.spd_model.specs.Lawful.{IsLawful}
use Rattle.spd_build.specs.Functions.{tree_function, tree_functions}
use Rattle.spd_build.specs.Fitting.{FitsWith}
use Rattle.spd_nodes.specs.Made.{MakesAll}
use Rattle.std.proofs.lemmas.List.{length_push}
use Rattle.spd_build.proofs.FittingLaws.{dd-fits}
use Rattle.spd_build.proofs.trees.dds_of.Goals as goal
use Rattle.spd_nodes.proofs.CallerLemmas.{Among, all-out, among-flat, has-made, has-none, has-then, part-failed, stand-more}

pub tree_of-requires-clause-fits : goal.tree_of-requires-clause-fits
tree_of-requires-clause-fits g c =
    let m = c.args.model.now in
    let i = c.loop-tree.tree-index in
    let item = c.tree-item.result in
    let law : IsLawful m = subst IsLawful c.model.view_is c.model.invariant in
    let trees = c.as_slice-trees.ensures ∙ ap (λ (p : Process). p.dds) c.model.view_is in
    let count : length c.deref.result.now ≡ i = ap length c.deref.ensures.value ∙ c.loop-tree.invariant.count in
    let near = subst (λ (l : List Tree). i < length l) trees c.loop-tree-test.true in
    let is = c.tree-item.is ∙ ap (λ (l : List Tree). get_or l i item) trees in
    subst (λ (n : ℕ). FitsWith m n item) (sym count) (subst (FitsWith m i) (sym is) (dd-fits m law i item near))

pub returns-in_err-dds-clause-made : goal.returns-in_err-dds-clause-made
returns-in_err-dds-clause-made g c =
    let s = g.F.Forest.shows c.args.forest.now in
    let all = flat_map (tree_functions c.args.model.now) c.args.model.now.dds in
    let made : MakesAll {A = Vec Entry Global} s s all (Err c.in_err-dds.field-0.0) =
    all-out c.in_err-dds.field-0.0 c.in_err-dds.ensures.memory (has-none s c.layout.ensures.sound all) in
    search rules

pub returns-in_err-made-clause-made : goal.returns-in_err-made-clause-made
returns-in_err-made-clause-made g c =
    let m = c.args.model.now in
    let old = g.F.Forest.shows c.args.forest.now in
    let here = g.F.Forest.shows c.loop-tree.forest in
    let trees = c.as_slice-trees.ensures ∙ ap (λ (p : Process). p.dds) c.model.view_is in
    let list = c.as_slice-trees.result.now in
    let among = subst (λ (u : Tree). Among (tree_functions m u) (flat_map (tree_functions m) list)) (sym c.tree-item.is)
    (among-flat (tree_functions m) list c.loop-tree.tree-index c.tree-item.result c.loop-tree-test.true) in
    let made : MakesAll {A = Vec Entry Global} old (g.F.Forest.shows c.tree_of.new.forest) (flat_map (tree_functions m) m.dds) (Err c.in_err-made.field-0.0) =
    subst (λ (l : List Tree). MakesAll {A = Vec Entry Global} old (g.F.Forest.shows c.tree_of.new.forest) (flat_map (tree_functions m) l) (Err c.in_err-made.field-0.0)) trees
    (part-failed c.in_err-made.field-0.0 among c.loop-tree.invariant.made c.in_err-made.ensures.made) in
    search rules

pub returns-in_err-push-clause-made : goal.returns-in_err-push-clause-made
returns-in_err-push-clause-made g c =
    let m = c.args.model.now in
    let old = g.F.Forest.shows c.args.forest.now in
    let trees = c.as_slice-trees.ensures ∙ ap (λ (p : Process). p.dds) c.model.view_is in
    let list = c.as_slice-trees.result.now in
    let among = subst (λ (u : Tree). Among (tree_functions m u) (flat_map (tree_functions m) list)) (sym c.tree-item.is)
    (among-flat (tree_functions m) list c.loop-tree.tree-index c.tree-item.result c.loop-tree-test.true) in
    let made : MakesAll {A = Vec Entry Global} old (g.F.Forest.shows c.tree_of.new.forest) (flat_map (tree_functions m) m.dds) (Err c.in_err-push.field-0.0) =
    subst (λ (l : List Tree). MakesAll {A = Vec Entry Global} old (g.F.Forest.shows c.tree_of.new.forest) (flat_map (tree_functions m) l) (Err c.in_err-push.field-0.0)) trees
    (all-out c.in_err-push.field-0.0 c.in_err-push.ensures.memory (has-then among c.loop-tree.invariant.made (has-made c.in_ok-made.ensures.made))) in
    search rules

pub loop-tree-preserved : goal.loop-tree-preserved
loop-tree-preserved g c =
    let m = c.args.model.now in
    let list = c.as_slice-trees.result.now in
    let i = c.loop-tree.tree-index in
    let here = c.loop-tree.invariant in
    let new = c.in_ok-made.ensures.made in
    let among = subst (λ (u : Tree). Among (tree_functions m u) (flat_map (tree_functions m) list)) (sym c.tree-item.is)
    (among-flat (tree_functions m) list i c.tree-item.result c.loop-tree-test.true) in
    record {
      made = has-then among here.made (has-made new);
      stand = stand-more (tree_function m) list i c.tree-item.result new.grows c.loop-tree.dds.items _ c.in_ok-made.made c.loop-tree-test.true c.tree-item.is here.stand new.ok c.in_ok-push.ensures.items;
      count = ap length c.in_ok-push.ensures.items ∙ length_push c.loop-tree.dds.items c.in_ok-made.made ∙ ap (λ (n : ℕ). n + 1) here.count;
      keeps = c.tree_of.ensures.keeps ∙ here.keeps;
    }
