use Rattle.std.proofs.Common.{◌≡◌, true, List, All, map, sym, subst, ap, ◌∙◌, to_z, of_z}
use mir.Syntax.{w128}
use Rattle.std.specs.Prelude.{AllPairs}
use Rattle.std.proofs.lemmas.Int.{to_z-of_z}
use Rattle.std.proofs.lemmas.Result.{IfOk-weaker}
use Rattle.spd_model.specs.Ranges.{groups_of}
use Rattle.spd_nodes.specs.declared.leaf.Leaf.{Leaf}
use Rattle.spd_nodes.specs.States.{Function}
use Rattle.spd_nodes.specs.Shown.{Shown, meaning}
use Rattle.spd_apply.specs.Leaves.{AreLeavesOf, leaf_before}
use Rattle.spd_ranges.specs.Merging.{range_at}
use Rattle.spd_ranges.specs.inner.Groups.{is_range, told_by}
use Rattle.spd_ranges.proofs.LeafLaws.{finds, leaves-ranges}
use Rattle.spd_ranges.proofs.merging.groups_at.Goals as goal

pub join_pairs-requires : goal.join_pairs-requires
join_pairs-requires g c =
    let s : Shown = g.F.Forest.shows c.args.forest.now in
    let f : Function = meaning s c.args.pairs in
    let leaves : List Leaf = c.in_ok-leaves.leaves.items in
    let are : AreLeavesOf s.sizes f leaves = c.in_ok-leaves.ensures.ok in
    let same : leaves ≡ c.deref.result.now = sym c.deref.ensures.value in
    record {
      ranges = subst (λ (v : List Leaf). All (λ a. is_range a ≡ true) v) same (leaves-ranges s.sizes f leaves c.requires.ranges.at are);
      ordered = subst (λ (v : List Leaf). AllPairs (λ a b. leaf_before a b ≡ true) v) same are.ascending;
      span = rw (to_z-of_z w128 c.args.span c.ranges.span) c.requires.span;
    }

pub returns-clause-finds : goal.returns-clause-finds
returns-clause-finds g c =
    let s : Shown = g.F.Forest.shows c.args.forest.now in
    let f : Function = meaning s c.args.pairs in
    let leaves : List Leaf = c.in_ok-leaves.leaves.items in
    let are : AreLeavesOf s.sizes f leaves = c.in_ok-leaves.ensures.ok in
    IfOk-weaker c.join_pairs.result _ _
    (λ r e. finds s.sizes c.args.span f leaves r.groups.items c.requires.ranges.at are
    (e ∙ ap (λ v. map told_by (groups_of (to_z w128 (of_z w128 c.args.span)) (map range_at v))) c.deref.ensures.value
    ∙ ap (λ x. map told_by (groups_of x (map range_at leaves))) (to_z-of_z w128 c.args.span c.ranges.span)))
    c.join_pairs.ensures
