use Rattle.std.proofs.Common.{◌≡◌, ◌∙◌, List, map, replicate, pos, ap, sym, subst}
use Rattle.spd_cons_core.specs.declared.key.Entry.{Entry}
use Rattle.spd_nodes.specs.declared.leaf.Leaf.TheVariants.{Num}
use Rattle.spd_nodes.specs.Shown.{Shown, meaning}
use Rattle.spd_nodes.specs.Trees.{Ends}
use Rattle.spd_weigh.specs.Weighing.{AreWeights}
use Rattle.spd_wide_rows.proofs.WeightLaws.{equal-weights}
use Rattle.spd_wide_rows.proofs.summing.sum_equally.Goals as goal

pub sum_out-requires-clause-weights : goal.sum_out-requires-clause-weights
sum_out-requires-clause-weights g c =
    let s = g.F.Forest.shows c.maps_leaves.new.forest in
    let same : s ≡ g.F.Forest.shows c.args.forest.now = c.in_ok-maps_leaves.ensures.same ∙ c.is_whole.ensures.same in
    let leaf : s.tree c.args.weight ≡ Ends (Num (pos c.args.share)) = ap (λ (z : Shown). z.tree c.args.weight) same ∙ c.requires.weight.tree in
    let list : c.deref.result.now ≡ replicate c.args.count c.args.weight = c.deref.ensures.value ∙ c.in_ok-weights.ensures in
    subst (λ (w : List Entry). AreWeights s.sizes c.args.case.var (map (meaning s) w)) (sym list)
    (equal-weights s c.args.weight c.args.share leaf c.args.case.var c.args.count c.requires.one)
