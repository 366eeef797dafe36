use Rattle.std.proofs.Common.{rules, ◌^◌, ◌∙◌, ap, sym, subst, FitsSigned, arith, suc, add-one}
use Rattle.std.proofs.lemmas.Int.{to_z-of_z}
use mir.Syntax.{w128}
use Rattle.spd_scaled.specs.Scaled.{IsWithin}
use Rattle.spd_model.specs.Trees.{value_of}
use Rattle.spd_model.specs.Lawful.{IsReward}
use Rattle.spd_model.proofs.CallerLemmas.TreeValues.{value_within}
use Rattle.spd_model.proofs.CallerLemmas.Sums.{total_more}
use Rattle.spd_plain.proofs.Sums.{within_more, sum_fits}
use Rattle.spd_plain.proofs.validity.total_of.Goals as goal

pub overflow_add-sum : goal.overflow_add-sum
overflow_add-sum c =
    let m = c.args.model.now in
    let s = c.args.s.now in
    let tree = c.tree-item.result in
    let value : FitsSigned w128 c.value-sum.result = search rules in
    let lawful : IsReward m tree = subst (IsReward m) (sym c.tree-item.is) (c.requires.trees.each c.loop-tree.tree-index tree c.loop-tree-test.true) in
    let small = subst (IsWithin _) (sym c.value-sum.ensures) (value_within m tree s s lawful.form.fits) in
    let within = within_more c.loop-tree.tree-index (10 ^ 30) _ c.value-sum.result c.loop-tree.invariant.within small in
    let fits = sum_fits (suc c.loop-tree.tree-index) _ (omega arith) (rw add-one at within) in
    simp to_z-of_z fits

pub loop-tree-preserved : goal.loop-tree-preserved
loop-tree-preserved c =
    let m = c.args.model.now in
    let s = c.args.s.now in
    let tree = c.tree-item.result in
    let value : FitsSigned w128 c.value-sum.result = search rules in
    let lawful : IsReward m tree = subst (IsReward m) (sym c.tree-item.is) (c.requires.trees.each c.loop-tree.tree-index tree c.loop-tree-test.true) in
    let small = subst (IsWithin _) (sym c.value-sum.ensures) (value_within m tree s s lawful.form.fits) in
    let within = within_more c.loop-tree.tree-index (10 ^ 30) _ c.value-sum.result c.loop-tree.invariant.within small in
    let fits = sum_fits (suc c.loop-tree.tree-index) _ (omega arith) (rw add-one at within) in
    record {
      sum = simp to_z-of_z (total_more (λ tree. value_of m tree s s) c.args.trees.now c.loop-tree.tree-index tree _ _ c.loop-tree-test.true c.loop-tree.invariant.sum
          (c.value-sum.ensures ∙ ap (λ tree. value_of m tree s s) c.tree-item.is));
      within = simp to_z-of_z within;
    }
