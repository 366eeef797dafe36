use Rattle.std.proofs.Common.{rules, ◌∙◌, ◌^◌, ◌≤◌, ◌<◌, ◌*◌, [], ℕ, ap, get_or, FitsSigned, arith, suc, add-one}
use Rattle.std.proofs.Math.Nat.{mul-le-mul_left}
use Rattle.std.proofs.lemmas.Int.{to_z-of_z}
use mir.Syntax.{w128}
use Rattle.spd_model.specs.States.{states}
use Rattle.spd_model.specs.Chances.{sizes_after, probability}
use Rattle.spd_model.proofs.CallerLemmas.Sums.{sum_below_more}
use Rattle.spd_plain.specs.inner.Chances.{chance_of}
use Rattle.spd_plain.proofs.Sums.{within_more, sum_fits}
use Rattle.spd_plain.proofs.Tables.{axis_more}
use Rattle.spd_plain.proofs.chances.chance_sum.Goals as goal

few_values : (size after place v : ℕ) → size * after ≤ 4096 → place < after → v < size → suc v ≤ 2097152
few_values size after place v few near below = let more : size * 1 ≤ size * after = mul-le-mul_left size (omega arith) in omega arith

pub overflow_add-sum : goal.overflow_add-sum
overflow_add-sum c =
    let chance : FitsSigned w128 c.chance_at-sum.result = search rules in
    let within = within_more c.loop-value.value (10 ^ 30) _ c.chance_at-sum.result c.loop-value.invariant.within c.chance_at-sum.ensures.within in
    simp to_z-of_z (sum_fits (suc c.loop-value.value) _ (few_values c.args.axis.now.size c.args.axis.now.after c.args.place c.loop-value.value c.requires.axis.few c.requires.place c.loop-value-test.true) (rw add-one at within))

pub loop-value-preserved : goal.loop-value-preserved
loop-value-preserved c =
    let m = c.args.model.now in
    let i = c.args.axis.now.var in
    let v = c.loop-value.value in
    let chance : FitsSigned w128 c.chance_at-sum.result = search rules in
    let within = within_more v (10 ^ 30) _ c.chance_at-sum.result c.loop-value.invariant.within c.chance_at-sum.ensures.within in
    let fits = sum_fits (suc v) _ (few_values c.args.axis.now.size c.args.axis.now.after c.args.place v c.requires.axis.few c.requires.place c.loop-value-test.true) (rw add-one at within) in
    let here = c.chance_at-sum.ensures.value ∙ ap (chance_of m c.args.action.now c.args.s.now i) (axis_more m c.args.axis.now c.requires.axis v c.args.place c.loop-value-test.true c.requires.place) in
    record {
      sum = simp to_z-of_z (sum_below_more (λ v. probability m c.args.action.now c.args.s.now i v (get_or (states (sizes_after m i)) c.args.place [])) v _ _ c.loop-value.invariant.sum here);
      within = simp to_z-of_z within;
    }
