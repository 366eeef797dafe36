use Rattle.std.proofs.Common.{rules, ℤ, pos, sym, subst, FitsSigned, arith}
use Rattle.std.proofs.lemmas.Int.{to_z-of_z}
use mir.Syntax.{w128}
use Rattle.spd_scaled.specs.Scaled.{IsWithin}
use Rattle.spd_model.specs.declared.process.Action.{Action}
use Rattle.spd_model.specs.States.{sizes, at}
use Rattle.spd_model.specs.Backup.{low_of, high_of}
use Rattle.spd_model.specs.Turns.{value_limit}
use Rattle.spd_model.proofs.CallerLemmas.Greatest.{max_within}
use Rattle.spd_plain.proofs.Rows.{greatest_one_more}
use Rattle.spd_plain.proofs.backup.best_bounds.Goals as goal

pub loop-number-preserved : goal.loop-number-preserved
loop-number-preserved c =
    let m = c.args.model.now in
    let w = at (sizes m) c.args.values.now in
    let k = c.loop-number.number in
    let best_low_fits : FitsSigned w128 c.loop-number.best.low = search rules in
    let best_high_fits : FitsSigned w128 c.loop-number.best.high = search rules in
    let low_fits : FitsSigned w128 c.in_ok-bounds.bounds.low = search rules in
    let high_fits : FitsSigned w128 c.in_ok-bounds.bounds.high = search rules in
    let low_after : FitsSigned w128 c.max.result = search rules in
    let high_after : FitsSigned w128 c.max-in-loop-number.result = search rules in
    let low = simp to_z-of_z at c.max.ensures.value in
    let high = simp to_z-of_z at c.max-in-loop-number.ensures.value in
    let low_by : Action → ℤ = λ a. low_of m w a c.args.s.now in
    let high_by : Action → ℤ = λ a. high_of m w a c.args.s.now in
    simp to_z-of_z (record {
      some = omega arith;
      low = greatest_one_more low_by c.as_slice-actions.result.now k c.index-actions-number.result _ _ _ c.loop-number.invariant.some c.loop-number-test.true c.index-actions-number.is
          c.loop-number.invariant.low c.in_ok-bounds.ensures.low low;
      high = greatest_one_more high_by c.as_slice-actions.result.now k c.index-actions-number.result _ _ _ c.loop-number.invariant.some c.loop-number-test.true c.index-actions-number.is
          c.loop-number.invariant.high c.in_ok-bounds.ensures.high high;
      limited = record {
        low = subst (IsWithin (pos value_limit)) (sym low) (max_within (pos value_limit) _ _ c.loop-number.invariant.limited.low c.in_ok-bounds.ensures.limited.low);
        high = subst (IsWithin (pos value_limit)) (sym high) (max_within (pos value_limit) _ _ c.loop-number.invariant.limited.high c.in_ok-bounds.ensures.limited.high);
      };
    })
