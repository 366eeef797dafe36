use Rattle.std.proofs.Common.{◌∙◌, ◌<◌, ℕ, length, take, ap, sym, arith, add-one}
use Rattle.spd_model.specs.Process.{Process}
use Rattle.spd_model.specs.States.{sizes, state_count}
use Rattle.spd_model.proofs.CallerLemmas.StateOrder.{next_product, size_read}
use Rattle.spd_stage_rows.proofs.values.count_states.Goals as goal

pub loop-var-preserved : goal.loop-var-preserved
loop-var-preserved c =
    let m = c.args.model.now in
    let k = c.loop-var.var-index in
    let vars = c.as_slice-var-items.ensures ∙ ap (λ (m : Process). m.vars) c.model.view_is in
    let near : k < length m.vars = omega (arith, ap length vars, c.loop-var-test.true) in
    let is = next_product m k c.loop-var.count c.len-count.result near c.loop-var.invariant.count (c.len-count.ensures ∙ size_read m c.as_slice-var-items.result.now k c.var-item.result vars c.loop-var-test.true c.var-item.is) in
    record {
      count = is ∙ ap (λ (n : ℕ). state_count (take n (sizes m))) (sym (add-one k));
      few = c.if-count-gt-STATE_LIMIT.false;
    }
