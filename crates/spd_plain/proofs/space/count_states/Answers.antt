use Rattle.std.proofs.Common.{◌∙◌, ◌<◌, ◌*◌, suc, ℕ, length, take, nat_lt, ap, sym, subst, arith, add-one}
use Rattle.spd_model.specs.Process.{Process}
use Rattle.spd_model.specs.Lawful.{IsLawful}
use Rattle.spd_model.specs.Numbers.{numbers_below}
use Rattle.spd_model.specs.States.{sizes, state_count}
use Rattle.spd_model.proofs.CallerLemmas.Finds.{find_map_here, find_map_more}
use Rattle.spd_model.proofs.CallerLemmas.Lists.{length-numbers_below, get_or-numbers_below}
use Rattle.spd_model.proofs.CallerLemmas.StateOrder.{next_product, size_read, sizes_some}
use Rattle.spd_plain.specs.Space.{state_limit}
use Rattle.spd_plain.proofs.Products.{state_count-take-le, lt_holds, lt_fails}
use Rattle.spd_plain.proofs.space.count_states.Goals as goal

pub returns-then-count-gt-STATE_LIMIT-clause-passed : goal.returns-then-count-gt-STATE_LIMIT-clause-passed
returns-then-count-gt-STATE_LIMIT-clause-passed c =
    let m = c.args.model.now in
    let law = subst IsLawful c.model.view_is c.model.invariant in
    let k = c.loop-var.var-index in
    let vars = c.as_slice-var-items.ensures ∙ ap (λ (m : Process). m.vars) c.model.view_is in
    let near : k < length m.vars = omega (arith, ap length vars, c.loop-var-test.true) in
    let is = next_product m k c.loop-var.count c.len-count.result near c.loop-var.invariant.count (c.len-count.ensures ∙ size_read m c.as_slice-var-items.result.now k c.var-item.result vars c.loop-var-test.true c.var-item.is) in (
      omega (arith, is, state_count-take-le (sizes m) (suc k) (sizes_some m law), c.if-count-gt-STATE_LIMIT.true),
      find_map_here (nat_lt state_limit) (λ n. state_count (take (suc n) (sizes m))) (numbers_below (length m.vars)) k 0 (omega (arith, length-numbers_below (length m.vars))) c.loop-var.invariant.none
          (c.loop-var.count * c.len-count.result) (is ∙ ap (λ (n : ℕ). state_count (take (suc n) (sizes m))) (sym (get_or-numbers_below (length m.vars) k near))) (lt_holds 4096 _ c.if-count-gt-STATE_LIMIT.true),
    )

pub loop-var-preserved : goal.loop-var-preserved
loop-var-preserved c =
    let m = c.args.model.now in
    let k = c.loop-var.var-index in
    let vars = c.as_slice-var-items.ensures ∙ ap (λ (m : Process). m.vars) c.model.view_is in
    let near : k < length m.vars = omega (arith, ap length vars, c.loop-var-test.true) in
    let is = next_product m k c.loop-var.count c.len-count.result near c.loop-var.invariant.count (c.len-count.ensures ∙ size_read m c.as_slice-var-items.result.now k c.var-item.result vars c.loop-var-test.true c.var-item.is) in
    record {
      count = is ∙ ap (λ (n : ℕ). state_count (take n (sizes m))) (sym (add-one k));
      few = c.if-count-gt-STATE_LIMIT.false;
      none = find_map_more (nat_lt state_limit) (λ n. state_count (take (suc n) (sizes m))) (numbers_below (length m.vars)) k 0 (omega (arith, length-numbers_below (length m.vars))) c.loop-var.invariant.none
          (c.loop-var.count * c.len-count.result) (is ∙ ap (λ (n : ℕ). state_count (take (suc n) (sizes m))) (sym (get_or-numbers_below (length m.vars) k near))) (lt_fails 4096 _ c.if-count-gt-STATE_LIMIT.false);
    }
