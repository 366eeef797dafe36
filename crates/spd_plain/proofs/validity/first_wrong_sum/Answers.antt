use Rattle.std.proofs.Common.{◌∙◌, ap, sym, not}
use Rattle.std.specs.Ordering.{int_eq}
use Rattle.spd_model.specs.Process.{Process}
use Rattle.spd_model.specs.Chances.{Sum, one}
use Rattle.spd_model.proofs.CallerLemmas.Validity.{sums_after}
use Rattle.spd_plain.specs.inner.Faults.{sum_record}
use Rattle.spd_plain.proofs.FirstFaults.{found_action, no_action, passed_action}
use Rattle.spd_plain.proofs.validity.first_wrong_sum.Goals as goal

pub returns-then-is_some : goal.returns-then-is_some
returns-then-is_some c =
    found_action (λ (x : Sum). not (int_eq x.sum one)) (sums_after c.args.model.now) (c.as_slice-action-items.ensures ∙ ap (λ (m : Process). m.actions) c.model.view_is) c.loop-number.number c.loop-number.invariant
    sum_record c.wrong_sum_after-wrong.result c.loop-number-test.true c.action-item.result c.action-item.is c.wrong_sum_after-wrong.ensures (sym c.is_some.ensures ∙ c.if-is_some.true)

pub loop-number-preserved : goal.loop-number-preserved
loop-number-preserved c =
    passed_action (λ (x : Sum). not (int_eq x.sum one)) (sums_after c.args.model.now) (c.as_slice-action-items.ensures ∙ ap (λ (m : Process). m.actions) c.model.view_is) c.loop-number.number c.loop-number.invariant
    sum_record c.wrong_sum_after-wrong.result c.loop-number-test.true c.action-item.result c.action-item.is c.wrong_sum_after-wrong.ensures (sym c.is_some.ensures ∙ c.if-is_some.false)

pub returns : goal.returns
returns c =
    sym (no_action (λ (x : Sum). not (int_eq x.sum one)) (sums_after c.args.model.now) (c.as_slice-action-items.ensures ∙ ap (λ (m : Process). m.actions) c.model.view_is) c.loop-number.number c.loop-number.invariant
    c.loop-number-test.false)
