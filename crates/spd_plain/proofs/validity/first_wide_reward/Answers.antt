use Rattle.std.proofs.Common.{◌∙◌, ap, sym, not, nat_le, unsigned_abs}
use Rattle.spd_model.specs.Process.{Process}
use Rattle.spd_model.specs.Chances.{Reward, reward_limit}
use Rattle.spd_model.proofs.CallerLemmas.Validity.{rewards_after}
use Rattle.spd_plain.specs.inner.Faults.{reward_record}
use Rattle.spd_plain.proofs.FirstFaults.{found_action, no_action, passed_action}
use Rattle.spd_plain.proofs.validity.first_wide_reward.Goals as goal

pub returns-then-is_some : goal.returns-then-is_some
returns-then-is_some c =
    found_action (λ (x : Reward). not (nat_le (unsigned_abs x.value) reward_limit)) (rewards_after c.args.model.now) (c.as_slice-action-items.ensures ∙ ap (λ (m : Process). m.actions) c.model.view_is) c.loop-number.number c.loop-number.invariant
    reward_record c.wide_reward_after-wide.result c.loop-number-test.true c.action-item.result c.action-item.is c.wide_reward_after-wide.ensures (sym c.is_some.ensures ∙ c.if-is_some.true)

pub loop-number-preserved : goal.loop-number-preserved
loop-number-preserved c =
    passed_action (λ (x : Reward). not (nat_le (unsigned_abs x.value) reward_limit)) (rewards_after c.args.model.now) (c.as_slice-action-items.ensures ∙ ap (λ (m : Process). m.actions) c.model.view_is) c.loop-number.number c.loop-number.invariant
    reward_record c.wide_reward_after-wide.result c.loop-number-test.true c.action-item.result c.action-item.is c.wide_reward_after-wide.ensures (sym c.is_some.ensures ∙ c.if-is_some.false)

pub returns : goal.returns
returns c =
    sym (no_action (λ (x : Reward). not (nat_le (unsigned_abs x.value) reward_limit)) (rewards_after c.args.model.now) (c.as_slice-action-items.ensures ∙ ap (λ (m : Process). m.actions) c.model.view_is) c.loop-number.number c.loop-number.invariant
    c.loop-number-test.false)
