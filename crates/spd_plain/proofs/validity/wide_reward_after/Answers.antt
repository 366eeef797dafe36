use Rattle.std.proofs.Common.{rules, refl, ◌≡◌, ◌∙◌, ℕ, List, [], get_or, ap, sym, not, FitsSigned, arith, length, ◌<◌, ◌≤◌, nat_le, true, false, unsigned_abs}
use Rattle.std.proofs.lemmas.Bool.Decides.{nat_tests}
use Rattle.std.proofs.lemmas.Int.{to_z-of_z}
use mir.Syntax.{w128}
use Rattle.spd_model.specs.States.{sizes, states}
use Rattle.spd_model.specs.Chances.{Reward, reward_of, reward_limit}
use Rattle.spd_model.proofs.CallerLemmas.StateOrder.{length-states}
use Rattle.spd_model.proofs.CallerLemmas.Finds.{find_map_more, find_map_here}
use Rattle.spd_plain.proofs.Tables.{length-all, state_is, state_read}
use Rattle.spd_plain.proofs.validity.wide_reward_after.Goals as goal
use Rattle.spd_plain.proofs.validity.wide_reward_after.Goals.{After-unsigned_abs}

wide_test : (x : ℕ) → x ≤ reward_limit → nat_le x reward_limit ≡ true
wide_test x h = grind (arith, nat_tests)

wide_test_fails : (x : ℕ) → reward_limit < x → nat_le x reward_limit ≡ false
wide_test_fails x h = grind (arith, nat_tests)

abbrev record_of : After-unsigned_abs → List ℕ → Reward
record_of c s = record { action = c.args.number; state = s; value = reward_of c.args.model.now c.args.action.now s }

-- what was found at this state
module _ (c : After-unsigned_abs) where
  near : c.loop-s.s-index < length (states (sizes c.args.model.now))
  near = omega (arith, length-all c.requires.space c.as_slice-s-items.ensures, length-states (sizes c.args.model.now))

  here : (s : List ℕ) → s ≡ c.s-item.result → ◌≡◌ {A = Reward} (record { action = c.args.number; state = s; value = c.reward-value.result }) (record_of c (get_or (states (sizes c.args.model.now)) c.loop-s.s-index []))
  here s is =
      (λ i. record { action = c.args.number; state = is i; value = c.reward-value.ensures i })
      ∙ ap (record_of c) (state_is c.requires.space c.as_slice-s-items.ensures c.loop-s.s-index c.loop-s-test.true c.s-item.is)

pub returns-then-unsigned_abs-gt-REWARD_LIMIT : goal.returns-then-unsigned_abs-gt-REWARD_LIMIT
returns-then-unsigned_abs-gt-REWARD_LIMIT c =
    let p = (goal.at.returns-then-unsigned_abs-gt-REWARD_LIMIT c).After-unsigned_abs in
    let fits : FitsSigned w128 c.reward-value.result = search rules in
    let size = simp to_z-of_z at c.unsigned_abs.ensures.value in
    let above = wide_test_fails (unsigned_abs c.reward-value.result) (omega (arith, size, c.if-unsigned_abs-gt-REWARD_LIMIT.true)) in
    simp to_z-of_z (sym (find_map_here (λ (x : Reward). not (nat_le (unsigned_abs x.value) reward_limit)) (record_of p) (states (sizes c.args.model.now)) c.loop-s.s-index [] (near p) c.loop-s.invariant
    _ (here p c.same_state.result c.same_state.ensures) (ap not above)))

pub loop-s-preserved : goal.loop-s-preserved
loop-s-preserved c =
    let p = (goal.at.loop-s-preserved c).After-unsigned_abs in
    let fits : FitsSigned w128 c.reward-value.result = search rules in
    let size = simp to_z-of_z at c.unsigned_abs.ensures.value in
    let within = wide_test (unsigned_abs c.reward-value.result) (omega (arith, size, c.if-unsigned_abs-gt-REWARD_LIMIT.false)) in
    find_map_more (λ (x : Reward). not (nat_le (unsigned_abs x.value) reward_limit)) (record_of p) (states (sizes c.args.model.now)) c.loop-s.s-index [] (near p) c.loop-s.invariant
    _ (here p c.s-item.result refl) (ap not within)

pub reward-value-requires-clause-state : goal.reward-value-requires-clause-state
reward-value-requires-clause-state c = state_read c.requires.space c.as_slice-s-items.ensures c.loop-s.s-index c.loop-s-test.true c.s-item.is

pub same_state-requires : goal.same_state-requires
same_state-requires c = state_read c.requires.space c.as_slice-s-items.ensures c.loop-s.s-index c.loop-s-test.true c.s-item.is
