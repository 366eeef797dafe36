use Rattle.std.proofs.Common.{sym, subst}
use Rattle.spd_nodes.specs.Made.{HasMade}
use Rattle.spd_nodes.specs.Shown.{Shown}
use Rattle.spd_nodes.proofs.CallerLemmas.{fault-wider, has-made, has-wider}
use Rattle.spd_build.specs.Building.{HoldAdds}
use Rattle.spd_build.specs.Functions.{building_functions}
use Rattle.spd_build.specs.Ranges.{RewardCause}
use Rattle.spd_build.proofs.BuildingLaws.{net-among, reward-fault, match-gives}
use Rattle.spd_build.proofs.rewards.limited_reward.Goals as goal

pub returns-in_err-reward-clause-made : goal.returns-in_err-reward-clause-made
returns-in_err-reward-clause-made g c =
    has-wider (net-among c.args.model.now c.args.action.now c.requires.action) (has-made c.in_err-reward.ensures.made)

pub returns-in_err-reward-clause-range : goal.returns-in_err-reward-clause-range
returns-in_err-reward-clause-range g c =
    let m = c.args.model.now in
    let a = c.args.action.now in
    let t = g.F.Forest.shows c.reward_after.new.forest in
    let e = c.in_err-reward.field-0.0 in
    match-gives c.from_residual.result e _ (RewardCause m (c.args.number, a) t) c.from_residual.ensures.1
    (reward-fault m (c.args.number, a) t e (fault-wider e t (net-among m a c.requires.action) c.in_err-reward.ensures.made.fault))

pub returns-in_err-test_range-clause-made : goal.returns-in_err-test_range-clause-made
returns-in_err-test_range-clause-made g c =
    let m = c.args.model.now in
    subst (λ (v : Shown). HasMade (g.F.Forest.shows c.args.forest.now) v (building_functions m)) (sym c.test_range.ensures.same)
    (has-wider (net-among m c.args.action.now c.requires.action) (has-made c.in_ok-reward.ensures.made))

pub returns-in_err-test_range-clause-adds : goal.returns-in_err-test_range-clause-adds
returns-in_err-test_range-clause-adds g c =
    subst (λ (v : Shown). HoldAdds v c.reward_after.new.adds) (sym c.test_range.ensures.same) c.reward_after.ensures.adds

pub returns-clause-made : goal.returns-clause-made
returns-clause-made g c =
    let m = c.args.model.now in
    subst (λ (v : Shown). HasMade (g.F.Forest.shows c.args.forest.now) v (building_functions m)) (sym c.test_range.ensures.same)
    (has-wider (net-among m c.args.action.now c.requires.action) (has-made c.in_ok-reward.ensures.made))

pub returns-clause-adds : goal.returns-clause-adds
returns-clause-adds g c =
    subst (λ (v : Shown). HoldAdds v c.reward_after.new.adds) (sym c.test_range.ensures.same) c.reward_after.ensures.adds
