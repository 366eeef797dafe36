use Rattle.std.proofs.Common.{◌≡◌, ◌∙◌, ◌<◌, ◌≤◌, List, [], length, map, get_or, Ok, Err, ap, refl, sym, subst, arith}
use Rattle.std.specs.List.{AllZip}
use Rattle.spd_cons_core.specs.declared.key.Entry.{Entry}
use Rattle.spd_model.specs.declared.tree.Tree.{Tree}
use Rattle.spd_model.specs.declared.process.Action.{Action}
use Rattle.spd_model.specs.Process.{Process}
use Rattle.spd_nodes.specs.Shown.{StandsFor, MakesAmong}
use Rattle.spd_nodes.proofs.CallerLemmas.{has-made, has-then, has-wider, stand-grow, stand-more, stands-grows}
use Rattle.spd_apply.specs.Applied.{applied}
use Rattle.spd_apply.specs.Operations.{num_of}
use Rattle.spd_build.specs.Building.{HoldNets, all_parts, net_reward, sum_functions}
use Rattle.spd_build.specs.Built.{BuildCause}
use Rattle.spd_build.specs.Functions.{tree_function, reward}
use Rattle.spd_build.proofs.BuildingLaws.{among-refl, gained-among, part-fault, err-gives, err-same, holds-none}
use Rattle.spd_build.proofs.RangeLaws.{none-more, reward-cause, none-wide}
use Rattle.spd_build.proofs.rewards.all_rewards.Goals as goal

pub returns-in_err-gained-clause-part : goal.returns-in_err-gained-clause-part
returns-in_err-gained-clause-part g c =
    let m = c.args.model.now in
    let s = g.F.Forest.shows c.args.forest.now in
    let t = g.F.Forest.shows c.sum_parts.new.forest in
    let e = c.in_err-gained.field-0.0 in
    let parts = c.as_slice.ensures ∙ ap (λ (p : Process). p.reward) c.model.view_is in
    let made = subst (λ (l : List Tree). MakesAmong s t (all_parts m l) (sum_functions m l) (Err e)) parts c.in_err-gained.ensures.made in
    record {
      made = has-wider (gained-among m) (has-made made);
      fault = err-gives c.from_residual-in_err-gained.result e (BuildCause m t) c.from_residual-in_err-gained.ensures.1 (part-fault m t e (gained-among m) made.fault);
    }

pub loop-number-init : goal.loop-number-init
loop-number-init g c =
    let m = c.args.model.now in
    let s = g.F.Forest.shows c.args.forest.now in
    let t = g.F.Forest.shows c.sum_parts.new.forest in
    let parts = c.as_slice.ensures ∙ ap (λ (p : Process). p.reward) c.model.view_is in
    let made = subst (λ (l : List Tree). MakesAmong s t (all_parts m l) (sum_functions m l) (Ok c.in_ok-gained.gained)) parts c.in_ok-gained.ensures.made in
    record {
      made = has-wider (gained-among m) (has-made made);
      gained = made.ok;
      dds = stand-grow made.grows c.args.dds.now (map (tree_function m) m.dds) c.requires.dds;
      stand = subst (λ (l : List Entry). AllZip (StandsFor t) l []) (sym c.in_ok-rewards.ensures.empty) tt;
      limits = refl;
      adds = c.sum_parts.ensures.adds;
      nets = subst (HoldNets t) (sym c.in_ok-nets.ensures) (holds-none (applied (num_of net_reward)) t c.args.memo_size);
      keeps = c.sum_parts.ensures.keeps;
    }

pub returns-in_err-reward-clause-part : goal.returns-in_err-reward-clause-part
returns-in_err-reward-clause-part g c =
    let m = c.args.model.now in
    let k = c.loop-number.number in
    let a = c.action-item.result in
    let t = g.F.Forest.shows c.limited_reward.new.forest in
    let here = c.loop-number.invariant in
    let actions : c.as_slice-action-items.result.now ≡ m.actions = c.as_slice-action-items.ensures ∙ ap (λ (p : Process). p.actions) c.model.view_is in
    let near : k < length m.actions = subst (λ (l : List Action). k < length l) actions c.loop-number-test.true in
    let is : a ≡ get_or m.actions k a = c.action-item.is ∙ ap (λ (l : List Action). get_or l k a) actions in
    record {
      made = has-then among-refl here.made c.in_err-reward.ensures.made;
      fault = err-same c.from_residual-in_err-reward.result c.in_err-reward.field-0.0 (BuildCause m t) c.from_residual-in_err-reward.ensures.1
          (reward-cause m k a near is here.limits t c.in_err-reward.field-0.0 c.requires.sums c.in_err-reward.ensures.range);
    }

pub loop-number-preserved : goal.loop-number-preserved
loop-number-preserved g c =
    let m = c.args.model.now in
    let k = c.loop-number.number in
    let a = c.action-item.result in
    let here = c.loop-number.invariant in
    let new = c.in_ok-reward.ensures in
    let actions : c.as_slice-action-items.result.now ≡ m.actions = c.as_slice-action-items.ensures ∙ ap (λ (p : Process). p.actions) c.model.view_is in
    let near : k < length m.actions = subst (λ (l : List Action). k < length l) actions c.loop-number-test.true in
    let is : a ≡ get_or m.actions k a = c.action-item.is ∙ ap (λ (l : List Action). get_or l k a) actions in
    record {
      made = has-then among-refl here.made new.made;
      gained = stands-grows new.made.grows here.gained;
      dds = stand-grow new.made.grows c.args.dds.now (map (tree_function m) m.dds) here.dds;
      stand = stand-more (reward m) m.actions k a new.made.grows c.loop-number.rewards.items _ c.in_ok-reward.reward near is here.stand new.stand c.in_ok-push.ensures.items;
      limits = none-more m k a near is here.limits new.range;
      adds = c.limited_reward.ensures.adds;
      nets = c.limited_reward.ensures.nets;
      keeps = c.limited_reward.ensures.keeps ∙ here.keeps;
    }

pub returns-clause-limits : goal.returns-clause-limits
returns-clause-limits g c =
    let m = c.args.model.now in
    let actions : c.as_slice-action-items.result.now ≡ m.actions = c.as_slice-action-items.ensures ∙ ap (λ (p : Process). p.actions) c.model.view_is in
    let done : length m.actions ≤ c.loop-number.number = subst (λ (l : List Action). length l ≤ c.loop-number.number) actions (omega arith) in
    none-wide m c.loop-number.number done c.loop-number.invariant.limits
