use Rattle.std.proofs.Common.{List, map, sym, subst}
use Rattle.std.specs.List.{AllZip}
use Rattle.spd_cons_core.specs.declared.key.Entry.{Entry}
use Rattle.spd_nodes.specs.Shown.{StandsFor}
use Rattle.spd_nodes.proofs.CallerLemmas.{grows-then, has-made, has-then, has-wider, stand-grow}
use Rattle.spd_build.specs.Built.{BuildCause}
use Rattle.spd_build.specs.Fitting.{StandForTrees}
use Rattle.spd_build.specs.Functions.{tree_function, all_weights, reward}
use Rattle.spd_build.proofs.BuildingLaws.{among-refl, dds-among, tables-among, start-among, part-fault, table-cause, err-gives, err-same}
use Rattle.spd_build.proofs.drawing.draw.Goals as goal

pub returns-in_err-dds-clause-part : goal.returns-in_err-dds-clause-part
returns-in_err-dds-clause-part g c =
    let m = c.args.model.now in
    let t = g.F.Forest.shows c.dds_of.new.forest in
    let e = c.in_err-dds.field-0.0 in
    let here = c.in_err-dds.ensures.made in
    record {
      made = has-wider (dds-among m) here.made;
      fault = err-gives c.from_residual-in_err-dds.result e (BuildCause m t) c.from_residual-in_err-dds.ensures.1 (part-fault m t e (dds-among m) here.fault);
    }

pub returns-in_err-weights-clause-part : goal.returns-in_err-weights-clause-part
returns-in_err-weights-clause-part g c =
    let m = c.args.model.now in
    let t = g.F.Forest.shows c.all_weights.new.forest in
    let e = c.in_err-weights.field-0.0 in
    record {
      made = has-then (tables-among m) (has-wider (dds-among m) c.in_ok-dds.ensures.made.made) c.in_err-weights.ensures.made;
      fault = err-same c.from_residual-in_err-weights.result e (BuildCause m t) c.from_residual-in_err-weights.ensures.1 (table-cause m t e c.in_err-weights.ensures.fault);
    }

pub all_rewards-requires-clause-dds : goal.all_rewards-requires-clause-dds
all_rewards-requires-clause-dds g c =
    let m = c.args.model.now in
    let t = g.F.Forest.shows c.all_weights.new.forest in
    subst (StandForTrees t m m.dds) (sym c.deref-2.ensures.value)
    (stand-grow c.in_ok-weights.ensures.made.grows c.in_ok-dds.dds.items (map (tree_function m) m.dds) c.in_ok-dds.ensures.stand)

pub returns-in_err-rewards-clause-part : goal.returns-in_err-rewards-clause-part
returns-in_err-rewards-clause-part g c =
    let m = c.args.model.now in
    let t = g.F.Forest.shows c.all_rewards.new.forest in
    let e = c.in_err-rewards.field-0.0 in
    let before = has-then (tables-among m) (has-wider (dds-among m) c.in_ok-dds.ensures.made.made) c.in_ok-weights.ensures.made in
    let here = c.in_err-rewards.ensures.part in
    record {
      made = has-then among-refl before here.made;
      fault = err-same c.from_residual-in_err-rewards.result e (BuildCause m t) c.from_residual-in_err-rewards.ensures.1 here.fault;
    }

pub returns-in_err-start-clause-part : goal.returns-in_err-start-clause-part
returns-in_err-start-clause-part g c =
    let m = c.args.model.now in
    let t = g.F.Forest.shows c.all_rewards.new.forest in
    let v = g.F.Forest.shows c.greatest_of.new.forest in
    let e = c.in_err-start.field-0.0 in
    let before = has-then (tables-among m) (has-wider (dds-among m) c.in_ok-dds.ensures.made.made) c.in_ok-weights.ensures.made in
    let stand = subst (λ (l : List Entry). AllZip (StandsFor t) l (map (reward m) m.actions)) (sym c.deref-3.ensures.value) c.in_ok-rewards.ensures.stand in
    let here = c.in_err-start.ensures.made m stand in
    record {
      made = has-then (start-among m) (has-then among-refl before c.in_ok-rewards.ensures.part.made) (has-made here);
      fault = err-gives c.from_residual-in_err-start.result e (BuildCause m v) c.from_residual-in_err-start.ensures.1 (part-fault m v e (start-among m) here.fault);
    }

pub returns-clause-part : goal.returns-clause-part
returns-clause-part g c =
    let m = c.args.model.now in
    let t = g.F.Forest.shows c.all_rewards.new.forest in
    let before = has-then (tables-among m) (has-wider (dds-among m) c.in_ok-dds.ensures.made.made) c.in_ok-weights.ensures.made in
    let stand = subst (λ (l : List Entry). AllZip (StandsFor t) l (map (reward m) m.actions)) (sym c.deref-3.ensures.value) c.in_ok-rewards.ensures.stand in
    record {
      made = has-then (start-among m) (has-then among-refl before c.in_ok-rewards.ensures.part.made) (has-made (c.in_ok-start.ensures.made m stand));
      fault = tt;
    }

pub returns-clause-drawn : goal.returns-clause-drawn
returns-clause-drawn g c =
    let m = c.args.model.now in
    let t = g.F.Forest.shows c.all_rewards.new.forest in
    let stand = subst (λ (l : List Entry). AllZip (StandsFor t) l (map (reward m) m.actions)) (sym c.deref-3.ensures.value) c.in_ok-rewards.ensures.stand in
    let start = c.in_ok-start.ensures.made m stand in
    record {
      sums = c.in_ok-weights.ensures.sums;
      limits = c.in_ok-rewards.ensures.limits;
      weights = stand-grow (grows-then c.in_ok-rewards.ensures.part.made.grows start.grows) c.in_ok-weights.weights.items (all_weights m) c.in_ok-weights.ensures.stand;
      rewards = stand-grow start.grows c.in_ok-rewards.rewards.items (map (reward m) m.actions) c.in_ok-rewards.ensures.stand;
      start = start.ok;
    }
