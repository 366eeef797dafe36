use Rattle.std.proofs.Common.{◌∙◌, sym, subst, refl, IfOk}
use Rattle.spd_nodes.specs.Made.{MakesAll}
use Rattle.spd_nodes.proofs.CallerLemmas.{stand-grow}
use Rattle.spd_model.proofs.CallerLemmas.Results.{err_is}
use Rattle.spd_backup.specs.declared.thawed.Thawed.{Thawed}
use Rattle.spd_backup.specs.FromBuilt.{listed_weights, listed_rewards, thaw_functions, IsThawedFrom}
use Rattle.spd_backup.proofs.BuiltLaws.{weights-failed, rewards-failed, both-thawed, process-thawed}
use Rattle.spd_backup.proofs.thawing.thaw_built.Goals as goal

-- ---- where the weights aren't made

pub returns-in_err-weights-clause-made : goal.returns-in_err-weights-clause-made
returns-in_err-weights-clause-made g c =
    let s = g.F.Forest.shows c.args.forest.now in
    let t = g.F.Forest.shows c.thaw_parts.new.forest in
    let b = c.args.built.now in
    subst (MakesAll {A = Thawed} s t (thaw_functions b)) (sym (err_is c.from_residual-in_err-weights.result c.in_err-weights.field-0.0 c.from_residual-in_err-weights.ensures.1))
    (weights-failed s t (listed_weights b) (listed_rewards b) c.in_err-weights.field-0.0 (rw c.as_slice-2.ensures.value at c.in_err-weights.ensures.made))

pub returns-in_err-weights-clause-process : goal.returns-in_err-weights-clause-process
returns-in_err-weights-clause-process g c = λ m law valid built same.
    let s = g.F.Forest.shows c.args.forest.now in
    let t = g.F.Forest.shows c.thaw_parts.new.forest in
    let b = c.args.built.now in
    process-thawed m law valid s c.layout.ensures.sound b built same t c.from_residual-in_err-weights.result (returns-in_err-weights-clause-made g c)
    (subst (λ r. IfOk r (IsThawedFrom b t)) (sym (err_is c.from_residual-in_err-weights.result c.in_err-weights.field-0.0 c.from_residual-in_err-weights.ensures.1)) tt)

-- ---- where the rewards aren't made

pub returns-in_err-rewards-clause-made : goal.returns-in_err-rewards-clause-made
returns-in_err-rewards-clause-made g c =
    let s = g.F.Forest.shows c.args.forest.now in
    let t = g.F.Forest.shows c.thaw_parts.new.forest in
    let v = g.F.Forest.shows c.thaw_parts-2.new.forest in
    let b = c.args.built.now in
    subst (MakesAll {A = Thawed} s v (thaw_functions b)) (sym (err_is c.from_residual-in_err-rewards.result c.in_err-rewards.field-0.0 c.from_residual-in_err-rewards.ensures.1))
    (rewards-failed s t v (listed_weights b) (listed_rewards b) c.in_ok-weights.weights c.in_err-rewards.field-0.0 (rw c.as_slice-2.ensures.value at c.in_ok-weights.ensures.made) (rw c.as_slice-3.ensures.value at c.in_err-rewards.ensures.made))

pub returns-in_err-rewards-clause-process : goal.returns-in_err-rewards-clause-process
returns-in_err-rewards-clause-process g c = λ m law valid built same.
    let s = g.F.Forest.shows c.args.forest.now in
    let v = g.F.Forest.shows c.thaw_parts-2.new.forest in
    let b = c.args.built.now in
    process-thawed m law valid s c.layout.ensures.sound b built same v c.from_residual-in_err-rewards.result (returns-in_err-rewards-clause-made g c)
    (subst (λ r. IfOk r (IsThawedFrom b v)) (sym (err_is c.from_residual-in_err-rewards.result c.in_err-rewards.field-0.0 c.from_residual-in_err-rewards.ensures.1)) tt)

-- ---- both

pub returns-clause-made : goal.returns-clause-made
returns-clause-made g c =
    let s = g.F.Forest.shows c.args.forest.now in
    let t = g.F.Forest.shows c.thaw_parts.new.forest in
    let v = g.F.Forest.shows c.thaw_parts-2.new.forest in
    let b = c.args.built.now in
    both-thawed s t v (listed_weights b) (listed_rewards b) c.in_ok-weights.weights c.in_ok-rewards.rewards _ (rw c.as_slice-2.ensures.value at c.in_ok-weights.ensures.made) (rw c.as_slice-3.ensures.value at c.in_ok-rewards.ensures.made)

pub returns-clause-ok : goal.returns-clause-ok
returns-clause-ok g c =
    let b = c.args.built.now in
    record {
      weights = stand-grow c.in_ok-rewards.ensures.made.made.grows c.in_ok-weights.weights.items (listed_weights b) (rw c.as_slice-2.ensures.value at c.in_ok-weights.ensures.stand);
      rewards = rw c.as_slice-3.ensures.value at c.in_ok-rewards.ensures.stand;
      own = c.in_ok-sizes.ensures.same ∙ c.as_slice.ensures.value;
      discount = refl;
    }

pub returns-clause-process : goal.returns-clause-process
returns-clause-process g c = λ m law valid built same.
    process-thawed m law valid (g.F.Forest.shows c.args.forest.now) c.layout.ensures.sound c.args.built.now built same (g.F.Forest.shows c.thaw_parts-2.new.forest) _ (returns-clause-made g c) (returns-clause-ok g c)
