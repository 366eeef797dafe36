use Rattle.std.proofs.Common.{rules, ◌∙◌, [], map, get_or, refl, subst, arith, ◌<◌, FitsSigned}
use Rattle.std.proofs.lemmas.Int.{to_z-of_z}
use mir.Syntax.{w128}
use Rattle.spd_model.specs.Lawful.{IsLawful}
use Rattle.spd_model.specs.Numbers.{greatest}
use Rattle.spd_model.specs.States.{sizes, states, state_count}
use Rattle.spd_model.specs.Chances.{reward_of}
use Rattle.spd_model.proofs.CallerLemmas.StateOrder.{length-states}
use Rattle.spd_plain.proofs.Rows.{length-rows, row_read, row_some, rewards_at, plain_more, table_done}
use Rattle.spd_plain.proofs.sweep.start.Goals as goal

pub best_reward-requires : goal.best_reward-requires
best_reward-requires c =
    let m = c.args.model.now in
    let law = subst IsLawful c.model.view_is c.model.invariant in
    let k = c.loop-row.row-index in
    let near : k < state_count (sizes m) = omega (arith, c.loop-row-test.true, length-rows m c.args.rows.now c.requires.rows) in
    row_some m law.some_actions (get_or (states (sizes m)) k []) _ (c.as_slice.ensures ∙ row_read m c.args.rows.now k c.row-item.result (get_or (states (sizes m)) k []) c.requires.rows near c.row-item.is refl)

pub loop-row-preserved : goal.loop-row-preserved
loop-row-preserved c =
    let m = c.args.model.now in
    let k = c.loop-row.row-index in
    let near : k < state_count (sizes m) = omega (arith, c.loop-row-test.true, length-rows m c.args.rows.now c.requires.rows) in
    let fits : FitsSigned w128 c.best_reward.result = search rules in
    let row = c.as_slice.ensures ∙ row_read m c.args.rows.now k c.row-item.result (get_or (states (sizes m)) k []) c.requires.rows near c.row-item.is refl in
    let here = c.best_reward.ensures ∙ rewards_at m (get_or (states (sizes m)) k []) c.as_slice.result.now row in
    plain_more (λ s. greatest (map (λ a. reward_of m a s) m.actions)) (states (sizes m)) k [] c.loop-row.values.items _ _ (omega (arith, near, length-states (sizes m))) c.loop-row.invariant (simp to_z-of_z at c.in_ok-push.ensures.items) here

pub returns : goal.returns
returns c =
    let m = c.args.model.now in
    table_done (λ s. greatest (map (λ a. reward_of m a s) m.actions)) (states (sizes m)) c.loop-row.row-index c.loop-row.values.items
    (omega (arith, length-rows m c.args.rows.now c.requires.rows, length-states (sizes m))) c.loop-row.invariant
