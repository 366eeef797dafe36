use Rattle.std.proofs.Common.{rules, ◌≡◌, ◌∙◌, pos, ◌+ℤ◌, ◌*ℤ◌, ap, FitsSigned}
use Rattle.std.proofs.lemmas.Int.{to_z-of_z}
use mir.Syntax.{w128}
use Rattle.spd_scaled.specs.Scaled.{floor_div, ceil_div}
use Rattle.spd_model.specs.Process.{Process}
use Rattle.spd_model.specs.Chances.{reward_of}
use Rattle.spd_plain.specs.declared.outlook.Outlook.{Outlook}
use Rattle.spd_plain.proofs.ReturnFits.{only_entry, only_limited, reward_limited}
use Rattle.spd_plain.proofs.backup.bounds_of.Goals as goal

pub returns-clause-low : goal.returns-clause-low
returns-clause-low c =
    let value_fits : FitsSigned w128 c.index.result.now = search rules in
    let reward_fits : FitsSigned w128 c.args.outlook.now.reward = search rules in
    let result_fits : FitsSigned w128 c.discounted_return.result = search rules in
    let value = simp to_z-of_z at c.discounted_return.ensures.value in
    let reward : c.args.outlook.now.reward ≡ reward_of c.args.model.now c.args.action.now c.args.s.now = ap (λ (x : Outlook). x.reward) c.requires.outlook in
    let discount = ap (λ (m : Process). m.discount) c.model.view_is in
    let e = only_entry c.expect.new.work.low.items c.index.result.now _ c.in_ok-expect.ensures.count.0 c.in_ok-expect.ensures.low c.index.ensures in
    simp to_z-of_z (value ∙ (λ i. reward i +ℤ floor_div (pos (discount i) *ℤ e i) (pos 1000000)))

pub returns-clause-high : goal.returns-clause-high
returns-clause-high c =
    let value_fits : FitsSigned w128 c.index-2.result.now = search rules in
    let reward_fits : FitsSigned w128 c.args.outlook.now.reward = search rules in
    let result_fits : FitsSigned w128 c.discounted_return-2.result = search rules in
    let value = simp to_z-of_z at c.discounted_return-2.ensures.value in
    let reward : c.args.outlook.now.reward ≡ reward_of c.args.model.now c.args.action.now c.args.s.now = ap (λ (x : Outlook). x.reward) c.requires.outlook in
    let discount = ap (λ (m : Process). m.discount) c.model.view_is in
    let e = only_entry c.expect.new.work.high.items c.index-2.result.now _ c.in_ok-expect.ensures.count.1 c.in_ok-expect.ensures.high c.index-2.ensures in
    simp to_z-of_z (value ∙ (λ i. reward i +ℤ ceil_div (pos (discount i) *ℤ e i) (pos 1000000)))

pub discounted_return-requires-2-clause-expectation : goal.discounted_return-requires-2-clause-expectation
discounted_return-requires-2-clause-expectation c =
    let fits : FitsSigned w128 c.index-2.result.now = search rules in
    simp to_z-of_z (only_limited c.expect.new.work.high.items c.index-2.result.now c.in_ok-expect.ensures.count.1 c.in_ok-expect.ensures.bounded.1 c.index-2.ensures)

pub discounted_return-requires-2-clause-reward : goal.discounted_return-requires-2-clause-reward
discounted_return-requires-2-clause-reward c =
    let fits : FitsSigned w128 c.args.outlook.now.reward = search rules in
    simp to_z-of_z (reward_limited c.args.model.now c.requires.values.valid c.args.action.now c.args.s.now c.args.outlook.now c.requires.action c.requires.state c.requires.outlook)
