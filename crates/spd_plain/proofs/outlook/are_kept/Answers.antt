use Rattle.std.proofs.Common.{◌≡◌, ◌∙◌, ◌*◌, nat_le, length, ap}
use Rattle.spd_model.specs.Process.{Process}
use Rattle.spd_model.specs.States.{sizes, state_count}
use Rattle.spd_plain.proofs.Tables.{length-all}
use Rattle.spd_plain.proofs.outlook.are_kept.Goals as goal

pub returns : goal.returns
returns c =
    let actions : length c.as_slice-actions.result.now ≡ length c.args.model.now.actions = ap length c.as_slice-actions.ensures ∙ ap (λ (m : Process). length m.actions) c.model.view_is in
    let states : length c.as_slice-states.result.now ≡ state_count (sizes c.args.model.now) = length-all c.requires c.as_slice-states.ensures in
    λ i. nat_le (actions i * states i) 16384
