use Rattle.std.proofs.Common.{List, ℕ, take, ap, ◌∙◌, ◌≡◌}
use Rattle.spd_model.proofs.Steps.{raised_is}
use Rattle.spd_model.proofs.states.raised.Goals as goal

pub returns : goal.returns
returns c =
    let front : c.copy_from_slice.new.self ≡ take c.args.var c.args.s.now =
    c.copy_from_slice.ensures.after ∙ ap (λ (l : List ℕ). take c.args.var l) c.values.ensures in
    c.of.ensures ∙ raised_is c.args.s.now _ c.args.var _ _ c.requires.near c.requires.few front c.get.ensures c.len.ensures
