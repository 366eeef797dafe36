use Rattle.std.proofs.Common.{◌≡◌, ℕ, List, ap, subst, ◌∙◌, FitsSigned, rules}
use Rattle.std.specs.Int.{w128}
use Rattle.std.proofs.lemmas.Int.{to_z-of_z}
use Rattle.spd_scaled.specs.Units.{units_text}
use Rattle.spd_text.specs.Writing.{Wrote}
use Rattle.spd_solver.specs.Message.{sum_message}
use Rattle.spd_solver.proofs.message.write_sum.Goals as goal

pub returns-clause-text : goal.returns-clause-text
returns-clause-text g c =
    let fits : FitsSigned w128 c.args.sum = search rules in
    let message : sum_message c.as_slice.result.now c.as_slice-2.result.now c.as_slice-3.result.now _ ≡ sum_message c.args.action.now c.args.var.now c.args.state.now (units_text 12 c.args.sum) =
    (λ i. sum_message (c.as_slice.ensures i) (c.as_slice-2.ensures i) (c.as_slice-3.ensures i)
    ((c.put_units-len.ensures.text ∙ ap (units_text 12) (to_z-of_z w128 c.args.sum fits)) i)) in
    subst (λ (t : List ℕ). Wrote (g.K.Sink.taken c.args.k.now) t c.write_pieces.result (g.K.Sink.taken c.write_pieces.new.k)) message c.write_pieces.ensures.text
