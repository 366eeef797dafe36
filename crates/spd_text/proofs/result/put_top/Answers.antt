use Rattle.std.proofs.Common.{◌++◌, ℤ, decimal, refl, ap, rules, append_assoc}
use Rattle.std.specs.Prelude.{FitsSigned}
use Rattle.std.specs.Int.{w128}
use Rattle.std.proofs.lemmas.Int.{to_z-of_z}
use Rattle.spd_model.specs.ResultText.{units, why_text, state_words}
use Rattle.spd_text.specs.inner.Pieces.{spaced}
use Rattle.spd_text.specs.inner.Parts.{head_text, end_text}
use Rattle.spd_text.proofs.WritingLaws.{writes-then, writes-as, writes-exit}
use Rattle.spd_text.proofs.result.put_top.Goals as goal

pub returns-in_err-put_head : goal.returns-in_err-put_head
returns-in_err-put_head g c =
    let x = c.args.iterate.now in
    let m = c.args.model.now in
    let head = head_text (why_text c.args.why) (decimal x.turn) (units x.residual.r) in
    let state = spaced (state_words m x.residual.at) in
    let end' = end_text m x.residual x.error in
    writes-exit _ _ _ _ _ head _ (state ++ end') _ _ c.from_residual.ensures.0 (append_assoc head state end') c.in_err-put_head.ensures

pub returns-in_err-put_state : goal.returns-in_err-put_state
returns-in_err-put_state g c =
    let x = c.args.iterate.now in
    let m = c.args.model.now in
    let head = head_text (why_text c.args.why) (decimal x.turn) (units x.residual.r) in
    let state = spaced (state_words m x.residual.at) in
    writes-exit _ _ _ _ _ (head ++ state) _ (end_text m x.residual x.error) _ _ c.from_residual-in_err-put_state.ensures.0 refl
    (writes-then _ _ _ _ _ _ _ _ _ _ c.in_ok-put_head.ensures c.in_err-put_state.ensures)

pub returns : goal.returns
returns g c =
    let x = c.args.iterate.now in
    let m = c.args.model.now in
    let head = head_text (why_text c.args.why) (decimal x.turn) (units x.residual.r) in
    let state = spaced (state_words m x.residual.at) in
    let fits : FitsSigned w128 x.error = search rules in
    writes-as _ _ _ _ _ _ _ (ap (λ (error : ℤ). (head ++ state) ++ end_text m x.residual error) (to_z-of_z w128 x.error fits))
    (writes-then _ _ _ _ _ _ _ _ _ _ (writes-then _ _ _ _ _ _ _ _ _ _ c.in_ok-put_head.ensures c.in_ok-put_state.ensures) c.put_end.ensures)
