use Rattle.std.proofs.Common.{◌≡◌, ◌++◌, ◌∷◌, [], codes, sym, ◌∙◌, append_assoc}
use Rattle.spd_model.specs.States.{sizes}
use Rattle.spd_model.specs.Turns.{Place}
use Rattle.spd_model.specs.ResultText.{side_text, action_name, state_words}
use Rattle.spd_model.proofs.CallerLemmas.StateOrder.{length-IsState, length-sizes}
use Rattle.spd_text.specs.inner.Pieces.{spaced}
use Rattle.spd_text.proofs.TextLaws.{failure-is}
use Rattle.spd_text.proofs.WritingLaws.{writes-then, writes-as, writes-exit}
use Rattle.spd_text.proofs.failure.put_failure.Goals as goal

pub put_state-requires : goal.put_state-requires
put_state-requires g c = length-IsState (sizes c.args.model.now) c.args.at.now c.requires ∙ length-sizes c.args.model.now

pub returns-in_err-put : goal.returns-in_err-put
returns-in_err-put g c =
    let m = c.args.model.now in
    let p : Place = record { state = c.args.at.now; side = c.args.side; action = c.args.action } in
    let state = spaced (state_words m p.state) in
    let choice = spaced (side_text p.side ∷ action_name m p.action ∷ []) ++ 10 ∷ [] in
    writes-exit _ _ _ _ _ (codes "no") _ (state ++ choice) _ _ c.from_residual.ensures.0
    (sym (failure-is m p) ∙ append_assoc (codes "no") state choice) c.in_err-put.ensures

pub returns-in_err-put_state : goal.returns-in_err-put_state
returns-in_err-put_state g c =
    let m = c.args.model.now in
    let p : Place = record { state = c.args.at.now; side = c.args.side; action = c.args.action } in
    let choice = spaced (side_text p.side ∷ action_name m p.action ∷ []) ++ 10 ∷ [] in
    writes-exit _ _ _ _ _ (codes "no" ++ spaced (state_words m p.state)) _ choice _ _ c.from_residual-in_err-put_state.ensures.0
    (sym (failure-is m p)) (writes-then _ _ _ _ _ _ _ _ _ _ c.in_ok-put.ensures c.in_err-put_state.ensures)

pub returns : goal.returns
returns g c =
    let m = c.args.model.now in
    let p : Place = record { state = c.args.at.now; side = c.args.side; action = c.args.action } in
    let side : c.side_word.result.now ≡ side_text p.side = c.side_word.ensures in
    let action : c.action_name.result.now ≡ action_name m p.action = c.action_name.ensures in
    let front = codes "no" ++ spaced (state_words m p.state) in
    let same : front ++ (spaced (c.side_word.result.now ∷ c.action_name.result.now ∷ []) ++ 10 ∷ [])
    ≡ front ++ (spaced (side_text p.side ∷ action_name m p.action ∷ []) ++ 10 ∷ []) =
    λ i. front ++ (spaced (side i ∷ action i ∷ []) ++ 10 ∷ []) in
    writes-as _ _ _ _ _ _ _ (same ∙ failure-is m p)
    (writes-then _ _ _ _ _ _ _ _ _ _ (writes-then _ _ _ _ _ _ _ _ _ _ c.in_ok-put.ensures c.in_ok-put_state.ensures) c.put_choice.ensures)
