use Rattle.std.proofs.Common.{◌∷◌, [], codes, decimal, refl, ap, rules, ◌∙◌}
use Rattle.std.specs.Prelude.{FitsSigned}
use Rattle.std.specs.Int.{w128}
use Rattle.std.proofs.lemmas.Int.{to_z-of_z}
use Rattle.spd_model.specs.States.{sizes}
use Rattle.spd_model.specs.ResultText.{units, action_name}
use Rattle.spd_frozen.specs.Frozen.{leaf_at}
use Rattle.spd_frozen.specs.Told.{number_of, action_of}
use Rattle.spd_frozen.proofs.CallerLemmas.{fits-kids}
use Rattle.spd_query.proofs.TextLaws.{then, state-text}
use Rattle.spd_query.proofs.answering.state_line.Goals as goal

pub at-value-requires-clause-value_kids : goal.at-value-requires-clause-value_kids
at-value-requires-clause-value_kids c = fits-kids (sizes c.args.model.now) c.args.state.now c.args.iterate.now.value c.requires.fits.value c.requires.state

pub at-value-requires-clause-policy_kids : goal.at-value-requires-clause-policy_kids
at-value-requires-clause-policy_kids c = fits-kids (sizes c.args.model.now) c.args.state.now c.args.iterate.now.policy c.requires.fits.policy c.requires.state

pub returns : goal.returns
returns c =
    let x = c.args.iterate.now in
    let s = c.args.state.now in
    let k = decimal x.turn in
    let v = units (number_of (leaf_at x.value s)) in
    let a = action_name c.args.model.now (action_of (leaf_at x.policy s)) in
    let e = units x.error in
    let v_fits : FitsSigned w128 c.number.result = search rules in
    let e_fits : FitsSigned w128 x.error = search rules in
    let value_is = ap units (to_z-of_z w128 c.number.result v_fits ∙ c.number.ensures ∙ ap number_of c.at-value.ensures.value) in
    let action_is = c.short_name.ensures.name ∙ ap (action_name c.args.model.now) (c.action.ensures ∙ ap action_of c.at-value.ensures.policy) in
    let p1 = then _ [] _ _ (codes "turn ") c.new-line.ensures c.put.ensures.text refl in
    let p2 = then _ _ _ _ k p1 c.put_number.ensures.text refl in
    let p3 = then _ _ _ _ (codes " value ") p2 c.put-2.ensures.text refl in
    let p4 = then _ _ _ _ v p3 c.put_units.ensures.text value_is in
    let p5 = then _ _ _ _ (codes " action ") p4 c.put-3.ensures.text refl in
    let p6 = then _ _ _ _ a p5 c.put-4.ensures.text action_is in
    let p7 = then _ _ _ _ (codes " error ") p6 c.put-5.ensures.text refl in
    let p8 = then _ _ _ _ e p7 c.put_units-2.ensures.text (ap units (to_z-of_z w128 x.error e_fits)) in
    then _ _ _ _ (10 ∷ []) p8 c.put-6.ensures.text refl ∙ state-text k v a e
