use Rattle.std.proofs.Common.{◌∷◌, [], codes, decimal, refl, ap, rules, ◌∙◌}
use Rattle.std.specs.Prelude.{FitsSigned}
use Rattle.std.specs.Int.{w128}
use Rattle.std.proofs.lemmas.Int.{to_z-of_z}
use Rattle.spd_model.specs.ResultText.{units}
use Rattle.spd_query.proofs.TextLaws.{then, status-text}
use Rattle.spd_query.proofs.answering.status_line.Goals as goal

pub returns : goal.returns
returns c =
    let x = c.args.iterate.now in
    let k = decimal x.turn in
    let r = units x.residual.r in
    let e = units x.error in
    let r_fits : FitsSigned w128 x.residual.r = search rules in
    let e_fits : FitsSigned w128 x.error = search rules in
    let p1 = then _ [] _ _ (codes "turn ") c.new-line.ensures c.put.ensures.text refl in
    let p2 = then _ _ _ _ k p1 c.put_number.ensures.text refl in
    let p3 = then _ _ _ _ (codes " residual ") p2 c.put-2.ensures.text refl in
    let p4 = then _ _ _ _ r p3 c.put_units.ensures.text (ap units (to_z-of_z w128 x.residual.r r_fits)) in
    let p5 = then _ _ _ _ (codes " error ") p4 c.put-3.ensures.text refl in
    let p6 = then _ _ _ _ e p5 c.put_units-2.ensures.text (ap units (to_z-of_z w128 x.error e_fits)) in
    then _ _ _ _ (10 ∷ []) p6 c.put-4.ensures.text refl ∙ status-text k r e
