use Rattle.std.specs.Prelude.{FitsSigned}
use Rattle.std.specs.Int.{w128}
use Rattle.std.proofs.Common.{rules, ◌≡◌, take, decimal, ◌∙◌}
use Rattle.spd_model.specs.ResultText.{units, why_text}
use Rattle.spd_text.specs.inner.Parts.{head_text}
use Rattle.spd_text.proofs.TextLaws.{head-is, number-is}
use Rattle.spd_text.proofs.WritingLaws.{writes-as}
use Rattle.spd_text.proofs.result.put_head.Goals as goal

pub returns : goal.returns
returns g c =
    let x = c.args.iterate.now in
    let residual = take c.put_units-len.result c.put_units-len.new.buf in
    let why : c.why_word.result.now ≡ why_text c.args.why = c.why_word.ensures in
    let turn : c.as_bytes.result.now ≡ decimal x.turn = c.as_bytes.ensures.value ∙ c.format.ensures.text in
    let fits : FitsSigned w128 x.residual.r = search rules in
    let number : residual ≡ units x.residual.r = number-is x.residual.r residual fits c.put_units-len.ensures.text in
    let same : head_text c.why_word.result.now c.as_bytes.result.now residual
    ≡ head_text (why_text c.args.why) (decimal x.turn) (units x.residual.r) =
    λ i. head_text (why i) (turn i) (number i) in
    writes-as _ _ _ _ _ _ _ (head-is c.why_word.result.now c.as_bytes.result.now residual ∙ same) c.put_all.ensures
