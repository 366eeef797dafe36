use Rattle.std.proofs.Common.{◌≡◌, take, rules}
use Rattle.std.specs.Prelude.{FitsSigned}
use Rattle.std.specs.Int.{w128}
use Rattle.spd_model.specs.ResultText.{units, side_text, action_name}
use Rattle.spd_text.specs.inner.Parts.{end_words}
use Rattle.spd_text.proofs.TextLaws.{number-is}
use Rattle.spd_text.proofs.WritingLaws.{writes-as}
use Rattle.spd_text.proofs.result.put_end.Goals as goal

pub returns : goal.returns
returns g c =
    let m = c.args.model.now in
    let r = c.args.residual.now in
    let error = take c.put_units-len.result c.put_units-len.new.buf in
    let side : c.side_word-side.result.now ≡ side_text r.side = c.side_word-side.ensures in
    let action : c.action_name-action.result.now ≡ action_name m r.action = c.action_name-action.ensures in
    let fits : FitsSigned w128 c.args.error = search rules in
    let number : error ≡ units c.args.error = number-is c.args.error error fits c.put_units-len.ensures.text in
    let same : end_words c.side_word-side.result.now c.action_name-action.result.now error ≡ end_words (side_text r.side) (action_name m r.action) (units c.args.error) =
    λ i. end_words (side i) (action i) (number i) in
    writes-as _ _ _ _ _ _ _ same c.put_words.ensures
