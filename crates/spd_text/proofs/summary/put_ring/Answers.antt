use Rattle.std.proofs.Common.{ℕ, List, ◌∷◌, [], codes, ap, ◌∙◌}
use Rattle.spd_model.specs.ResultText.{line}
use Rattle.spd_text.proofs.TextLaws.{ring-is}
use Rattle.spd_text.proofs.WritingLaws.{writes-as}
use Rattle.spd_text.proofs.summary.put_ring.Goals as goal

pub returns : goal.returns
returns g c =
    writes-as _ _ _ _ _ _ _
    (ring-is c.as_bytes-machines.result.now ∙ ap (λ (t : List ℕ). line (codes "spd" ∷ codes "ring" ∷ t ∷ [])) (c.as_bytes-machines.ensures.value ∙ c.format.ensures.text)) c.put_all.ensures
