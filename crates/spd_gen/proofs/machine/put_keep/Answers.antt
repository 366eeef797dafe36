use Rattle.std.proofs.Common.{◌≡◌, ℕ, ◌+◌, ◌∙◌, ap, decimal}
use Rattle.spd_gen.specs.Ring.{left_of}
use Rattle.spd_gen.specs.inner.Lines.{keep_of}
use Rattle.spd_gen.proofs.TextLaws.{keep_of-machine}
use Rattle.spd_gen.proofs.WritingLaws.{writes-as}
use Rattle.spd_gen.proofs.machine.put_keep.Goals as goal

pub returns : goal.returns
returns g c =
    let n = c.args.n in
    let i = c.args.i in
    let own : c.as_bytes-machine.result.now ≡ decimal (i + 1) = c.as_bytes-machine.ensures.value ∙ c.format.ensures.text in
    let left : c.as_bytes-left.result.now ≡ decimal (left_of n i + 1) =
    c.as_bytes-left.ensures.value ∙ c.format-2.ensures.text ∙ ap (λ (j : ℕ). decimal (j + 1)) c.left_of.ensures.neighbour in
    writes-as _ _ _ _ _ ((λ k. keep_of (own k) (left k)) ∙ keep_of-machine n i) c.put_keep_of.ensures
