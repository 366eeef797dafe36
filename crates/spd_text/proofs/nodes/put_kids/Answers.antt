use Rattle.std.proofs.Common.{◌++◌, ◌+◌, ◌∷◌, [], ℕ, List, map, decimal, sym, ap, ◌∙◌, take, drop}
use Rattle.std.proofs.lemmas.List.{take_all}
use Rattle.spd_text.specs.inner.Pieces.{spaced}
use Rattle.spd_text.proofs.TextLaws.{kids-more, kids-split}
use Rattle.spd_text.proofs.WritingLaws.{writes-nothing, writes-then, writes-as, writes-exit}
use Rattle.spd_text.proofs.nodes.put_kids.Goals as goal

pub loop-kid-init : goal.loop-kid-init
loop-kid-init g c = writes-nothing _ _ _

pub loop-kid-preserved : goal.loop-kid-preserved
loop-kid-preserved g c =
    writes-as _ _ _ _ _ _ _ (kids-more c.args.kids.now c.loop-kid.kid-index c.as_bytes-number.result.now c.loop-kid-test.true (c.as_bytes-number.ensures.value ∙ c.format.ensures.text))
    (writes-then _ _ _ _ _ _ _ _ _ _ c.loop-kid.invariant c.in_ok-put_all.ensures)

pub returns-in_err-put_all : goal.returns-in_err-put_all
returns-in_err-put_all g c =
    let kids = c.args.kids.now in
    let i = c.loop-kid.kid-index in
    let number = c.as_bytes-number.result.now in
    let rest = spaced (map decimal (drop (i + 1) kids)) in
    writes-exit _ _ _ _ _ (spaced (map decimal (take i kids)) ++ (32 ∷ (number ++ []))) _ rest _ _ c.from_residual.ensures.0
    (kids-split kids (i + 1) ∙ ap (λ (l : List ℕ). l ++ rest) (sym (kids-more kids i number c.loop-kid-test.true (c.as_bytes-number.ensures.value ∙ c.format.ensures.text))))
    (writes-then _ _ _ _ _ _ _ _ _ _ c.loop-kid.invariant c.in_err-put_all.ensures)

pub returns : goal.returns
returns g c = writes-as _ _ _ _ _ _ _ (ap (λ (l : List ℕ). spaced (map decimal l)) (take_all c.loop-kid.kid-index c.args.kids.now c.loop-kid-test.false)) c.loop-kid.invariant
