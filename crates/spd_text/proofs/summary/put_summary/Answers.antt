use Rattle.std.proofs.Common.{◌++◌, ◌∷◌, [], length, codes, decimal, sym, ◌∙◌, append_assoc}
use Rattle.spd_model.specs.ResultText.{line}
use Rattle.spd_model.proofs.CallerLemmas.StateOrder.{length-IsState, length-sizes}
use Rattle.spd_model.specs.States.{sizes}
use Rattle.spd_text.specs.inner.Parts.{top_text, counts_text}
use Rattle.spd_text.proofs.TextLaws.{summary-is}
use Rattle.spd_text.proofs.WritingLaws.{writes-then, writes-as, writes-exit}
use Rattle.spd_text.proofs.summary.put_summary.Goals as goal

pub put_top-requires : goal.put_top-requires
put_top-requires g c = length-IsState (sizes c.args.model.now) c.args.iterate.now.residual.at c.requires.state ∙ length-sizes c.args.model.now

pub returns-in_err-put_ring : goal.returns-in_err-put_ring
returns-in_err-put_ring g c =
    let m = c.args.model.now in
    let x = c.args.iterate.now in
    let ring = line (codes "spd" ∷ codes "ring" ∷ decimal c.args.ring ∷ []) in
    let top = top_text m c.args.why x in
    let counts = counts_text (decimal (length x.value)) (decimal (length x.policy)) in
    writes-exit _ _ _ _ _ ring _ (top ++ counts) _ _ c.from_residual.ensures.0
    (sym (summary-is c.args.ring m c.args.why x) ∙ append_assoc ring top counts) c.in_err-put_ring.ensures

pub returns-in_err-put_top : goal.returns-in_err-put_top
returns-in_err-put_top g c =
    let m = c.args.model.now in
    let x = c.args.iterate.now in
    let ring = line (codes "spd" ∷ codes "ring" ∷ decimal c.args.ring ∷ []) in
    writes-exit _ _ _ _ _ (ring ++ top_text m c.args.why x) _ (counts_text (decimal (length x.value)) (decimal (length x.policy))) _ _ c.from_residual-in_err-put_top.ensures.0
    (sym (summary-is c.args.ring m c.args.why x)) (writes-then _ _ _ _ _ _ _ _ _ _ c.in_ok-put_ring.ensures c.in_err-put_top.ensures)

pub returns : goal.returns
returns g c =
    writes-as _ _ _ _ _ _ _ (summary-is c.args.ring c.args.model.now c.args.why c.args.iterate.now)
    (writes-then _ _ _ _ _ _ _ _ _ _ (writes-then _ _ _ _ _ _ _ _ _ _ c.in_ok-put_ring.ensures c.in_ok-put_top.ensures) c.put_counts.ensures)
