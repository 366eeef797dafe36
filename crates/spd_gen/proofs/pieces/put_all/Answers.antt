use Rattle.std.proofs.Common.{◌+◌, drop, sym, ap, ◌∙◌, List, ℕ, ◌++◌, take, get_or}
use Rattle.spd_edge.specs.Pieces.{text_of_pieces}
use Rattle.spd_edge.proofs.CallerLemmas.{pieces-all, pieces-more}
use Rattle.spd_gen.proofs.TextLaws.{pieces-split, no_piece}
use Rattle.spd_gen.proofs.WritingLaws.{writes-nothing, writes-then, writes-as, writes-exit}
use Rattle.spd_gen.proofs.pieces.put_all.Goals as goal

pub loop-piece-init : goal.loop-piece-init
loop-piece-init g c = writes-nothing _ _

pub loop-piece-preserved : goal.loop-piece-preserved
loop-piece-preserved g c =
    writes-as _ _ _ _ _ (pieces-more c.args.pieces.now c.loop-piece.piece-index no_piece c.loop-piece-test.true)
    (writes-then _ _ _ _ _ _ _ c.loop-piece.invariant c.in_ok-put.ensures)

pub returns-in_err-put : goal.returns-in_err-put
returns-in_err-put g c =
    let i = c.loop-piece.piece-index in
    let pieces = c.args.pieces.now in
    let rest = text_of_pieces (drop (i + 1) pieces) in
    writes-exit _ _ (text_of_pieces (take i pieces) ++ (get_or pieces i no_piece).now) _ rest _ _ c.from_residual.ensures.0
    (pieces-split pieces (i + 1) ∙ ap (λ (l : List ℕ). l ++ rest) (sym (pieces-more pieces i no_piece c.loop-piece-test.true)))
    (writes-then _ _ _ _ _ _ _ c.loop-piece.invariant c.in_err-put.ensures)

pub returns : goal.returns
returns g c = writes-as _ _ _ _ _ (pieces-all c.args.pieces.now c.loop-piece.piece-index c.loop-piece-test.false) c.loop-piece.invariant
