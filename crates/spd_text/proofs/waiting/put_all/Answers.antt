use Rattle.std.proofs.Common.{◌++◌, ◌+◌, take, drop, get_or}
use Rattle.spd_edge.specs.Pieces.{text_of_pieces}
use Rattle.spd_edge.proofs.CallerLemmas.{pieces-all, pieces-more}
use Rattle.spd_text.proofs.TextLaws.{pieces-split, no_piece}
use Rattle.spd_text.proofs.WritingLaws.{writes-nothing, writes-then, writes-as, writes-exit}
use Rattle.spd_text.proofs.waiting.put_all.Goals as goal

pub loop-piece-init : goal.loop-piece-init
loop-piece-init g c = writes-nothing _ _ _

pub loop-piece-preserved : goal.loop-piece-preserved
loop-piece-preserved g c =
    writes-as _ _ _ _ _ _ _ (pieces-more c.args.pieces.now c.loop-piece.piece-index no_piece c.loop-piece-test.true)
    (writes-then _ _ _ _ _ _ _ _ _ _ c.loop-piece.invariant c.in_ok-put.ensures)

pub returns-in_err-put : goal.returns-in_err-put
returns-in_err-put g c =
    let i = c.loop-piece.piece-index in
    writes-exit _ _ _ _ _ (text_of_pieces (take i c.args.pieces.now) ++ (get_or c.args.pieces.now i no_piece).now) _ (text_of_pieces (drop (i + 1) c.args.pieces.now)) _ _ c.from_residual.ensures.0
    (pieces-split c.args.pieces.now i no_piece c.loop-piece-test.true) (writes-then _ _ _ _ _ _ _ _ _ _ c.loop-piece.invariant c.in_err-put.ensures)

pub returns : goal.returns
returns g c = writes-as _ _ _ _ _ _ _ (pieces-all c.args.pieces.now c.loop-piece.piece-index c.loop-piece-test.false) c.loop-piece.invariant
