use Rattle.std.proofs.Common.{take, Ok}
use Rattle.spd_edge.specs.declared.outside.Failed.{Failed}
use Rattle.spd_edge.specs.Pieces.{text_of_pieces}
use Rattle.spd_text.specs.inner.Pieces.{shown, Writes}
use Rattle.spd_text.proofs.waiting.put_all.Given as goal

abbrev pub invariant-loop-piece : goal.invariant-loop-piece
invariant-loop-piece g l =
    Writes {T = Unit {0}} {E = Failed} (shown g.K.Sink.taken g.K.Sink.faults g.K.Opened.name l.initial.k) l.initial.waiting (text_of_pieces (take l.piece-index l.pieces)) (Ok tt)
    (shown g.K.Sink.taken g.K.Sink.faults g.K.Opened.name l.k) l.waiting
