use Rattle.std.proofs.Common.{◌≡◌, take}
use Rattle.spd_edge.specs.Told.{Took}
use Rattle.spd_solver.proofs.Writing.{text_of_pieces}
use Rattle.spd_solver.proofs.pieces.write_pieces.Given as goal

abbrev pub invariant-loop-piece : goal.invariant-loop-piece
invariant-loop-piece g l =
    Took (g.K.Sink.taken l.initial.k) (text_of_pieces (take l.piece-index l.pieces)) (g.K.Sink.taken l.k)
    × (g.K.Sink.faults l.k ≡ g.K.Sink.faults l.initial.k) × (g.K.Opened.name l.k ≡ g.K.Opened.name l.initial.k)
