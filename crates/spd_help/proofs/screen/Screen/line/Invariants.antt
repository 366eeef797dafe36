use Rattle.std.proofs.Common.{◌≡◌, ◌++◌, take}
use Rattle.spd_edge.specs.Pieces.{text_of_pieces}
use Rattle.spd_help.specs.Shown.{shown}
use Rattle.spd_help.proofs.screen.Screen.line.Given as goal

abbrev pub invariant-loop-piece : goal.invariant-loop-piece
invariant-loop-piece l = l.self ≡ l.initial.self ++ shown (text_of_pieces (take l.piece-index l.pieces))
