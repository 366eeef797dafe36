use Rattle.std.proofs.Common.{◌≡◌, [], All}
use Rattle.std.specs.Arc.{arc_value}
use Rattle.spd_board.proofs.open.seat_all.Given as goal

abbrev pub invariant-loop-reader : goal.invariant-loop-reader
invariant-loop-reader g l = All (λ r. r ≡ record { seen = []; last = arc_value l.first }) l.readers
