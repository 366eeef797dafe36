use Rattle.std.proofs.Common.{◌≡◌, ◌≤◌, [], All, length}
use Rattle.std.specs.Arc.{arc_value}
use Rattle.spd_board.proofs.open.readers_of.Given as goal

abbrev pub invariant-loop : goal.invariant-loop
invariant-loop g l = All (λ r. r ≡ record { seen = []; last = arc_value l.first }) l.all.items × (length l.all.items ≡ l.counter) × (l.readers ≤ l.all.cap)
