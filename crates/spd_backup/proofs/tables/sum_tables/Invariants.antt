use Rattle.std.proofs.Common.{◌≡◌, length, All}
use Rattle.spd_backup.proofs.KeepingLaws.{AreEmpty}
use Rattle.spd_backup.proofs.tables.sum_tables.Given as goal

abbrev pub invariant-loop-size : goal.invariant-loop-size
invariant-loop-size l = record { count : length l.sums.items ≡ l.size-index; empty : All AreEmpty l.sums.items }
