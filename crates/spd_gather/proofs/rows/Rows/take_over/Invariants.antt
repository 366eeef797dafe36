use Rattle.std.proofs.Common.{◌⊎◌}
use Rattle.std.specs.Prelude.{Contains}
use Rattle.spd_gather.specs.Rows.{Row}
use Rattle.spd_gather.proofs.rows.Rows.take_over.Given as goal

abbrev pub invariant-loop-at : goal.invariant-loop-at
invariant-loop-at l = (row : Row) → Contains l.self row → Contains l.fn.self row ⊎ Contains l.fn.other row
