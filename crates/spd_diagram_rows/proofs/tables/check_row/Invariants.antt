use Rattle.std.proofs.Common.{◌≡◌}
use Rattle.spd_diagram_rows.proofs.tables.check_row.Given as goal

abbrev pub invariant-loop-t : goal.invariant-loop-t
invariant-loop-t g l = g.F.Forest.shows l.forest ≡ g.F.Forest.shows l.fn.forest
