use Rattle.std.proofs.Common.{◌≡◌}
use Rattle.spd_diagram_rows.proofs.tables.check.Given as goal

abbrev pub invariant-loop-s : goal.invariant-loop-s
invariant-loop-s g l = g.F.Forest.shows l.forest ≡ g.F.Forest.shows l.fn.forest
