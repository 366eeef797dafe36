use Rattle.std.proofs.Common.{◌≡◌}
use Rattle.spd_stage_rows.proofs.values.check.Given as goal

abbrev pub invariant-loop-number : goal.invariant-loop-number
invariant-loop-number g l = g.F.Forest.shows l.forest ≡ g.F.Forest.shows l.fn.forest
