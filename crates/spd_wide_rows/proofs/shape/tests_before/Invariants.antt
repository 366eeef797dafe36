use Rattle.std.proofs.Common.{◌*◌, ◌≤◌}
use Rattle.spd_wide_rows.proofs.shape.tests_before.Given as goal

abbrev pub invariant-loop-var : goal.invariant-loop-var
invariant-loop-var l = l.before ≤ 126 * l.var
