use Rattle.std.proofs.Common.{◌*◌, ◌≤◌}
use Rattle.spd_wide_rows.proofs.summing.mean.Given as goal

abbrev pub invariant-loop-value : goal.invariant-loop-value
invariant-loop-value l = l.sum ≤ 12600 * l.value
