use Rattle.std.proofs.Common.{◌*◌, ◌≤◌}
use Rattle.spd_wide_rows.proofs.models.put_chain.Given as goal

abbrev pub invariant-loop-var : goal.invariant-loop-var
invariant-loop-var l = l.number ≤ 126 * l.var
