use Rattle.std.proofs.Common.{◌≤◌, ◌^◌}
use Rattle.spd_help.proofs.limits.power.Given as goal

abbrev pub invariant-loop : goal.invariant-loop
invariant-loop l = l.power ≤ 10 ^ 18
