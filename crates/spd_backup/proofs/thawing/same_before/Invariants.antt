use Rattle.std.proofs.Common.{◌≤◌}
use Rattle.spd_backup.proofs.thawing.same_before.Given as goal

abbrev pub invariant-loop : goal.invariant-loop
invariant-loop g l = record { before : l.before ≤ l.at }
