use Rattle.std.proofs.Common.{◌≤◌}
use Rattle.spd_cons.specs.Values.{Keeps}
use Rattle.spd_grove_rows.proofs.running.made_until_full.Given as goal

abbrev pub invariant-loop-n : goal.invariant-loop-n
invariant-loop-n g l = Keeps l.initial.seat l.seat × (l.came ≤ l.n)
