use Rattle.spd_cons.specs.Values.{Keeps}
use Rattle.spd_grove_rows.proofs.running.make_thousand.Given as goal

abbrev pub invariant-loop-n : goal.invariant-loop-n
invariant-loop-n g l = Keeps l.initial.seat l.seat
