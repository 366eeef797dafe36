use Rattle.spd_cons_core.specs.Invariants.{IsSized, IsSoundMachine}
use Rattle.spd_forest_rows.proofs.machine.two_seats_make_one_key.Given as goal

abbrev pub invariant-loop-phase : goal.invariant-loop-phase
invariant-loop-phase g l = record {
  sized : IsSized l.core;
  sound : IsSoundMachine l.core;
}
