use Rattle.spd_cons_core.specs.Invariants.{IsSized, IsSoundMachine}
use Rattle.spd_forest_rows.proofs.machine.make_all.Given as goal

abbrev pub invariant-loop-number : goal.invariant-loop-number
invariant-loop-number l = record {
  sized : IsSized l.core;
  sound : IsSoundMachine l.core;
}
