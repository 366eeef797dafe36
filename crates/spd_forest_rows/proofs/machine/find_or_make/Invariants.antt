use Rattle.spd_cons_core.specs.Invariants.{IsSized, IsSoundMachine}
use Rattle.spd_forest_rows.proofs.machine.find_or_make.Given as goal

abbrev pub invariant-loop-round : goal.invariant-loop-round
invariant-loop-round l = record {
  sized : IsSized l.core;
  sound : IsSoundMachine l.core;
}
