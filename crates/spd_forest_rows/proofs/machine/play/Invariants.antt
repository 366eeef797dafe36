use Rattle.spd_cons_core.specs.Invariants.{IsSized, IsSoundMachine}
use Rattle.spd_forest_rows.proofs.machine.play.Given as goal

abbrev pub invariant-loop-part : goal.invariant-loop-part
invariant-loop-part l = record {
  sized : IsSized l.core;
  sound : IsSoundMachine l.core;
}
