use Rattle.std.proofs.Common.{◌≡◌, take}
use Rattle.spd_cons_core.specs.Events.{run}
use Rattle.spd_cons_core.specs.Invariants.{Keeps}
use Rattle.spd_cons_core.proofs.steps.run.Given as goal

abbrev pub invariant-loop-event : goal.invariant-loop-event
invariant-loop-event l = record {
  exact : l.core ≡ run l.initial.core (take l.event-index l.events);
  keeps : Keeps l.initial.core l.core;
}
