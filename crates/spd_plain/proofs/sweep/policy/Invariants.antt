use Rattle.std.proofs.Common.{◌≡◌, map, take}
use Rattle.spd_model.specs.States.{sizes, states, at}
use Rattle.spd_model.specs.Backup.{policy_of}
use Rattle.spd_plain.proofs.sweep.policy.Given as goal

abbrev pub invariant-loop-place : goal.invariant-loop-place
invariant-loop-place l = l.actions.items ≡ map (policy_of l.model (at (sizes l.model) l.values)) (take l.place (states (sizes l.model)))
