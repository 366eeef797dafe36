use Rattle.std.proofs.Common.{◌≡◌, map, take}
use Rattle.spd_model.specs.States.{sizes, states}
use Rattle.spd_model.specs.Numbers.{greatest}
use Rattle.spd_model.specs.Chances.{reward_of}
use Rattle.spd_plain.proofs.sweep.start.Given as goal

abbrev pub invariant-loop-row : goal.invariant-loop-row
invariant-loop-row l = l.values.items ≡ map (λ s. greatest (map (λ a. reward_of l.model a s) l.model.actions)) (take l.row-index (states (sizes l.model)))
