use Rattle.std.proofs.Common.{map, take}
use Rattle.spd_model.specs.States.{sizes, at}
use Rattle.spd_model.proofs.CallerLemmas.Greatest.{IsFirstBest}
use Rattle.spd_plain.specs.inner.Sweeps.{bound_on}
use Rattle.spd_plain.proofs.backup.best_action.Given as goal

abbrev pub invariant-loop-number : goal.invariant-loop-number
invariant-loop-number l = IsFirstBest (map (λ a. bound_on l.side l.model (at (sizes l.model) l.values) a l.s) (take l.number l.actions)) l.best l.first
