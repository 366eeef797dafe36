use Rattle.std.proofs.Common.{◌≡◌, false, take, All}
use Rattle.spd_model.specs.States.{sizes, states, at}
use Rattle.spd_model.proofs.CallerLemmas.Gaps.{has_gap}
use Rattle.spd_plain.proofs.sweep.first_place_of.Given as goal

abbrev pub invariant-loop-place : goal.invariant-loop-place
invariant-loop-place l = All (λ s. has_gap l.model (at (sizes l.model) l.values) l.sweep.residual s ≡ false) (take l.place (states (sizes l.model)))
