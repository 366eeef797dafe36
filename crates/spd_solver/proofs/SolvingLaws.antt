-- From what value iteration on tables comes to, to the solution of a process and to why it has none.
use Rattle.std.specs.Arc.{arc_value}
use Rattle.std.proofs.Common.{◌≡◌, ℕ, ◌<◌, ◌≤◌, true, List, length, All, pos, sym, subst, ◌∙◌}
use Rattle.spd_scaled.specs.Scaled.{IsWithin}
use Rattle.spd_model.specs.declared.Why.{Why}
use Rattle.spd_model.specs.declared.options.Options.{Options}
use Rattle.spd_model.specs.Process.{Process}
use Rattle.spd_model.specs.States.{sizes, IsState}
use Rattle.spd_model.specs.Chances.{IsValid}
use Rattle.spd_model.specs.Turns.{turn, stop_of, stop_value, residual_of, value_limit}
use Rattle.spd_model.specs.ResultText.{result_of}
use Rattle.spd_model.proofs.CallerLemmas.StateOrder.{length-IsState, length-sizes}
use Rattle.spd_bellman.specs.Bound.{IsNearOptimal}
use Rattle.spd_bellman.specs.TurnBound.{is_enough}
use Rattle.spd_plain.specs.declared.Plain.{Plain}
use Rattle.spd_plain.specs.Plain.{plain_of}
use Rattle.spd_frozen.specs.Fits.{FitsModel}
use Rattle.spd_frozen.specs.Told.{told}
use Rattle.spd_solver.specs.declared.command.Way.{Way}
use Rattle.spd_solver.specs.declared.solving.Solution.{Solution}
use Rattle.spd_solver.specs.Solve.{value, TakesStates}
use Rattle.spd_solver.specs.inner.Stages.{IsSolution}
use Rattle.spd_solver.proofs.TableLaws.{policy_within, place_within}

module _ (m : Process) (options : Options) (p : Plain) (is : p ≡ plain_of m options.turns options.span) where
  pub values_within : ((k : ℕ) → All (IsWithin (pos value_limit)) (turn m options.span k)) → All (IsWithin (pos value_limit)) p.value
  values_within bounded = subst (λ (q : Plain). All (IsWithin (pos value_limit)) q.value) (sym is) (bounded (stop_of m options.turns options.span).turn)

  pub choices_within : 0 < length m.actions → All (λ a. a < length m.actions) p.policy
  choices_within some = subst (λ (q : Plain). All (λ a. a < length m.actions) q.policy) (sym is) (policy_within m (stop_value m options.turns options.span) some)

  pub action_within : 0 < length m.actions → p.action < length m.actions
  action_within some =
      let w = stop_value m options.turns options.span in
      subst (λ (q : Plain). q.action < length m.actions) (sym is) (place_within m w some (residual_of m w))

-- what a run comes to, where it stops for this cause and tells the result
pub is_solution : (way : Way) (m : Process) (options : Options) (x : Solution) → IsValid m → x.why ≡ (stop_of m options.turns options.span).why
    → told (arc_value x.iterate) ≡ result_of m options.turns options.span → IsNearOptimal m (value m options)
    → ((k : ℕ) → is_enough m options.span k ≡ true → k ≤ options.turns → (stop_of m options.turns options.span).why ≡ Why.Done)
    → FitsModel m (arc_value x.iterate) → TakesStates way m → IsSolution way m options x
is_solution way m options x valid why iterate near done fits takes = record {
  valid = valid;
  why = why;
  iterate = iterate;
  near_optimal = near;
  enough = λ k enough within. why ∙ done k enough within;
  fits = fits;
  takes = takes;
}

-- a state has a value for each variable
pub state_length : (m : Process) (s : List ℕ) → IsState (sizes m) s → length s ≡ length m.vars
state_length m s is = length-IsState (sizes m) s is ∙ length-sizes m
