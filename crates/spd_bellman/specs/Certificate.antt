-- Certificates: a value and a policy, with a residual that anybody can check at each state.
use Rattle.std.specs.Prelude.{ℕ, ◌≡◌, List, Contains, ℤ, ◌-ℤ◌, ◌≤ℤ◌, slice_get, Some}
use Rattle.spd_model.specs.declared.process.Action.{Action}
use Rattle.spd_model.specs.Process.{Process}
use Rattle.spd_model.specs.States.{sizes, IsState}
use Rattle.spd_model.specs.Backup.{low_of, high_of}
use Rattle.spd_bellman.specs.Courses.{IsPolicy}

-- The certificate of value w, a policy and residual r holds: the policy names an action at each state, no action's upper bound lies
-- more than r above w, and the lower bound of the policy's action lies at most r below it.
pub record Holds (m : Process) (w : List ℕ → ℤ) (policy : List ℕ → ℕ) (r : ℤ) : Type 0 where
  pub named : IsPolicy m policy
  pub above : (s : List ℕ) → IsState (sizes m) s → (a : Action) → Contains m.actions a → (high_of m w a s -ℤ w s) ≤ℤ r
  pub below : (s : List ℕ) → IsState (sizes m) s → (a : Action) → slice_get m.actions (policy s) ≡ Some a
      → (w s -ℤ low_of m w a s) ≤ℤ r
