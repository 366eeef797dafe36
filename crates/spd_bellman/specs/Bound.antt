-- The bound: what a residual says of all courses of action and of the policy, for every number of steps.
use Rattle.std.specs.Prelude.{ℕ, ◌-◌, ◌^◌, List, ℤ, pos, ◌-ℤ◌, ◌*ℤ◌, ◌≤ℤ◌}
use Rattle.spd_model.specs.Process.{Process}
use Rattle.spd_model.specs.States.{sizes, IsState}
use Rattle.spd_model.specs.Chances.{discount_one, joint, scale_of}
use Rattle.spd_model.specs.Backup.{policy_of}
use Rattle.spd_model.specs.Turns.{residual_of}
use Rattle.spd_bellman.specs.Courses.{Course, always, return_of_course, return_of_policy}

-- A gain of n steps is at most r / (1 - discount). It counts in parts of which `scale_of m ^ n` make one unit, so both sides are
-- multiplied by that scale, by the discount's 10^6 and by one minus the discount, which is above 0 in every model.
abbrev pub IsWithinError : Process → ℤ → ℕ → ℤ → Type 0
IsWithinError m r n gain = (pos (discount_one - m.discount) *ℤ gain) ≤ℤ (r *ℤ pos discount_one *ℤ pos (scale_of m ^ n))

-- No course of any number of steps, from any state, that is ended by w returns more than w plus r / (1 - discount).
abbrev pub IsBoundAbove : Process → (List ℕ → ℤ) → ℤ → Type 0
IsBoundAbove m w r = (n : ℕ) (course : Course m n) (s : List ℕ) → IsState (sizes m) s
    → IsWithinError m r n (return_of_course m (always (joint m)) w course s -ℤ pos (scale_of m ^ n) *ℤ w s)

-- The policy, in any number of steps from any state, ended by w, returns no less than w minus r / (1 - discount).
abbrev pub IsBoundBelow : Process → (List ℕ → ℤ) → (List ℕ → ℕ) → ℤ → Type 0
IsBoundBelow m w policy r = (n : ℕ) (s : List ℕ) → IsState (sizes m) s
    → IsWithinError m r n (pos (scale_of m ^ n) *ℤ w s -ℤ return_of_policy m (always (joint m)) w (always policy) n s)

-- No course of any number of steps, from any state, returns more than the policy plus r / (1 - discount), where w ends both.
abbrev pub IsPolicyNear : Process → (List ℕ → ℤ) → (List ℕ → ℕ) → ℤ → Type 0
IsPolicyNear m w policy r = (n : ℕ) (course : Course m n) (s : List ℕ) → IsState (sizes m) s
    → IsWithinError m r n (return_of_course m (always (joint m)) w course s -ℤ return_of_policy m (always (joint m)) w (always policy) n s)

-- The value w and its policy are optimal up to the error r / (1 - discount), with r the residual of w.
pub record IsNearOptimal (m : Process) (w : List ℕ → ℤ) : Type 0 where
  pub courses : IsBoundAbove m w (residual_of m w)
  pub policy : IsBoundBelow m w (policy_of m w) (residual_of m w)
