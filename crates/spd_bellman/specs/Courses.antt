-- Courses of action and policies, and their exact returns in whole numbers: nothing is rounded.
use Rattle.std.specs.Prelude.{ℕ, zero, suc, ◌^◌, ◌≡◌, ◌<◌, List, length, Contains, ℤ, pos, ◌+ℤ◌, ◌*ℤ◌, slice_get, Some, None}
use Rattle.spd_model.specs.declared.process.Action.{Action}
use Rattle.spd_model.specs.Process.{Process}
use Rattle.spd_model.specs.States.{sizes, IsState, sum_over_states}
use Rattle.spd_model.specs.Chances.{reward_of, scale_of}

-- A course of action of n steps: it stops, or it takes one of the process's actions and goes on, from each next state, by a
-- course of one step less. So what is done may depend on everything that was seen.
pub data Course (m : Process) : ℕ → Type 0 where
  stop : Course m zero
  act : {n : ℕ} → (a : Action) → Contains m.actions a → (List ℕ → Course m n) → Course m (suc n)

-- The probability of each next state, by action and present state. It counts in parts of 10^12 to the power of the number of
-- variables; `joint` is that of a process.
abbrev pub Chances : Type 0
Chances = Action → List ℕ → List ℕ → ℤ

-- what is the same for every number of steps left
abbrev pub always : {X : Type 0} → X → ℕ → X
always x left = x

-- The exact return of action a at s where w follows: its reward plus the discounted expectation of w over all next states.
-- Of its parts `scale` make one unit; w has `scale_of m` times fewer parts to the unit.
abbrev pub exact_return : Process → Chances → ℕ → (List ℕ → ℤ) → Action → List ℕ → ℤ
exact_return m chances scale w a s =
    pos scale *ℤ reward_of m a s +ℤ pos m.discount *ℤ sum_over_states (sizes m) (λ t. chances a s t *ℤ w t)

-- The expected return of a course of n steps from s, where w is what its end is worth. `scale_of m ^ n` of its parts make one unit.
-- The probabilities may differ by the number of steps left.
abbrev pub return_of_course : (m : Process) → (ℕ → Chances) → (List ℕ → ℤ) → {n : ℕ} → Course m n → List ℕ → ℤ
return_of_course m chances w stop s = w s
return_of_course m chances w (act {n} a offered next) s =
    exact_return m (chances (suc n)) (scale_of m ^ suc n) (λ t. return_of_course m chances w (next t) t) a s

-- a policy gives each state the number of one of the process's actions
abbrev pub IsPolicy : Process → (List ℕ → ℕ) → Type 0
IsPolicy m policy = (s : List ℕ) → IsState (sizes m) s → policy s < length m.actions

-- The expected return of n steps by policies from s, one for each number of steps left, where w is what their end is worth, in the
-- parts of a course of n steps. It is 0 from a state whose number is of no action.
abbrev pub return_of_policy : Process → (ℕ → Chances) → (List ℕ → ℤ) → (ℕ → List ℕ → ℕ) → ℕ → List ℕ → ℤ
return_of_policy m chances w policy zero s = w s
return_of_policy m chances w policy (suc n) s = elim (slice_get m.actions (policy (suc n) s)) [
  | None ↦ pos 0
  | Some a ↦ exact_return m (chances (suc n)) (scale_of m ^ suc n) (return_of_policy m chances w policy n) a s
]

-- To follow policies is one way to act among the courses: from each state some course of n steps returns what they do, whatever the
-- probabilities are and whatever the end is worth.
abbrev pub IsAmongCourses : Process → (ℕ → List ℕ → ℕ) → Type 0
IsAmongCourses m policy = (n : ℕ) (s : List ℕ) → IsState (sizes m) s → (course : Course m n)
    × ((chances : ℕ → Chances) (w : List ℕ → ℤ) → return_of_course m chances w course s ≡ return_of_policy m chances w policy n s)
