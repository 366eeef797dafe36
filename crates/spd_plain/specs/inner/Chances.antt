-- The probabilities of a variable's next values, by the states of the variables from it on.
use Rattle.std.specs.Prelude.{ℕ, ◌*◌, ◌<◌, ◌≡◌, ◌++◌, List, [], ◌∷◌, length, map, take, drop, ℤ, pos, slice_get, slice_index, slice_index_or, Some, None}
use Rattle.spd_model.specs.declared.process.Action.{Action}
use Rattle.spd_model.specs.Process.{Process}
use Rattle.spd_model.specs.Trees.{value_of}
use Rattle.spd_model.specs.Numbers.{numbers_below}
use Rattle.spd_model.specs.States.{sizes, states, state_count, IsState}
use Rattle.spd_model.specs.Chances.{sizes_after, probability}

-- The probability, after action a at s, of the first of the values `next`, which are those of the variable i and of those after it:
-- `probability m a s i v rest` where `next` is `v ∷ rest`.
abbrev pub chance_of : Process → Action → List ℕ → ℕ → List ℕ → ℤ
chance_of m a s i next = elim (slice_get a.tables i) [ None ↦ pos 0 | Some tree ↦ value_of m tree s (take i s ++ next) ]

-- the probability of each value of the variable i, where the variables after it have their first values
abbrev pub values_of : Process → Action → List ℕ → ℕ → List ℤ
values_of m a s i = map (λ v. chance_of m a s i (v ∷ slice_index_or (states (sizes_after m i)) 0 [])) (numbers_below (slice_index (sizes m) i))

-- the probabilities for each state of the variables from i on, in order
pub record TellsChances (m : Process) (a : Action) (s : List ℕ) (i : ℕ) (chances : List ℤ) : Type 0 where
  pub count : length chances ≡ slice_index (sizes m) i * state_count (sizes_after m i)
  pub each : (k : ℕ) → k < slice_index (sizes m) i * state_count (sizes_after m i)
      → slice_index_or chances k (pos 0) ≡ chance_of m a s i (slice_index_or (states (drop i (sizes m))) k [])

-- one probability for each value, whatever the next values of the variables after i are
pub record HoldFor (m : Process) (a : Action) (s : List ℕ) (i : ℕ) (kept : List ℤ) : Type 0 where
  pub count : length kept ≡ slice_index (sizes m) i
  pub each : (v : ℕ) (rest : List ℕ) → v < slice_index (sizes m) i → IsState (sizes_after m i) rest → slice_index_or kept v (pos 0) ≡ probability m a s i v rest
