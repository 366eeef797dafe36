-- The values that pairs give the variables, by variable.
use Rattle.std.specs.Prelude.{ℕ, ◌≡◌, List, length, All, Contains, Option, Some, None, slice_index_or}
use Rattle.spd_model.specs.Process.{Process}
use Rattle.spd_model.specs.StatePairs.{AreFine}

-- the pairs are fine, and of the places for 100 variables just those have a value whose variable has a pair, namely that pair's
pub record AreChosen (m : Process) (pairs : List (ℕ × ℕ)) (chosen : List (Option ℕ)) : Type 0 where
  pub fine : AreFine m pairs
  pub places : length chosen ≡ 100
  pub given : All (λ p. slice_index_or chosen p.0 None ≡ Some p.1) pairs
  pub only : (var value : ℕ) → slice_index_or chosen var None ≡ Some value → Contains pairs (var, value)
