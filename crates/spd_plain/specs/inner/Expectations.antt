-- Tables of expectations, from which one variable after another is summed out.
use Rattle.std.specs.Prelude.{ℕ, ◌+◌, ◌*◌, ◌≡◌, ◌<◌, ◌≤◌, All, List, length, ℤ, pos, ◌*ℤ◌, ◌≤ℤ◌, slice_index_or}
use Rattle.spd_scaled.specs.Scaled.{floor_div, ceil_div, IsWithin}
use Rattle.spd_model.specs.declared.Side.{Side}
use Rattle.spd_model.specs.declared.Side.TheVariants.{Above, Below}
use Rattle.spd_model.specs.Numbers.{sum_below}
use Rattle.spd_model.specs.Chances.{one}
use Rattle.spd_model.specs.Backup.{Rounding}
use Rattle.spd_model.specs.Turns.{value_limit}
use Rattle.spd_plain.specs.Space.{state_limit}

-- how a bound on a side is rounded
abbrev pub rounding_of : Side → Rounding
rounding_of Above = ceil_div
rounding_of Below = floor_div

-- what a table has for the value v of a variable, where the variables after it have `after` states and are in the k-th
abbrev pub entry : ℕ → List ℤ → ℕ → ℕ → ℤ
entry after table v k = slice_index_or table (v * after + k) (pos 0)

-- the sum, over the values of a variable, of the chance of each times what `values` has there
abbrev pub weighted : ℕ → ℕ → List ℤ → List ℤ → ℕ → ℤ
weighted size after chances values k = sum_below size (λ v. entry after chances v k *ℤ entry after values v k)

-- for each state of the variables after it, the chances of a variable's values are at least 0 and sum to one
pub record AreWeights (size after : ℕ) (chances : List ℤ) : Type 0 where
  pub count : length chances ≡ size * after
  pub nonnegative : (v k : ℕ) → v < size → k < after → pos 0 ≤ℤ entry after chances v k
  pub whole : (k : ℕ) → k < after → sum_below size (λ v. entry after chances v k) ≡ one

-- what summing a variable out takes: the chances of its values, and a bounded entry for each value and each state of the variables after it
pub record IsReady (size after : ℕ) (chances values : List ℤ) : Type 0 where
  pub some : 0 < size
  pub few : size * after ≤ state_limit
  pub weights : AreWeights size after chances
  pub count : length values ≡ size * after
  pub bounded : All (IsWithin (pos value_limit)) values
