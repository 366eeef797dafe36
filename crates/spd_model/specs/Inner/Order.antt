-- The step from a state to the next one in the order of all states.
use Rattle.std.specs.Prelude.{ℕ, ◌+◌, ◌<◌, ◌≡◌, List, length, drop, slice_index}
use Rattle.spd_model.specs.States.{rank, state_count}

-- The value of a variable can be raised: it isn't the variable's last value, and the variables after it have their last values.
pub record IsRaisable (sizes s : List ℕ) (var : ℕ) : Type 0 where
  pub near : var < length sizes
  pub below : slice_index s var + 1 < slice_index sizes var
  pub last : rank (drop (var + 1) sizes) (drop (var + 1) s) + 1 ≡ state_count (drop (var + 1) sizes)
