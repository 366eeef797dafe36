-- The states of a model as a list, and the place of each variable in their order.
use Rattle.std.specs.Prelude.{ℕ, ◌≡◌, ◌<◌, ◌≤◌, ◌*◌, List, length, map, slice_index}
use Rattle.spd_model.specs.Process.{Process}
use Rattle.spd_model.specs.Lawful.{IsLawful}
use Rattle.spd_model.specs.Numbers.{numbers_below}
use Rattle.spd_model.specs.States.{sizes, states, state_count}
use Rattle.spd_model.specs.Chances.{sizes_after}
use Rattle.spd_plain.specs.declared.space.Axis.{Axis}
use Rattle.spd_plain.specs.declared.space.Space.{Space}
use Rattle.spd_plain.specs.Space.{state_limit}

-- a variable in the order of the states
abbrev pub axis_of : Process → ℕ → Axis
axis_of m i = record { var = i; size = slice_index (sizes m) i; after = state_count (sizes_after m i) }

abbrev pub axes_of : Process → List Axis
axes_of m = map (axis_of m) (numbers_below (length m.vars))

-- the states and the variables of a lawful model whose states don't pass the limit
pub record IsSpace (m : Process) (space : Space) : Type 0 where
  pub law : IsLawful m
  pub few : state_count (sizes m) ≤ state_limit
  pub states : space.states ≡ states (sizes m)
  pub axes : space.axes ≡ axes_of m

-- a variable of such a model, as it stands in that order
pub record IsAxis (m : Process) (axis : Axis) : Type 0 where
  pub law : IsLawful m
  pub near : axis.var < length m.vars
  pub is : axis ≡ axis_of m axis.var
  pub few : axis.size * axis.after ≤ state_limit
