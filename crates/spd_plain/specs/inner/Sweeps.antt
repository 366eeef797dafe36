-- A sweep over all states of a model.
use Rattle.std.specs.Prelude.{ℕ, All, ◌≡◌, List, length, map, ℤ, pos}
use Rattle.spd_scaled.specs.Scaled.{IsWithin}
use Rattle.spd_model.specs.declared.Side.{Side}
use Rattle.spd_model.specs.declared.Side.TheVariants.{Above, Below}
use Rattle.spd_model.specs.declared.process.Action.{Action}
use Rattle.spd_model.specs.Process.{Process}
use Rattle.spd_model.specs.States.{sizes, state_count, at}
use Rattle.spd_model.specs.Stops.{Stop}
use Rattle.spd_model.specs.Chances.{IsValid}
use Rattle.spd_model.specs.Backup.{low_of, high_of, policy_of, highest_of}
use Rattle.spd_model.specs.Turns.{Place, ranges_of, residual_of, value_limit}
use Rattle.spd_plain.specs.declared.ranges.Bounds.{Bounds}
use Rattle.spd_plain.specs.declared.space.Space.{Space}
use Rattle.spd_plain.specs.declared.sweep.Sweep.{Sweep}
use Rattle.spd_plain.specs.declared.sweep.ResidualPlace.{ResidualPlace}
use Rattle.spd_plain.specs.declared.solve.Stop.{Stop as Stopped}
use Rattle.spd_plain.specs.inner.Bounds.{range_of}
use Rattle.spd_plain.specs.inner.Axes.{IsSpace}

-- what a sweep takes: a valid model, its states, and one bounded value for each of them
pub record CanSweep (m : Process) (space : Space) (values : List ℤ) : Type 0 where
  pub valid : IsValid m
  pub space_is : IsSpace m space
  pub count : length values ≡ state_count (sizes m)
  pub bounded : All (IsWithin (pos value_limit)) values

-- neither of two bounds passes the greatest magnitude of a value
pub record AreLimited (b : Bounds) : Type 0 where
  pub low : IsWithin (pos value_limit) b.low
  pub high : IsWithin (pos value_limit) b.high

-- the bound of an action on a side, and the number of the first action that has the greatest one
abbrev pub bound_on : Side → Process → (List ℕ → ℤ) → Action → List ℕ → ℤ
bound_on Above = high_of
bound_on Below = low_of

abbrev pub action_on : Side → Process → (List ℕ → ℤ) → List ℕ → ℕ
action_on Above = highest_of
action_on Below = policy_of

-- what a sweep finds: the ranges of all states where `values` follows, and the Bellman residual
pub record IsSweep (m : Process) (values : List ℤ) (sweep : Sweep) : Type 0 where
  pub ranges : map range_of sweep.ranges.items ≡ ranges_of m (at (sizes m) values)
  pub residual : sweep.residual ≡ residual_of m (at (sizes m) values)

-- the place of a residual that the code found, as the place of the definitions
abbrev pub place_record : ResidualPlace → Place
place_record p = record { state = p.state; side = p.side; action = p.action }

-- where the code stopped, as the stop of the definitions
abbrev pub stop_record : Stopped → Stop
stop_record stop = record { turn = stop.turn; why = stop.why }
