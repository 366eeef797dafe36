-- What value iteration on plain tables ends with.
use Rattle.std.specs.Prelude.{ℕ, ◌≡◌, ◌<◌, ◌≤◌, ◌==◌, length, ℤ, Some, None, MatchResult, Result, slice_index}
use Rattle.std.specs.Ordering.{int_eq}
use Rattle.spd_model.specs.Process.{Process}
use Rattle.spd_model.specs.States.{sizes, table_of, at, rank, state_count, IsState}
use Rattle.spd_model.specs.Chances.{IsValid, first_wrong_sum, first_wide_reward}
use Rattle.spd_model.specs.Backup.{policy_of}
use Rattle.spd_model.specs.Turns.{turn, residual_of, place_of, error_of, stop_of, stop_value}
use Rattle.spd_model.specs.Reduced.{listed, reduced}
use Rattle.spd_model.specs.ResultText.{Iterate}
use Rattle.spd_plain.specs.declared.solve.Plain.{Plain}
use Rattle.spd_plain.specs.declared.solve.PlainFault.{PlainFault}
use Rattle.spd_plain.specs.declared.solve.PlainFault.TheVariants.{TooManyStates, Sum, Range, Memory}
use Rattle.spd_plain.specs.Space.{state_limit, first_large_product}

-- The result: the turn at which the run stops and its table, the table's policy, its residual with the place, and the error.
abbrev pub plain_of : Process → ℕ → ℤ → Plain
plain_of m turns span =
    let stop = stop_of m turns span in
    let w = stop_value m turns span in
    let residual = residual_of m w in
    let place = place_of m w residual in
    record {
      turn = stop.turn;
      why = stop.why;
      value = turn m span stop.turn;
      policy = table_of (sizes m) (policy_of m w);
      residual = residual;
      place = place.state;
      side = place.side;
      action = place.action;
      error = error_of m residual;
    }

-- What a result on tables tells: its turn, residual, place and error, and the reduced diagrams of its two tables.
abbrev pub told_of : Process → Plain → Iterate
told_of m p = record {
  turn = p.turn;
  residual = p.residual;
  place = record { state = p.place; side = p.side; action = p.action };
  error = p.error;
  value = listed int_eq (reduced int_eq (sizes m) (at (sizes m) p.value));
  policy = listed (λ a b. a == b) (reduced (λ a b. a == b) (sizes m) (λ s. slice_index p.policy (rank (sizes m) s)));
}

-- The cause of a fault: more states than the limit, with the first product of leading variables' sizes that passes it; where there
-- aren't, the model's first wrong sum; where all sums are one, its first reward that passes the limit. Want of memory has no cause
-- in the model.
abbrev pub FaultCause : Process → PlainFault → Type 0
FaultCause m (TooManyStates product) = (state_limit < state_count (sizes m)) × (first_large_product m ≡ Some product)
FaultCause m (Sum action var state sum) = (state_count (sizes m) ≤ state_limit)
    × (first_wrong_sum m ≡ Some (record { action = action; var = var; state = state; sum = sum }))
FaultCause m (Range action state value) = (state_count (sizes m) ≤ state_limit) × (first_wrong_sum m ≡ None)
    × (first_wide_reward m ≡ Some (record { action = action; state = state; value = value }))
FaultCause m Memory = Unit {0}

-- the cause of an answer: a value comes only where the states are few enough, no sum is wrong and no reward passes its limit
abbrev pub Cause : Process → Result Plain PlainFault → Type 0
Cause m result =
    MatchResult result (λ p. (state_count (sizes m) ≤ state_limit) × (first_wrong_sum m ≡ None) × (first_wide_reward m ≡ None)) (FaultCause m)

-- value and policy have an entry for each state, and the residual's place is a state
pub record IsShaped (m : Process) (p : Plain) : Type 0 where
  pub value : length p.value ≡ state_count (sizes m)
  pub policy : length p.policy ≡ state_count (sizes m)
  pub place : IsState (sizes m) p.place

-- a wrong sum or a wide reward is of a model that isn't valid
abbrev pub IsInvalid : Process → PlainFault → Type 0
IsInvalid m (TooManyStates product) = Unit {0}
IsInvalid m (Sum action var state sum) = IsValid m → ⊥
IsInvalid m (Range action state value) = IsValid m → ⊥
IsInvalid m Memory = Unit {0}

-- the state of a fault is a state
abbrev pub IsPlaced : Process → PlainFault → Type 0
IsPlaced m (TooManyStates product) = Unit {0}
IsPlaced m (Sum action var state sum) = IsState (sizes m) state
IsPlaced m (Range action state value) = IsState (sizes m) state
IsPlaced m Memory = Unit {0}
