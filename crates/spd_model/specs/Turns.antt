-- Value iteration: the turns, the residual of a value, where a run stops, and the error that is told.
use Rattle.std.specs.Prelude.{ℕ, zero, suc, ◌+◌, ◌-◌, ◌*◌, Bool, ◌||◌, if◌then◌else◌, List, [], ◌∷◌, ℤ, pos, ◌-ℤ◌, ◌*ℤ◌, int_le, map, find, unwrap_or}
use Rattle.std.specs.Int.{int_max}
use Rattle.std.specs.Ordering.{int_eq}
use Rattle.spd_scaled.specs.Scaled.{ceil_div, IsWithin}
use Rattle.spd_model.specs.declared.Side.{Side}
use Rattle.spd_model.specs.declared.Side.TheVariants.{Above, Below}
use Rattle.spd_model.specs.Process.{Process}
use Rattle.spd_model.specs.Numbers.{greatest}
use Rattle.spd_model.specs.States.{sizes, states, IsState, table_of, at}
use Rattle.spd_model.specs.Stops.{Stop, first_stop}
use Rattle.spd_model.specs.Chances.{discount_one, reward_of, reward_limit}
use Rattle.spd_model.specs.Backup.{best_low, best_high, policy_of, highest_of}
use Rattle.spd_model.specs.Ranges.{Range, merged}

-- turn 0: at each state the greatest reward over all actions
abbrev pub start_of : Process → List ℤ
start_of m = table_of (sizes m) (λ s. greatest (map (λ a. reward_of m a s) m.actions))

-- the ranges of all states, where w follows: from the greatest lower to the greatest upper bound
abbrev pub ranges_of : Process → (List ℕ → ℤ) → List Range
ranges_of m w = table_of (sizes m) (λ s. record { low = best_low m w s; high = best_high m w s })

-- the turn after the table w
abbrev pub next_of : Process → ℤ → List ℤ → List ℤ
next_of m span w = merged span (ranges_of m (at (sizes m) w))

-- the table of turn k, one value for each state in order, in units of 10^-9
abbrev pub turn : Process → ℤ → ℕ → List ℤ
turn m span zero = start_of m
turn m span (suc k) = next_of m span (turn m span k)

-- how far the greatest upper bound at s lies above w, and the greatest lower bound below it
abbrev pub gap_above : Process → (List ℕ → ℤ) → List ℕ → ℤ
gap_above m w s = best_high m w s -ℤ w s

abbrev pub gap_below : Process → (List ℕ → ℤ) → List ℕ → ℤ
gap_below m w s = w s -ℤ best_low m w s

-- the Bellman residual of w: the greatest of 0 and of all gaps
abbrev pub residual_of : Process → (List ℕ → ℤ) → ℤ
residual_of m w = greatest (pos 0 ∷ table_of (sizes m) (λ s. int_max (gap_above m w s) (gap_below m w s)))

-- where a value's residual lies
pub record Place : Type 0 where
  pub state : List ℕ
  pub side : Side
  pub action : ℕ

-- the first state at which one of the two gaps equals the residual
abbrev pub state_of_residual : Process → (List ℕ → ℤ) → ℤ → List ℕ
state_of_residual m w r = unwrap_or (find (λ s. int_eq r (gap_above m w s) || int_eq r (gap_below m w s)) (states (sizes m))) []

-- The place of the residual r: its state; above where the gap above equals r there, else below; and the first action with the
-- greatest upper bound there, or, below, the policy's.
abbrev pub place_of : Process → (List ℕ → ℤ) → ℤ → Place
place_of m w r =
    let s = state_of_residual m w r in
    if int_eq r (gap_above m w s) then record { state = s; side = Above; action = highest_of m w s }
    else record { state = s; side = Below; action = policy_of m w s }

-- the stop rule for a turn with residual r: 2 * r <= tolerance * (1 - discount)
abbrev pub stops_at : Process → ℤ → Bool
stops_at m r = int_le (pos 2 *ℤ r *ℤ pos discount_one) (m.tolerance *ℤ pos (discount_one - m.discount))

-- whether the stop rule holds at turn k
abbrev pub rule_at : Process → ℤ → ℕ → Bool
rule_at m span k = stops_at m (residual_of m (at (sizes m) (turn m span k)))

-- the stop of the run of a process at a turn limit and a span
abbrev pub stop_of : Process → ℕ → ℤ → Stop
stop_of m turns span = first_stop (rule_at m span) turns

-- the value at which the run stops, by state
abbrev pub stop_value : Process → ℕ → ℤ → List ℕ → ℤ
stop_value m turns span = at (sizes m) (turn m span (stop_of m turns span).turn)

-- the error of a value with residual r: r / (1 - discount), rounded up
abbrev pub error_of : Process → ℤ → ℤ
error_of m r = ceil_div (r *ℤ pos discount_one) (pos (discount_one - m.discount))

-- the greatest magnitude of a value at any turn
abbrev pub value_limit : ℕ
value_limit = (reward_limit + 1) * discount_one

-- no value of w passes that magnitude
abbrev pub IsBounded : List ℕ → (List ℕ → ℤ) → Type 0
IsBounded sizes w = (s : List ℕ) → IsState sizes s → IsWithin (pos value_limit) (w s)
