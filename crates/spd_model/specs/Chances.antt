-- Probabilities and rewards of a process, and when it is valid.
use Rattle.std.specs.Prelude.{ℕ, suc, ◌*◌, ◌^◌, ◌<◌, ◌≤◌, ◌≡◌, not, nat_le, ◌++◌, List, [], ◌∷◌, length, take, drop, map, flat_map, Contains, ℤ, pos, ◌-ℤ◌, ◌*ℤ◌, ◌≤ℤ◌, unsigned_abs, slice_index, slice_get, Option, Some, None, find}
use Rattle.std.specs.List.{enumerate_from}
use Rattle.std.specs.Ordering.{int_eq}
use Rattle.spd_scaled.specs.Scaled.{floor_div}
use Rattle.spd_model.specs.declared.process.Action.{Action}
use Rattle.spd_model.specs.Process.{Process}
use Rattle.spd_model.specs.Trees.{value_of}
use Rattle.spd_model.specs.Numbers.{numbers_below, total, sum_below}
use Rattle.spd_model.specs.States.{sizes, states, IsState}

-- one, as a probability
abbrev pub one : ℤ
one = pos 1000000000000

-- one, as a discount: discounts count in units of 10^-6
abbrev pub discount_one : ℕ
discount_one = 1000000

-- The probability, in units of 10^-12, that variable i has the value v next, after action a at s, where the variables after i
-- have the values `rest` next: the value of the action's tree for that variable. No table of i follows the next value of a
-- variable before i, so it doesn't matter what stands there.
abbrev pub probability : Process → Action → List ℕ → ℕ → ℕ → List ℕ → ℤ
probability m a s i v rest = elim (slice_get a.tables i) [ None ↦ pos 0 | Some tree ↦ value_of m tree s (take i s ++ v ∷ rest) ]

-- the sum of the probabilities of a variable's values
abbrev pub sum_of : Process → Action → List ℕ → ℕ → List ℕ → ℤ
sum_of m a s i rest = sum_below (slice_index (sizes m) i) (λ v. probability m a s i v rest)

-- the numbers of values of the variables after i
abbrev pub sizes_after : Process → ℕ → List ℕ
sizes_after m i = drop (suc i) (sizes m)

-- The reward of action a at s, in units of 10^-9: the sum of the reward's parts minus the sum of the action's cost parts.
-- Trees count in units of 10^-12.
abbrev pub reward_of : Process → Action → List ℕ → ℤ
reward_of m a s =
    floor_div (total (map (λ tree. value_of m tree s s) m.reward) -ℤ total (map (λ tree. value_of m tree s s) a.cost)) (pos 1000)

-- the greatest magnitude of a reward
abbrev pub reward_limit : ℕ
reward_limit = 10 ^ 18

-- A process is valid where at each state, for each action, for each variable and all next values of those after it, the
-- probabilities of the variable's next values are at least 0 and sum to one, and no reward passes its limit.
pub record IsValid (m : Process) : Type 0 where
  pub chances : (a : Action) → Contains m.actions a → (i : ℕ) → i < length m.vars → (s rest : List ℕ) → IsState (sizes m) s
      → IsState (sizes_after m i) rest → (v : ℕ) → v < slice_index (sizes m) i → pos 0 ≤ℤ probability m a s i v rest
  pub sums : (a : Action) → Contains m.actions a → (i : ℕ) → i < length m.vars → (s rest : List ℕ) → IsState (sizes m) s
      → IsState (sizes_after m i) rest → sum_of m a s i rest ≡ one
  pub rewards : (a : Action) → Contains m.actions a → (s : List ℕ) → IsState (sizes m) s → unsigned_abs (reward_of m a s) ≤ reward_limit

-- a sum of probabilities, with the numbers of its action and variable and its state
pub record Sum : Type 0 where
  pub action : ℕ
  pub var : ℕ
  pub state : List ℕ
  pub sum : ℤ

-- All sums of probabilities: by action, then variable, then state, then the next values of the variables after this one.
abbrev pub sums_of : Process → List Sum
sums_of m =
    flat_map (λ a. flat_map (λ i. flat_map (λ s. map (λ rest. record { action = a.0; var = i; state = s; sum = sum_of m a.1 s i rest })
    (states (sizes_after m i))) (states (sizes m))) (numbers_below (length m.vars))) (enumerate_from 0 m.actions)

-- the first sum that isn't one
abbrev pub first_wrong_sum : Process → Option Sum
first_wrong_sum m = find (λ (x : Sum). not (int_eq x.sum one)) (sums_of m)

-- a reward, with the number of its action and its state
pub record Reward : Type 0 where
  pub action : ℕ
  pub state : List ℕ
  pub value : ℤ

-- all rewards, by action, then state
abbrev pub rewards_of : Process → List Reward
rewards_of m =
    flat_map (λ a. map (λ s. record { action = a.0; state = s; value = reward_of m a.1 s }) (states (sizes m))) (enumerate_from 0 m.actions)

-- the first reward that passes the limit
abbrev pub first_wide_reward : Process → Option Reward
first_wide_reward m = find (λ (x : Reward). not (nat_le (unsigned_abs x.value) reward_limit)) (rewards_of m)

-- The joint probability that t is next after action a at s: the product, over the variables from i on, of the probability of
-- each one's value in t, given the values of t after it. It counts in parts of 10^12 to the power of the number of variables.
abbrev pub joint_from : Process → Action → List ℕ → ℕ → List ℕ → ℤ
joint_from m a s i [] = pos 1
joint_from m a s i (v ∷ t) = probability m a s i v t *ℤ joint_from m a s (suc i) t

abbrev pub joint : Process → Action → List ℕ → List ℕ → ℤ
joint m a s t = joint_from m a s 0 t

-- what one unit counts in exact returns of one step: discounts are parts of 10^6, joint probabilities parts of 10^12 for each variable
abbrev pub scale_of : Process → ℕ
scale_of m = discount_one * (10 ^ 12) ^ length m.vars
