-- The faults of a model: a sum of probabilities that isn't one, a reward that passes its limit. What is first among some of them.
use Rattle.std.specs.Prelude.{ℕ, List, not, nat_le, map, flat_map, length, find, unsigned_abs, Option}
use Rattle.std.specs.Ordering.{int_eq}
use Rattle.spd_model.specs.declared.process.Action.{Action}
use Rattle.spd_model.specs.Process.{Process}
use Rattle.spd_model.specs.Numbers.{numbers_below}
use Rattle.spd_model.specs.States.{sizes, states}
use Rattle.spd_model.specs.Chances.{Sum, Reward, sum_of, sizes_after, reward_of, one, reward_limit}
use Rattle.spd_plain.specs.declared.validity.WrongSum.{WrongSum}
use Rattle.spd_plain.specs.declared.validity.WideReward.{WideReward}

-- a fault that the code found, as the fault of the definitions
abbrev pub sum_record : WrongSum → Sum
sum_record x = record { action = x.action; var = x.var; state = x.state; sum = x.sum }

abbrev pub reward_record : WideReward → Reward
reward_record x = record { action = x.action; state = x.state; value = x.value }

-- the sums of the variable i after an action at s, and the action's reward there; the action stands with its number
abbrev pub sums_at : Process → ℕ × Action → ℕ → List ℕ → List Sum
sums_at m a i s = map (λ rest. record { action = a.0; var = i; state = s; sum = sum_of m a.1 s i rest }) (states (sizes_after m i))

abbrev pub reward_at : Process → ℕ × Action → List ℕ → Reward
reward_at m a s = record { action = a.0; state = s; value = reward_of m a.1 s }

-- the first sum that isn't one of the variable i after an action at s
abbrev pub wrong_sum_at : Process → ℕ × Action → ℕ → List ℕ → Option Sum
wrong_sum_at m a i s = find (λ (x : Sum). not (int_eq x.sum one)) (sums_at m a i s)

-- the first one at any state, of any variable
abbrev pub wrong_sum_of_var : Process → ℕ × Action → ℕ → Option Sum
wrong_sum_of_var m a i = find (λ (x : Sum). not (int_eq x.sum one)) (flat_map (sums_at m a i) (states (sizes m)))

abbrev pub wrong_sum_after : Process → ℕ × Action → Option Sum
wrong_sum_after m a =
    find (λ (x : Sum). not (int_eq x.sum one)) (flat_map (λ i. flat_map (sums_at m a i) (states (sizes m))) (numbers_below (length m.vars)))

-- the first reward of an action that passes the limit
abbrev pub wide_reward_after : Process → ℕ × Action → Option Reward
wide_reward_after m a = find (λ (x : Reward). not (nat_le (unsigned_abs x.value) reward_limit)) (map (reward_at m a) (states (sizes m)))
