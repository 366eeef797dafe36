-- The Bellman backup: rounded expectations, the bounds of each action, and the policy.
use Rattle.std.specs.Prelude.{ℕ, zero, suc, List, [], ◌∷◌, length, map, ℤ, pos, ◌+ℤ◌, ◌*ℤ◌, slice_index}
use Rattle.spd_scaled.specs.Scaled.{floor_div, ceil_div}
use Rattle.spd_model.specs.declared.process.Action.{Action}
use Rattle.spd_model.specs.Process.{Process}
use Rattle.spd_model.specs.Numbers.{sum_below, greatest, first_place}
use Rattle.spd_model.specs.States.{sizes}
use Rattle.spd_model.specs.Chances.{one, discount_one, probability, reward_of}

-- a quotient, rounded: `floor_div` or `ceil_div`
abbrev pub Rounding : Type 0
Rounding = ℤ → ℤ → ℤ

-- The expectation of w over the next values of the first i variables, summed out one after another in file order and rounded
-- after each. `rest` has the next values of the variables after those. `chance j v rest` is the probability of value v of
-- variable j, where the variables after j have the values `rest` next.
abbrev pub expected_by : Rounding → (ℕ → ℕ) → (ℕ → ℕ → List ℕ → ℤ) → (List ℕ → ℤ) → ℕ → List ℕ → ℤ
expected_by round size chance w zero rest = w rest
expected_by round size chance w (suc i) rest =
    round (sum_below (size i) (λ v. chance i v rest *ℤ expected_by round size chance w i (v ∷ rest))) one

-- the rounded expectation of w after action a at s, over all variables
abbrev pub expectation : Rounding → Process → (List ℕ → ℤ) → Action → List ℕ → ℤ
expectation round m w a s = expected_by round (slice_index (sizes m)) (probability m a s) w (length m.vars) []

-- The return of action a at s: its reward plus the discounted expectation of what follows, both rounded the same way. `expected`
-- is that expectation, by action and state.
abbrev pub return_of : Rounding → Process → (Action → List ℕ → ℤ) → Action → List ℕ → ℤ
return_of round m expected a s = reward_of m a s +ℤ round (pos m.discount *ℤ expected a s) (pos discount_one)

-- the bounds of that return where w follows, below and above
abbrev pub low_of : Process → (List ℕ → ℤ) → Action → List ℕ → ℤ
low_of m w = return_of floor_div m (expectation floor_div m w)

abbrev pub high_of : Process → (List ℕ → ℤ) → Action → List ℕ → ℤ
high_of m w = return_of ceil_div m (expectation ceil_div m w)

-- the greatest lower and the greatest upper bound over all actions
abbrev pub best_low : Process → (List ℕ → ℤ) → List ℕ → ℤ
best_low m w s = greatest (map (λ a. low_of m w a s) m.actions)

abbrev pub best_high : Process → (List ℕ → ℤ) → List ℕ → ℤ
best_high m w s = greatest (map (λ a. high_of m w a s) m.actions)

-- the policy: the number of the first action in the file that has the greatest lower bound
abbrev pub policy_of : Process → (List ℕ → ℤ) → List ℕ → ℕ
policy_of m w s = first_place (best_low m w s) (map (λ a. low_of m w a s) m.actions)

-- the number of the first action that has the greatest upper bound
abbrev pub highest_of : Process → (List ℕ → ℤ) → List ℕ → ℕ
highest_of m w s = first_place (best_high m w s) (map (λ a. high_of m w a s) m.actions)
