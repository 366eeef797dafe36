-- A lawful process is valid exactly where its sums of probabilities are all one and no reward passes its limit.
use Rattle.std.proofs.Common.{◌≡◌, ℕ, ◌<◌, ◌≤◌, true, false, not, nat_le, List, length, map, flat_map, All, Contains, unsigned_abs, ap, sym, ◌∙◌, arith}
use Rattle.std.specs.Prelude.{Some, None}
use Rattle.std.specs.List.{enumerate_from}
use Rattle.std.specs.Ordering.{int_eq}
use Rattle.std.proofs.lemmas.Bool.{false≢true, le-leb, not-false}
use Rattle.std.proofs.lemmas.Bool.Decides.{nat_tests}
use Rattle.std.proofs.lemmas.List.Elements.{All-map, All-contains}
use Rattle.spd_scaled.proofs.CallerLemmas.Ring.{int_eq-true, int_eq-holds}
use Rattle.spd_model.specs.declared.process.Action.{Action}
use Rattle.spd_model.specs.Process.{Process}
use Rattle.spd_model.specs.Lawful.{IsLawful, IsAction}
use Rattle.spd_model.specs.Numbers.{numbers_below}
use Rattle.spd_model.specs.States.{sizes, states, IsState}
use Rattle.spd_model.specs.Chances.{Sum, Reward, one, sum_of, sizes_after, reward_of, reward_limit, sums_of, rewards_of, first_wrong_sum, first_wide_reward, IsValid}
use Rattle.spd_model.proofs.CallerLemmas.Lists.{All-flat_map, All-flat_map_back, All-map_back, All-numbers_below, All-numbers_below_back, All-enumerate, All-enumerate_back}
use Rattle.spd_model.proofs.CallerLemmas.StateOrder.{All-states, All-states_back}
use Rattle.spd_model.proofs.CallerLemmas.Finds.{find_none, find_passes, All-find}
use Rattle.spd_model.proofs.CallerLemmas.TreeValues.{probability_nonnegative}

-- a sum of the process, and its reward
abbrev pub sum_at : Process → ℕ × Action → ℕ → List ℕ → List ℕ → Sum
sum_at m a i s rest = record { action = a.0; var = i; state = s; sum = sum_of m a.1 s i rest }

abbrev pub reward_at : Process → ℕ × Action → List ℕ → Reward
reward_at m a s = record { action = a.0; state = s; value = reward_of m a.1 s }

-- the sums of a variable after an action at a state, of an action's variable, and of an action
abbrev pub sums_at : Process → ℕ × Action → ℕ → List ℕ → List Sum
sums_at m a i s = map (sum_at m a i s) (states (sizes_after m i))

abbrev pub sums_of_var : Process → ℕ × Action → ℕ → List Sum
sums_of_var m a i = flat_map (sums_at m a i) (states (sizes m))

abbrev pub sums_after : Process → ℕ × Action → List Sum
sums_after m a = flat_map (sums_of_var m a) (numbers_below (length m.vars))

abbrev pub rewards_after : Process → ℕ × Action → List Reward
rewards_after m a = map (reward_at m a) (states (sizes m))

-- ---- what holds of all sums, and of all rewards

module _ (m : Process) (P : Sum → Type 0) where
  pub All-sums : ((k : ℕ) (a : Action) → Contains m.actions a → (i : ℕ) → i < length m.vars → (s rest : List ℕ) → IsState (sizes m) s
      → IsState (sizes_after m i) rest → P (sum_at m (k, a) i s rest)) → All P (sums_of m)
  All-sums h =
      All-flat_map P (sums_after m) (enumerate_from 0 m.actions)
      (All-enumerate (λ a. All P (sums_after m a)) m.actions (λ k a near is.
      All-flat_map P (sums_of_var m (k, a)) (numbers_below (length m.vars))
      (All-numbers_below (λ i. All P (sums_of_var m (k, a) i)) (length m.vars) (λ i below.
      All-flat_map P (sums_at m (k, a) i) (states (sizes m))
      (All-states (λ s. All P (sums_at m (k, a) i s)) (sizes m) (λ s state.
      All-map P (sum_at m (k, a) i s) (states (sizes_after m i))
      (All-states (λ rest. P (sum_at m (k, a) i s rest)) (sizes_after m i) (λ rest after. h k a (k, near, is) i below s rest state after))))))))

  pub All-sums_back : All P (sums_of m) → (a : Action) → (offered : Contains m.actions a) → (i : ℕ) → i < length m.vars → (s rest : List ℕ)
      → IsState (sizes m) s → IsState (sizes_after m i) rest → P (sum_at m (offered.0, a) i s rest)
  All-sums_back h a offered i below s rest state after =
      let all_after = All-enumerate_back (λ b. All P (sums_after m b)) m.actions (All-flat_map_back P (sums_after m) (enumerate_from 0 m.actions) h) a offered in
      let b : ℕ × Action = (offered.0, a) in
      let of_var = All-numbers_below_back (λ j. All P (sums_of_var m b j)) (length m.vars)
      (All-flat_map_back P (sums_of_var m b) (numbers_below (length m.vars)) all_after) i below in
      let at_state = All-states_back (λ u. All P (sums_at m b i u)) (sizes m) (All-flat_map_back P (sums_at m b i) (states (sizes m)) of_var) s state in
      All-states_back (λ u. P (sum_at m b i s u)) (sizes_after m i) (All-map_back P (sum_at m b i s) (states (sizes_after m i)) at_state) rest after

module _ (m : Process) (P : Reward → Type 0) where
  pub All-rewards : ((k : ℕ) (a : Action) → Contains m.actions a → (s : List ℕ) → IsState (sizes m) s → P (reward_at m (k, a) s)) → All P (rewards_of m)
  All-rewards h =
      All-flat_map P (rewards_after m) (enumerate_from 0 m.actions)
      (All-enumerate (λ a. All P (rewards_after m a)) m.actions (λ k a near is.
      All-map P (reward_at m (k, a)) (states (sizes m)) (All-states (λ s. P (reward_at m (k, a) s)) (sizes m) (λ s state. h k a (k, near, is) s state))))

  pub All-rewards_back : All P (rewards_of m) → (a : Action) → (offered : Contains m.actions a) → (s : List ℕ) → IsState (sizes m) s
      → P (reward_at m (offered.0, a) s)
  All-rewards_back h a offered s state =
      let all_after = All-enumerate_back (λ b. All P (rewards_after m b)) m.actions (All-flat_map_back P (rewards_after m) (enumerate_from 0 m.actions) h) a offered in
      All-states_back (λ u. P (reward_at m (offered.0, a) u)) (sizes m)
      (All-map_back P (reward_at m (offered.0, a)) (states (sizes m)) all_after) s state

-- ---- validity

small_enough : (x : ℕ) → nat_le x reward_limit ≡ true → x ≤ reward_limit
small_enough x h = grind (arith, nat_tests)

pub is_valid : (m : Process) → IsLawful m → first_wrong_sum m ≡ None → first_wide_reward m ≡ None → IsValid m
is_valid m law no_sum no_reward = record {
  chances = λ a offered i near s rest state after v below.
      probability_nonnegative m a (All-contains (IsAction m) m.actions a law.actions offered) s i v rest near;
  sums = λ a offered i near s rest state after.
      int_eq-true _ _ (not-false _ (All-sums_back m (λ x. not (int_eq x.sum one) ≡ false) (find_none (λ (x : Sum). not (int_eq x.sum one)) (sums_of m) no_sum)
      a offered i near s rest state after));
  rewards = λ a offered s state.
      small_enough _ (not-false _ (All-rewards_back m (λ x. not (nat_le (unsigned_abs x.value) reward_limit) ≡ false)
      (find_none (λ (x : Reward). not (nat_le (unsigned_abs x.value) reward_limit)) (rewards_of m) no_reward) a offered s state));
}

pub wrong_sum-invalid : (m : Process) (x : Sum) → first_wrong_sum m ≡ Some x → IsValid m → ⊥
wrong_sum-invalid m x is valid =
    let whole : x.sum ≡ one = All-find (λ y. y.sum ≡ one) _ (sums_of m) x (All-sums m (λ y. y.sum ≡ one) (λ k a offered i near s rest state after.
    valid.sums a offered i near s rest state after)) is in
    let wrong : not (int_eq x.sum one) ≡ true = find_passes (λ (y : Sum). not (int_eq y.sum one)) (sums_of m) x is in
    false≢true (sym (ap not (int_eq-holds x.sum one whole)) ∙ wrong)

pub wide_reward-invalid : (m : Process) (x : Reward) → first_wide_reward m ≡ Some x → IsValid m → ⊥
wide_reward-invalid m x is valid =
    let small : unsigned_abs x.value ≤ reward_limit = All-find (λ y. unsigned_abs y.value ≤ reward_limit) _ (rewards_of m) x
    (All-rewards m (λ y. unsigned_abs y.value ≤ reward_limit) (λ k a offered s state. valid.rewards a offered s state)) is in
    let wide : not (nat_le (unsigned_abs x.value) reward_limit) ≡ true =
    find_passes (λ (y : Reward). not (nat_le (unsigned_abs y.value) reward_limit)) (rewards_of m) x is in
    false≢true (sym (ap not (le-leb (unsigned_abs x.value) reward_limit small)) ∙ wide)

-- what is told stands at a state
pub wrong_sum-placed : (m : Process) (x : Sum) → first_wrong_sum m ≡ Some x → IsState (sizes m) x.state
wrong_sum-placed m x is =
    All-find (λ y. IsState (sizes m) y.state) _ (sums_of m) x (All-sums m (λ y. IsState (sizes m) y.state) (λ k a offered i near s rest state after. state)) is

pub wide_reward-placed : (m : Process) (x : Reward) → first_wide_reward m ≡ Some x → IsState (sizes m) x.state
wide_reward-placed m x is =
    All-find (λ y. IsState (sizes m) y.state) _ (rewards_of m) x (All-rewards m (λ y. IsState (sizes m) y.state) (λ k a offered s state. state)) is
