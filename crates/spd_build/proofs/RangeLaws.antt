-- The first place at which a reward's diagram has a number past the limit, as the first wide reward of an action.
use Rattle.std.proofs.Common.{◌≡◌, ℕ, ◌+◌, ◌<◌, ◌≤◌, take, get_or, Bool, true, false, cond, List, [], ◌∷◌, length, map, flat_map, find, refl, sym, ◌∙◌, ap, arith, All, Some, None, not, nat_le, unsigned_abs}
use Rattle.std.specs.List.{enumerate_from}
use Rattle.std.specs.Option.{option_map, option_or}
use Rattle.std.proofs.lemmas.List.Folds.{find-append}
use Rattle.std.proofs.lemmas.List.FromFn.{length-enumerate_from}
use Rattle.std.proofs.lemmas.List.Elements.{All-head, All-tail}
use Rattle.spd_model.specs.declared.process.Action.{Action}
use Rattle.spd_model.specs.Process.{Process}
use Rattle.spd_model.specs.Lawful.{IsLawful}
use Rattle.spd_model.specs.States.{sizes, states, IsState}
use Rattle.spd_model.specs.Chances.{Reward, reward_of, reward_limit, first_wrong_sum, first_wide_reward}
use Rattle.spd_model.proofs.CallerLemmas.Finds.{find_here, find_none_more, find_flat_none}
use Rattle.spd_model.proofs.CallerLemmas.Validity.{rewards_after}
use Rattle.spd_model.proofs.CallerLemmas.StateOrder.{All-states, length-states, sizes_some, state_count_some}
use Rattle.spd_nodes.specs.declared.leaf.Leaf.TheVariants.{Num}
use Rattle.spd_nodes.specs.States.{Function, Agree}
use Rattle.spd_frozen.specs.Told.{number_of}
use Rattle.spd_search.specs.declared.found.Found.{Found}
use Rattle.spd_search.specs.Found.{found_at, first_found}
use Rattle.spd_build.specs.Functions.{reward}
use Rattle.spd_nodes.specs.Shown.{Shown}
use Rattle.spd_build.specs.Built.{BuildCause}
use Rattle.spd_build.specs.Ranges.{is_wide, wide_after, RewardCause}
use Rattle.spd_build.specs.declared.built.BuildFault.{BuildFault}
use Rattle.spd_build.specs.declared.built.BuildFault.TheVariants as Fault
use Rattle.spd_build.proofs.WeighingLaws.{enumerated}

-- what was found in an action's reward, as a reward
abbrev pub told : ℕ → Found → Reward
told k found = record { action = k; state = found.state; value = number_of found.leaf }

abbrev pub passes_limit : Reward → Bool
passes_limit x = not (nat_le (unsigned_abs x.value) reward_limit)

module _ (m : Process) (k : ℕ) (a : Action) (f : Function) (agree : Agree (sizes m) f (reward m a)) where
  abbrev wide : List ℕ × List ℕ → Bool
  wide p = is_wide (f p.0 p.1)

  abbrev here : List ℕ → Reward
  here s = record { action = k; state = s; value = reward_of m a s }

  -- nothing at a state whose reward is within the limit
  none-at : (s : List ℕ) → IsState (sizes m) s → passes_limit (here s) ≡ false → (ts : List (List ℕ)) → All (IsState (sizes m)) ts → find wide (map (λ t. (s, t)) ts) ≡ None
  none-at s is e [] h = refl
  none-at s is e (t ∷ ts) h =
      ap (λ b. cond b (Some (s, t)) (find wide (map (λ u. (s, u)) ts))) (ap is_wide (agree.at s t is (All-head (IsState (sizes m)) t ts h)) ∙ e)
      ∙ none-at s is e ts (All-tail (IsState (sizes m)) t ts h)

  module _ (t : List ℕ) (ts : List (List ℕ)) (next : All (IsState (sizes m)) (t ∷ ts)) where
    abbrev pairs : List (List ℕ) → List (List ℕ × List ℕ)
    pairs ss = flat_map (λ s. map (λ u. (s, u)) (t ∷ ts)) ss

    first-is : (ss : List (List ℕ)) → All (IsState (sizes m)) ss
        → option_map (told k) (option_map (found_at f) (find wide (pairs ss))) ≡ find passes_limit (map here ss)
    first-is [] h = refl
    first-is (s ∷ ss) h = by (first-is ss (All-tail (IsState (sizes m)) s ss h)) (passes_limit (here s)) refl
      where
        is : IsState (sizes m) s
        is = All-head (IsState (sizes m)) s ss h

        leaf : f s t ≡ Num (reward_of m a s)
        leaf = agree.at s t is (All-head (IsState (sizes m)) t ts next)

        split : find wide (pairs (s ∷ ss)) ≡ option_or (find wide (map (λ u. (s, u)) (t ∷ ts))) (find wide (pairs ss))
        split = find-append wide (map (λ u. (s, u)) (t ∷ ts)) (pairs ss)

        by : option_map (told k) (option_map (found_at f) (find wide (pairs ss))) ≡ find passes_limit (map here ss) → (b : Bool) → passes_limit (here s) ≡ b
            → option_map (told k) (option_map (found_at f) (find wide (pairs (s ∷ ss)))) ≡ cond (passes_limit (here s)) (Some (here s)) (find passes_limit (map here ss))
        by later true e =
            ap (λ o. option_map (told k) (option_map (found_at f) o))
            (split ∙ ap (λ b. option_or (cond b (Some (s, t)) (find wide (map (λ u. (s, u)) ts))) (find wide (pairs ss))) (ap is_wide leaf ∙ e))
            ∙ ap (λ l. Some (told k (record { state = s; leaf = l }))) leaf
            ∙ sym (ap (λ b. cond b (Some (here s)) (find passes_limit (map here ss))) e)
        by later false e =
            ap (λ o. option_map (told k) (option_map (found_at f) o))
            (split ∙ ap (λ o. option_or o (find wide (pairs ss))) (none-at s is e (t ∷ ts) next))
            ∙ later
            ∙ sym (ap (λ b. cond b (Some (here s)) (find passes_limit (map here ss))) e)

  all-are : (ts ss : List (List ℕ)) → 0 < length ts → All (IsState (sizes m)) ts → All (IsState (sizes m)) ss
      → option_map (told k) (option_map (found_at f) (find wide (flat_map (λ s. map (λ u. (s, u)) ts) ss))) ≡ find passes_limit (map here ss)
  all-are [] ss some p h = absurd (omega arith)
  all-are (t ∷ ts) ss some p h = first-is t ts p ss h

  -- the first place of a number past the limit is the first wide reward
  pub wide-is : IsLawful m → option_map (told k) (first_found (sizes m) is_wide f) ≡ wide_after m (k, a)
  wide-is law =
      let every = All-states (IsState (sizes m)) (sizes m) (λ s is. is) in
      let some = state_count_some (sizes m) (sizes_some m law) in
      all-are (states (sizes m)) (states (sizes m)) (omega (arith, some, length-states (sizes m))) every every

-- a search that is at the action of number k, with no wide reward of one before
module _ (m : Process) (k : ℕ) (a : Action) (near : k < length m.actions) (is : a ≡ get_or m.actions k a)
    (none : find passes_limit (flat_map (rewards_after m) (take k (enumerate_from 0 m.actions))) ≡ None) where
  numbered : get_or (enumerate_from 0 m.actions) k (k, a) ≡ (k, a)
  numbered = sym (enumerated m.actions k a near is)

  counted : k < length (enumerate_from 0 m.actions)
  counted = omega (arith, length-enumerate_from 0 m.actions)

  pub none-more : wide_after m (k, a) ≡ None → find passes_limit (flat_map (rewards_after m) (take (k + 1) (enumerate_from 0 m.actions))) ≡ None
  none-more here =
      find_none_more passes_limit (rewards_after m) (enumerate_from 0 m.actions) k (k, a) counted none
      (ap (λ (x : ℕ × Action). find passes_limit (rewards_after m x)) numbered ∙ here)

  first-wide : (x : Reward) → wide_after m (k, a) ≡ Some x → first_wide_reward m ≡ Some x
  first-wide x here =
      find_here passes_limit (rewards_after m) (enumerate_from 0 m.actions) k (k, a) counted none x
      (ap (λ (x : ℕ × Action). find passes_limit (rewards_after m x)) numbered ∙ here)

  -- the cause of the action's fault is one of building
  pub reward-cause : (s : Shown) (e : BuildFault) → first_wrong_sum m ≡ None → RewardCause m (k, a) s e → BuildCause m s e
  reward-cause s (Fault.Sum action var state sum) sums h = absurd h
  reward-cause s (Fault.Range action state value) sums h = (sums, first-wide (record { action = action; state = state; value = value }) h)
  reward-cause s Fault.Full sums h = h
  reward-cause s Fault.Memory sums h = tt

-- none in all actions
pub none-wide : (m : Process) (k : ℕ) → length m.actions ≤ k → find passes_limit (flat_map (rewards_after m) (take k (enumerate_from 0 m.actions))) ≡ None
    → first_wide_reward m ≡ None
none-wide m k past none = find_flat_none passes_limit (rewards_after m) (enumerate_from 0 m.actions) k (omega (arith, length-enumerate_from 0 m.actions)) none
