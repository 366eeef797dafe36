-- The greatest reward over the first actions as a diagram.
use Rattle.std.proofs.Common.{◌≡◌, ℕ, suc, ◌+◌, ◌<◌, ◌≤◌, List, [], ◌∷◌, length, map, get_or, take, refl, sym, ◌∙◌, ap, subst, arith}
use Rattle.std.specs.List.{AllZip}
use Rattle.std.specs.Int.{int_max}
use Rattle.std.proofs.lemmas.List.{take_all, take_more, map_push, get_or-map, length-take}
use Rattle.std.proofs.Math.ListN.{length-map}
use Rattle.spd_cons_core.specs.declared.key.Entry.{Entry}
use Rattle.spd_model.specs.declared.process.Action.{Action}
use Rattle.spd_model.specs.Process.{Process}
use Rattle.spd_model.specs.Numbers.{greatest, numbers_below}
use Rattle.spd_model.specs.Chances.{reward_of}
use Rattle.spd_model.proofs.CallerLemmas.Greatest.{greatest-push}
use Rattle.spd_model.proofs.CallerLemmas.Lists.{length-numbers_below, get_or-numbers_below}
use Rattle.spd_nodes.specs.declared.leaf.Leaf.TheVariants.{Num}
use Rattle.spd_nodes.specs.States.{Agree}
use Rattle.spd_nodes.specs.Shown.{Shown, StandsFor, meaning}
use Rattle.spd_nodes.proofs.CallerLemmas.{Among, among-flat, stand-length}
use Rattle.spd_apply.specs.Operations.{are_nums, num_of}
use Rattle.spd_apply.specs.Outcome.{FitEverywhere, at_each}
use Rattle.spd_build.specs.Functions.{reward, greatest_reward, start, start_functions}
use Rattle.spd_build.proofs.FittingLaws.{stand-at}

-- the greatest reward with one action more
greatest-more : (m : Process) (i : ℕ) (d : Action) (x : List ℕ) → 0 < i → i < length m.actions
    → int_max (greatest (map (λ a. reward_of m a x) (take i m.actions))) (reward_of m (get_or m.actions i d) x) ≡ greatest (map (λ a. reward_of m a x) (take (i + 1) m.actions))
greatest-more m i d x some near =
    let f = λ (a : Action). reward_of m a x in
    sym (ap (λ l. greatest (map f l)) (take_more m.actions i d near) ∙ ap greatest (map_push f (take i m.actions) (get_or m.actions i d))
    ∙ greatest-push (map f (take i m.actions)) (f (get_or m.actions i d)) (omega (arith, length-map (take i m.actions) f, length-take i m.actions)))

-- the functions of the start with one action more
pub more-start : (m : Process) (k : ℕ) → k < length m.actions → Among (greatest_reward m (k + 1) ∷ []) (start_functions m)
more-start m k near =
    let each = λ (n : ℕ). greatest_reward m (suc n) ∷ [] in
    let next : suc k ≡ k + 1 = omega arith in
    subst (λ (n : ℕ). Among (greatest_reward m n ∷ []) (start_functions m)) next
    (subst (λ (i : ℕ). Among (each i) (start_functions m)) (get_or-numbers_below (length m.actions) k near)
    (among-flat each (numbers_below (length m.actions)) k 0 (omega (arith, length-numbers_below (length m.actions)))))

-- the diagrams of all rewards
module _ (m : Process) (s : Shown) (refs : List Entry) (stand : AllZip (StandsFor s) refs (map (reward m) m.actions)) where
  pub reward-count : length refs ≡ length m.actions
  reward-count = stand-length s refs (map (reward m) m.actions) stand ∙ length-map m.actions (reward m)

  pub reward-at : (k : ℕ) (r : Entry) (d : Action) → k < length m.actions → StandsFor s (get_or refs k r) (reward m (get_or m.actions k d))
  reward-at k r d near =
      subst (StandsFor s (get_or refs k r)) (get_or-map (reward m) m.actions k d (reward m d) near)
      (stand-at s refs (map (reward m) m.actions) k r (reward m d) stand (omega (arith, reward-count)))

module _ (m : Process) (i : ℕ) (d : Action) (some : 0 < i) (near : i < length m.actions) (t : Shown) (most new : Entry)
    (most_is : StandsFor t most (greatest_reward m i)) (new_is : StandsFor t new (reward m (get_or m.actions i d))) where
  pub max-fits : FitEverywhere (λ b c. are_nums b c) t most new
  max-fits = record { at = λ x y p q. (λ n. are_nums (most_is.value.at x y p q n) (new_is.value.at x y p q n)) }

  pub max-agrees : Agree t.sizes (at_each (num_of int_max) (meaning t most) (meaning t new)) (greatest_reward m (i + 1))
  max-agrees = record {
    at = λ x y p q. (λ n. num_of int_max (most_is.value.at x y p q n) (new_is.value.at x y p q n)) ∙ ap Num (greatest-more m i d x some near);
  }

-- the first action's reward
pub first-greatest : (m : Process) (d : Action) → 0 < length m.actions → reward m (get_or m.actions 0 d) ≡ greatest_reward m 1
first-greatest m d some = by m.actions some
  where
    by : (actions : List Action) → 0 < length actions → reward m (get_or actions 0 d) ≡ (λ x y. Num (greatest (map (λ a. reward_of m a x) (take 1 actions))))
    by [] h = absurd (omega arith)
    by (a ∷ actions) h = refl

-- all actions
pub all-greatest : (m : Process) (i : ℕ) → length m.actions ≤ i → greatest_reward m i ≡ start m
all-greatest m i past = λ k x y. Num (greatest (map (λ a. reward_of m a x) (take_all i m.actions past k)))

-- ---- some action

pub some-action : (actions : List Action) → 0 < length actions → Action
some-action [] h = absurd (omega arith)
some-action (a ∷ actions) h = a
