-- The lists of nodes of diagrams that stand for functions are those of the functions.
use Rattle.std.proofs.Common.{◌≡◌, ℕ, ◌+◌, ◌<◌, List, [], ◌∷◌, ◌++◌, length, map, get_or, take, refl, sym, ◌∙◌, ap, All, ℤ}
use Rattle.std.specs.List.{AllZip}
use Rattle.std.proofs.lemmas.List.{take_more, map_push}
use Rattle.std.proofs.lemmas.List.Elements.{All-nil, All-cons}
use Rattle.spd_cons_core.specs.declared.key.Entry.{Entry}
use Rattle.spd_model.specs.declared.process.Action.{Action}
use Rattle.spd_model.specs.Process.{Process}
use Rattle.spd_model.specs.States.{sizes}
use Rattle.spd_model.specs.Chances.{reward_of}
use Rattle.spd_nodes.specs.declared.leaf.Leaf.TheVariants.{Num}
use Rattle.spd_nodes.specs.States.{Function}
use Rattle.spd_nodes.specs.Shown.{Shown, StandsFor, meaning}
use Rattle.spd_frozen.specs.Freezing.{IsOfPresent}
use Rattle.spd_frozen.specs.Frozen.{frozen_of}
use Rattle.spd_frozen.specs.Mixed.{mixed_of}
use Rattle.spd_frozen.proofs.CallerLemmas.{frozen_of-agree, mixed_of-agree}
use Rattle.spd_build.specs.Built.{frozen_numbers}
use Rattle.spd_build.specs.Functions.{reward}

-- one entry more, in order
pub image-more : {X Y : Type 0} (f : X → Y) (xs : List X) (i : ℕ) (d : X) (old new : List Y) (y : Y) → i < length xs
    → old ≡ map f (take i xs) → y ≡ f (get_or xs i d) → new ≡ old ++ y ∷ [] → new ≡ map f (take (i + 1) xs)
image-more f xs i d old new y near before own e =
    e ∙ (λ k. before k ++ own k ∷ []) ∙ sym (ap (map f) (take_more xs i d near) ∙ map_push f (take i xs) (get_or xs i d))

-- the list of a number by present state
pub numbers-list : (m : Process) (s : Shown) (r : Entry) (f : List ℕ → ℤ) → s.sizes ≡ sizes m → StandsFor s r (λ x t. Num (f x))
    → frozen_of s.sizes (λ x. meaning s r x x) ≡ frozen_numbers m f
numbers-list m s r f same h =
    frozen_of-agree s.sizes (λ x. meaning s r x x) (λ x. Num (f x)) (λ x p. h.value.at x x p p) ∙ ap (λ (z : List ℕ). frozen_of z (λ x. Num (f x))) same

-- such a diagram is of the present state
pub of-present : (s : Shown) (r : Entry) (f : List ℕ → ℤ) → StandsFor s r (λ x t. Num (f x)) → IsOfPresent s r
of-present s r f h = record { at = λ x t p q. h.value.at x t p q ∙ sym (h.value.at x x p p) }

module _ (m : Process) (s : Shown) (same : s.sizes ≡ sizes m) where
  pub weight-lists : (refs : List Entry) (fs : List Function) → AllZip (StandsFor s) refs fs
      → map (λ r. mixed_of s.sizes (meaning s r)) refs ≡ map (mixed_of (sizes m)) fs
  weight-lists [] [] h = refl
  weight-lists [] (f ∷ fs) h = absurd h
  weight-lists (r ∷ refs) [] h = absurd h
  weight-lists (r ∷ refs) (f ∷ fs) h =
      let first = h.0 in
      let here = mixed_of-agree s.sizes (meaning s r) f first.value ∙ ap (λ (z : List ℕ). mixed_of z f) same in
      let more = weight-lists refs fs h.1 in
      λ i. here i ∷ more i

  pub reward-lists : (refs : List Entry) (actions : List Action) → AllZip (StandsFor s) refs (map (reward m) actions)
      → map (λ r. frozen_of s.sizes (λ x. meaning s r x x)) refs ≡ map (λ a. frozen_numbers m (reward_of m a)) actions
  reward-lists [] [] h = refl
  reward-lists [] (a ∷ actions) h = absurd h
  reward-lists (r ∷ refs) [] h = absurd h
  reward-lists (r ∷ refs) (a ∷ actions) h =
      let here = numbers-list m s r (reward_of m a) same h.0 in
      let more = reward-lists refs actions h.1 in
      λ i. here i ∷ more i

  pub rewards-present : (refs : List Entry) (actions : List Action) → AllZip (StandsFor s) refs (map (reward m) actions) → All (λ r. IsOfPresent s r) refs
  rewards-present [] [] h = All-nil (λ r. IsOfPresent s r)
  rewards-present [] (a ∷ actions) h = absurd h
  rewards-present (r ∷ refs) [] h = absurd h
  rewards-present (r ∷ refs) (a ∷ actions) h =
      All-cons (λ r. IsOfPresent s r) r refs (of-present s r (reward_of m a) h.0) (rewards-present refs actions h.1)
