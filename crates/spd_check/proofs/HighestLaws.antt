-- The greatest upper bound, action by action.
use Rattle.std.proofs.Common.{◌≡◌, ℕ, zero, suc, ◌+◌, ◌<◌, ◌≤◌, List, [], ◌∷◌, ◌++◌, length, map, take, get_or, slice_get, Some, ℤ, refl, sym, ◌∙◌, ap, subst, arith, inl, inr, Result, Ok, Err}
use Rattle.std.specs.Int.{int_max}
use Rattle.std.specs.List.{AllZip}
use Rattle.std.proofs.lemmas.List.{length-map, length-take, take_all, take_more, map_push}
use Rattle.std.proofs.lemmas.Option.{get_or_from_slice_get}
use Rattle.spd_cons_core.specs.declared.key.Entry.{Entry}
use Rattle.spd_model.specs.declared.process.Action.{Action}
use Rattle.spd_model.specs.Process.{Process}
use Rattle.spd_model.specs.Numbers.{greatest, numbers_below}
use Rattle.spd_model.specs.Backup.{high_of, best_high}
use Rattle.spd_model.proofs.CallerLemmas.Greatest.{greatest-push}
use Rattle.spd_model.proofs.CallerLemmas.Lists.{get_or-numbers_below, length-numbers_below}
use Rattle.spd_nodes.specs.declared.forest.StoreFault.{StoreFault}
use Rattle.spd_nodes.specs.declared.leaf.Leaf.TheVariants.{Num}
use Rattle.spd_nodes.specs.Shown.{Shown, IsSound, StandsFor, MakesAmong, MakesDiagram, meaning}
use Rattle.spd_nodes.specs.States.{Function}
use Rattle.spd_nodes.proofs.CallerLemmas.{Among, IsIn, among-after, among-fails, diagram-agrees, has-made, has-none, stands-grows, within-in}
use Rattle.spd_apply.specs.Operations.{num_of, are_nums}
use Rattle.spd_apply.specs.Outcome.{FitEverywhere, at_each}
use Rattle.spd_weigh.specs.declared.way.Way.{Way}
use Rattle.spd_weigh.specs.declared.way.Way.TheVariants.{Up}
use Rattle.spd_build.specs.Functions.{numbers}
use Rattle.spd_backup.specs.declared.backing.Bounds.{Bounds}
use Rattle.spd_backup.specs.Expected.{bound}
use Rattle.spd_policy.specs.Best.{AreBoundsOf}
use Rattle.spd_check.specs.Functions.{highest_among, highest_functions}
use Rattle.spd_check.specs.inner.Judging.{HasHighest}

-- ---- lists of functions

pub in-map : {X : Type 0} (f : X → Function) (xs : List X) (k : ℕ) (d : X) → k < length xs → IsIn (f (get_or xs k d)) (map f xs)
in-map f [] k d h = absurd (omega (arith, h))
in-map f (x ∷ xs) zero d h = inl refl
in-map f (x ∷ xs) (suc k) d h = inr (in-map f xs k d (omega (arith, h)))

pub in-below : (f : ℕ → Function) (n k : ℕ) → k < n → IsIn (f k) (map f (numbers_below n))
in-below f n k h = subst (λ j. IsIn (f j) (map f (numbers_below n))) (get_or-numbers_below n k h) (in-map f (numbers_below n) k 0 (omega (arith, h, length-numbers_below n)))

pub one-among : (f : Function) (fs : List Function) → IsIn f fs → Among (f ∷ []) fs
one-among f fs i = record { nodes = λ sizes. within-in sizes f fs i }

-- ---- one bound of each action

-- one bound of an action, by its place
pub record StandsAt (way : Way) (m : Process) (w : List ℕ → ℤ) (s : Shown) (r : Entry) (i : ℕ) : Type 0 where
  pub action : Action
  pub offered : slice_get m.actions i ≡ Some action
  pub near : i < length m.actions
  pub stands : StandsFor s r (bound way m action w)

module _ (way : Way) (m : Process) (w : List ℕ → ℤ) (s : Shown) (side : Bounds → Entry) where
  action-at : (bounds : List Bounds) (actions : List Action) → AllZip (StandsFor s) (map side bounds) (map (λ a. bound way m a w) actions) → (i : ℕ) (b : Bounds) → i < length bounds
      → (a : Action) × (slice_get actions i ≡ Some a) × (i < length actions) × StandsFor s (side (get_or bounds i b)) (bound way m a w)
  action-at [] actions h i b near = absurd (omega (arith, near))
  action-at (c ∷ bounds) [] h i b near = absurd h
  action-at (c ∷ bounds) (a ∷ actions) h zero b near = (a, refl, omega arith, h.0)
  action-at (c ∷ bounds) (a ∷ actions) h (suc i) b near =
      let r = action-at bounds actions h.1 i b (omega (arith, near)) in
      (r.0, r.1, omega (arith, r.2), r.3)

  pub stands-at : (bounds : List Bounds) → AllZip (StandsFor s) (map side bounds) (map (λ a. bound way m a w) m.actions) → (i : ℕ) (b : Bounds) → i < length bounds → StandsAt way m w s (side (get_or bounds i b)) i
  stands-at bounds h i b near = let r = action-at bounds m.actions h i b near in record { action = r.0; offered = r.1; near = r.2; stands = r.3 }

  pub count-bounds : (bounds : List Bounds) (actions : List Action) → AllZip (StandsFor s) (map side bounds) (map (λ a. bound way m a w) actions) → length bounds ≡ length actions
  count-bounds [] [] h = refl
  count-bounds [] (a ∷ actions) h = absurd h
  count-bounds (c ∷ bounds) [] h = absurd h
  count-bounds (c ∷ bounds) (a ∷ actions) h = ap suc (count-bounds bounds actions h.1)

-- ---- the greatest upper bound

module _ (m : Process) (w : List ℕ → ℤ) (s : Shown) (bounds : List Bounds) (are : AreBoundsOf m w s bounds) where
  pub highest-count : length bounds ≡ length m.actions
  highest-count = count-bounds Up m w s (λ b. b.hi) bounds m.actions are.high

  pub high-at : (i : ℕ) (b : Bounds) → i < length bounds → StandsAt Up m w s (get_or bounds i b).hi i
  high-at i b near = stands-at Up m w s (λ c. c.hi) bounds are.high i b near

  first-stands : (bs : List Bounds) (actions : List Action) → AllZip (StandsFor s) (map (λ (c : Bounds). c.hi) bs) (map (λ a. bound Up m a w) actions) → (b : Bounds) → 0 < length bs
      → StandsFor s (get_or bs 0 b).hi (numbers (λ x y. greatest (map (λ a. high_of m w a x) (take 1 actions))))
  first-stands [] actions h b near = absurd (omega (arith, near))
  first-stands (c ∷ bs) [] h b near = absurd h
  first-stands (c ∷ bs) (a ∷ actions) h b near = h.0

  pub highest-first : IsSound s → (b : Bounds) → 0 < length bounds → HasHighest m w s s 1 (get_or bounds 0 b).hi
  highest-first o b near = record { made = has-none s o (highest_functions m w); stands = first-stands bounds m.actions are.high b near }

  module _ (t : Shown) (i : ℕ) (high : Entry) (h : HasHighest m w s t i high) where
    module _ (some : 0 < i) (near : i < length bounds) (b : Bounds) where
      abbrev own : StandsAt Up m w s (get_or bounds i b).hi i
      own = high-at i b near

      pub own-stands : StandsFor t (get_or bounds i b).hi (bound Up m own.action w)
      own-stands = stands-grows h.made.grows own.stands

      pub highest-fit : FitEverywhere are_nums t high (get_or bounds i b).hi
      highest-fit = record { at = λ x y p q. (λ n. are_nums (h.stands.value.at x y p q n) (own-stands.value.at x y p q n)) }

      more : (x : List ℕ) → int_max (greatest (map (λ a. high_of m w a x) (take i m.actions))) (high_of m w own.action x) ≡ greatest (map (λ a. high_of m w a x) (take (i + 1) m.actions))
      more x =
          let f : Action → ℤ = λ a. high_of m w a x in
          let next : take (i + 1) m.actions ≡ take i m.actions ++ own.action ∷ [] =
          take_more m.actions i own.action own.near ∙ ap (λ a. take i m.actions ++ a ∷ []) (get_or_from_slice_get m.actions i own.action own.action own.offered) in
          sym (ap (λ l. greatest (map f l)) next ∙ ap greatest (map_push f (take i m.actions) own.action) ∙ greatest-push (map f (take i m.actions)) (f own.action) (omega (arith, some, own.near, length-map (take i m.actions) f, length-take i m.actions)))

      pub highest-next : (u : Shown) (r : Result Entry StoreFault) → MakesDiagram t u (at_each (λ a c. num_of int_max a c) (meaning t high) (meaning t (get_or bounds i b).hi)) r
          → MakesAmong s u (highest_among m w (i + 1)) (highest_functions m w) r
      highest-next u r d =
          let next : suc i ≡ i + 1 = omega arith in
          let there : IsIn (highest_among m w (i + 1)) (highest_functions m w) =
          subst (λ k. IsIn (highest_among m w k) (highest_functions m w)) next (in-below (λ a. highest_among m w (suc a)) (length m.actions) i own.near) in
          among-after (one-among (highest_among m w (i + 1)) (highest_functions m w) there) h.made
          (diagram-agrees h.made.sound (record { at = λ x y p q. (λ n. num_of int_max (h.stands.value.at x y p q n) (own-stands.value.at x y p q n)) ∙ ap Num (more x) }) d)

      pub highest-more : (u : Shown) (r : Entry) → MakesDiagram t u (at_each (λ a c. num_of int_max a c) (meaning t high) (meaning t (get_or bounds i b).hi)) (Ok r) → HasHighest m w s u (i + 1) r
      highest-more u r d = let g = highest-next u (Ok r) d in record { made = has-made g; stands = g.ok }

      pub highest-fails : (u : Shown) (e : StoreFault) → MakesDiagram t u (at_each (λ a c. num_of int_max a c) (meaning t high) (meaning t (get_or bounds i b).hi)) (Err e)
          → MakesAmong s u (numbers (λ x y. best_high m w x)) (highest_functions m w) (Err e)
      highest-fails u e d = among-fails e (highest-next u (Err e) d)

    pub highest-all : length bounds ≤ i → MakesAmong s t (numbers (λ x y. best_high m w x)) (highest_functions m w) (Ok high)
    highest-all past =
        let all : take i m.actions ≡ m.actions = take_all i m.actions (omega (arith, past, highest-count)) in
        record {
          sound = h.made.sound;
          grows = h.made.grows;
          ok = subst (StandsFor t high) (λ n. numbers (λ x y. greatest (map (λ a. high_of m w a x) (all n)))) h.stands;
          makes = h.made.makes;
          fault = tt;
        }
