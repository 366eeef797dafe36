-- A search among the images of all entries, one entry after another.
use Rattle.std.proofs.Common.{◌≡◌, ◌∙◌, ℕ, ◌+◌, ◌<◌, ◌≤◌, Bool, true, false, List, flat_map, length, take, find, get_or, Option, None, ap, sym, arith}
use Rattle.std.specs.List.{enumerate_from}
use Rattle.std.specs.Option.{is_some, option_map}
use Rattle.std.proofs.lemmas.List.FromFn.{length-enumerate_from, get_or-enumerate_from}
use Rattle.spd_model.specs.declared.process.Action.{Action}
use Rattle.spd_model.proofs.CallerLemmas.Finds.{find_flat_some, find_flat_more, find_flat_none, is_some-option_map}

-- the answer of the search in this entry's images, where those of the entries before have none
module _ {X Y Z : Type 0} (p : Y → Bool) (f : X → List Y) (xs : List X) (i : ℕ) (d : X) (near : i < length xs) (none : find p (flat_map f (take i xs)) ≡ None)
    (to : Z → Y) (o : Option Z) (is : option_map to o ≡ find p (f (get_or xs i d))) where
  pub found_here : is_some o ≡ true → option_map to o ≡ find p (flat_map f xs)
  found_here h = find_flat_some p f xs i d near none (option_map to o) (is_some-option_map to o ∙ h) is

  pub none_here : is_some o ≡ false → find p (flat_map f (take (i + 1) xs)) ≡ None
  none_here h = find_flat_more p f xs i d near none (option_map to o) (is_some-option_map to o ∙ h) is

-- the same over the actions that are read, each with its number
module _ {Y : Type 0} (p : Y → Bool) (f : ℕ × Action → List Y) {all actions : List Action} (are : all ≡ actions) (k : ℕ) (none : find p (flat_map f (take k (enumerate_from 0 actions))) ≡ None) where
  pub no_action : length all ≤ k → find p (flat_map f (enumerate_from 0 actions)) ≡ None
  no_action past = find_flat_none p f (enumerate_from 0 actions) k (omega (arith, ap length are, length-enumerate_from 0 actions)) none

  module _ {Z : Type 0} (to : Z → Y) (o : Option Z) (near : k < length all) (a : Action) (read : a ≡ get_or all k a) (is : option_map to o ≡ find p (f (k, a))) where
    inside : k < length (enumerate_from 0 actions)
    inside = omega (arith, ap length are, length-enumerate_from 0 actions)

    numbered : (k, a) ≡ get_or (enumerate_from 0 actions) k (k, a)
    numbered =
        let at : 0 + k ≡ k = omega arith in
        let here : a ≡ get_or actions k a = read ∙ ap (λ (l : List Action). get_or l k a) are in
        sym (get_or-enumerate_from 0 actions k (k, a) (omega (arith, ap length are)) ∙ (λ i. (at i, sym here i)))

    pub found_action : is_some o ≡ true → option_map to o ≡ find p (flat_map f (enumerate_from 0 actions))
    found_action = found_here p f (enumerate_from 0 actions) k (k, a) inside none to o (is ∙ ap (λ x. find p (f x)) numbered)

    pub passed_action : is_some o ≡ false → find p (flat_map f (take (k + 1) (enumerate_from 0 actions))) ≡ None
    passed_action = none_here p f (enumerate_from 0 actions) k (k, a) inside none to o (is ∙ ap (λ x. find p (f x)) numbered)
