-- The first state at which one of two rules holds, by the first state of each.
use Rattle.std.proofs.Common.{◌≡◌, ℕ, zero, suc, ◌<◌, ◌≤◌, ◌||◌, Bool, true, false, cond, if◌then◌else◌, nat_lt, List, [], ◌∷◌, length, get_or, find, Option, Some, None, unwrap_or, inl, inr, refl, sym, ◌∙◌, ap, subst, arith}
use Rattle.std.specs.Prelude.{option_map}
use Rattle.std.proofs.lemmas.Bool.{cases_lt, false≢true, or_from, or_left, or_right}
use Rattle.std.proofs.lemmas.Bool.Decides.{Decides-ltb}
use Rattle.std.proofs.lemmas.List.{get_or_default}
use Rattle.spd_model.specs.declared.Side.TheVariants.{Above, Below}
use Rattle.spd_model.specs.States.{IsState, rank, states}
use Rattle.spd_model.proofs.CallerLemmas.Finds.{find_none, none_passes, All-find}
use Rattle.spd_model.proofs.CallerLemmas.StateOrder.{All-states, length-states, rank-get_or}
use Rattle.spd_check.specs.declared.first.Failure.{Failure}
use Rattle.spd_check.specs.inner.Judging.{first_of_both, sided}

-- ---- the place of what a search finds

record IsFoundAt {X : Type 0} (p : X → Bool) (xs : List X) (x d : X) : Type 0 where
  place : ℕ
  near : place < length xs
  is : get_or xs place d ≡ x
  before : (j : ℕ) → j < place → p (get_or xs j d) ≡ false
  here : p (get_or xs place d) ≡ true

found-at : {X : Type 0} (p : X → Bool) (xs : List X) (x d : X) → find p xs ≡ Some x → IsFoundAt p xs x d
found-at p [] x d e = absurd (cc e)
found-at {X = X} p (y ∷ ys) x d e = go (p y) refl e (found-at p ys x d)
  where
    later : (place : ℕ) → p y ≡ false → ((j : ℕ) → j < place → p (get_or ys j d) ≡ false) → (j : ℕ) → j < suc place → p (get_or (y ∷ ys) j d) ≡ false
    later place first rest zero h = first
    later place first rest (suc j) h = rest j (omega (arith, h))

    go : (b : Bool) → p y ≡ b → cond b (Some y) (find p ys) ≡ Some x → (find p ys ≡ Some x → IsFoundAt p ys x d) → IsFoundAt p (y ∷ ys) x d
    go true test is rest = record {
      place = 0;
      near = omega arith;
      is = ap (λ (o : Option X). unwrap_or o y) is;
      before = λ j h. absurd (omega (arith, h));
      here = test;
    }
    go false test is rest = let r = rest is in record {
      place = suc r.place;
      near = omega (arith, r.near);
      is = r.is;
      before = later r.place test r.before;
      here = r.here;
    }

finds-at : {X : Type 0} (p : X → Bool) (xs : List X) (k : ℕ) (d : X) → k < length xs → ((j : ℕ) → j < k → p (get_or xs j d) ≡ false) → p (get_or xs k d) ≡ true → find p xs ≡ Some (get_or xs k d)
finds-at p [] k d near none here = absurd (omega (arith, near))
finds-at p (x ∷ xs) zero d near none here = ap (λ b. cond b (Some x) (find p xs)) here
finds-at p (x ∷ xs) (suc k) d near none here =
    ap (λ b. cond b (Some x) (find p xs)) (none 0 (omega arith)) ∙ finds-at p xs k d (omega (arith, near)) (λ j h. none (suc j) (omega (arith, h))) here

-- ---- two rules

abbrev on_side : Bool → List ℕ → Failure
on_side b x = if b then record { state = x; side = Above } else record { state = x; side = Below }

module _ (sizes : List ℕ) (p q : List ℕ → Bool) where
  abbrev either : List ℕ → Bool
  either s = p s || q s

  done : (x : List ℕ) (b : Bool) → find either (states sizes) ≡ Some x → p x ≡ b → Some (on_side b x) ≡ first_of_both sizes p q
  done x b f h = sym (ap (option_map (sided p)) f ∙ ap (λ c. Some (on_side c x)) h)

  none-all : find p (states sizes) ≡ None → (k : ℕ) → k < length (states sizes) → p (get_or (states sizes) k []) ≡ false
  none-all e k near = find_none p (states sizes) e k [] near

  none-later : find q (states sizes) ≡ None → (k : ℕ) → k < length (states sizes) → q (get_or (states sizes) k []) ≡ false
  none-later e k near = find_none q (states sizes) e k [] near

  pub first-none : None ≡ find p (states sizes) → None ≡ find q (states sizes) → None ≡ first_of_both sizes p q
  first-none e f =
      sym (ap (option_map (sided p)) (none_passes either (states sizes) (λ k d near.
      subst (λ (x : List ℕ). either x ≡ false) (default-is k d near) (or_from (p (get_or (states sizes) k [])) (q (get_or (states sizes) k [])) (none-all (sym e) k near) (none-later (sym f) k near)))))
    where
      default-is : (k : ℕ) (d : List ℕ) → k < length (states sizes) → get_or (states sizes) k [] ≡ get_or (states sizes) k d
      default-is k d near = get_or_default (states sizes) k [] d near

  pub first-above : (x : List ℕ) → Some x ≡ find p (states sizes) → None ≡ find q (states sizes) → Some (record { state = x; side = Above }) ≡ first_of_both sizes p q
  first-above x e f =
      let a = found-at p (states sizes) x [] (sym e) in
      done x true
      (finds-at either (states sizes) a.place [] a.near (λ j h. or_from (p (get_or (states sizes) j [])) (q (get_or (states sizes) j [])) (a.before j h) (none-later (sym f) j (omega (arith, h, a.near))))
      (or_left (p (get_or (states sizes) a.place [])) (q (get_or (states sizes) a.place [])) a.here) ∙ ap Some a.is)
      (subst (λ (z : List ℕ). p z ≡ true) a.is a.here)

  pub first-below : (y : List ℕ) → None ≡ find p (states sizes) → Some y ≡ find q (states sizes) → Some (record { state = y; side = Below }) ≡ first_of_both sizes p q
  first-below y e f =
      let b = found-at q (states sizes) y [] (sym f) in
      done y false
      (finds-at either (states sizes) b.place [] b.near (λ j h. or_from (p (get_or (states sizes) j [])) (q (get_or (states sizes) j [])) (none-all (sym e) j (omega (arith, h, b.near))) (b.before j h))
      (or_right (p (get_or (states sizes) b.place [])) (q (get_or (states sizes) b.place [])) b.here) ∙ ap Some b.is)
      (subst (λ (z : List ℕ). p z ≡ false) b.is (none-all (sym e) b.place b.near))

  found-state-of : (r : List ℕ → Bool) (x : List ℕ) → Some x ≡ find r (states sizes) → IsState sizes x
  found-state-of r x e = All-find (IsState sizes) r (states sizes) x (All-states (IsState sizes) sizes (λ s i. i)) (sym e)

  rank-at : (r : List ℕ → Bool) (x : List ℕ) (a : IsFoundAt r (states sizes) x []) → rank sizes x ≡ a.place
  rank-at r x a = ap (rank sizes) (sym a.is) ∙ rank-get_or sizes a.place (omega (arith, a.near, length-states sizes))

  module _ (x y : List ℕ) (e : Some x ≡ find p (states sizes)) (f : Some y ≡ find q (states sizes)) where
    pub above-state : IsState sizes x
    above-state = found-state-of p x e

    pub below-state : IsState sizes y
    below-state = found-state-of q y f

    pub both-below : nat_lt (rank sizes y) (rank sizes x) ≡ true → Some (record { state = y; side = Below }) ≡ first_of_both sizes p q
    both-below less =
        let a = found-at p (states sizes) x [] (sym e) in
        let b = found-at q (states sizes) y [] (sym f) in
        let ranks : rank sizes y < rank sizes x = (Decides-ltb (rank sizes y) (rank sizes x)).0 less in
        let sooner : b.place < a.place = omega (arith, ranks, rank-at p x a, rank-at q y b) in
        done y false
        (finds-at either (states sizes) b.place [] b.near (λ j h. or_from (p (get_or (states sizes) j [])) (q (get_or (states sizes) j [])) (a.before j (omega (arith, h, sooner))) (b.before j h))
        (or_right (p (get_or (states sizes) b.place [])) (q (get_or (states sizes) b.place [])) b.here) ∙ ap Some b.is)
        (subst (λ (z : List ℕ). p z ≡ false) b.is (a.before b.place sooner))

    pub both-above : nat_lt (rank sizes y) (rank sizes x) ≡ false → Some (record { state = x; side = Above }) ≡ first_of_both sizes p q
    both-above not-less =
        let a = found-at p (states sizes) x [] (sym e) in
        let b = found-at q (states sizes) y [] (sym f) in
        let later : a.place ≤ b.place = elim (cases_lt b.place a.place) [
          | inl less ↦
              let ranks : rank sizes y < rank sizes x = omega (arith, less, rank-at p x a, rank-at q y b) in
              absurd (false≢true (sym not-less ∙ (Decides-ltb (rank sizes y) (rank sizes x)).1 ranks))
          | inr more ↦ more
        ] in
        done x true
        (finds-at either (states sizes) a.place [] a.near (λ j h. or_from (p (get_or (states sizes) j [])) (q (get_or (states sizes) j [])) (a.before j h) (b.before j (omega (arith, h, later))))
        (or_left (p (get_or (states sizes) a.place [])) (q (get_or (states sizes) a.place [])) a.here) ∙ ap Some a.is)
        (subst (λ (z : List ℕ). p z ≡ true) a.is a.here)
