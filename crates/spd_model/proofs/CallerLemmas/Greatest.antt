-- The greatest of a list, and its first place.
use Rattle.std.proofs.Common.{◌≡◌, ℕ, suc, ◌+◌, ◌<◌, List, [], ◌∷◌, ◌++◌, length, map, fold, ℤ, ◌≤ℤ◌, refl, ap, sym, ◌∙◌, subst, arith, take, drop, get_or, true, false, cond, eqb, inl, inr, Contains, slice_get, nat_lt, ◌<ℤ◌, unwrap_or, Some, None, not, length-append, length-take}
use Rattle.std.proofs.lemmas.Int.{ints}
use Rattle.std.proofs.lemmas.List.{take_more, map_push}
use Rattle.std.proofs.Math.ListN.{length-map}
use Rattle.std.specs.Int.{int_max}
use Rattle.std.specs.List.{position_or_len, All}
use Rattle.std.specs.Ordering.{int_eq}
use Rattle.std.proofs.lemmas.Bool.Decides.{nat_tests}
use Rattle.std.proofs.lemmas.List.Folds.{position_or_len_push}
use Rattle.std.proofs.lemmas.List.Elements.{All-cons, All-head, All-tail, All-weaker, All-contains}
use Rattle.std.proofs.lemmas.Int.{fold-int_max_bounds, fold-int_max_reached, int_max_is}
use Rattle.std.proofs.lemmas.Bool.{cases_lt, false≢true, false_from_ne_true}
use Rattle.std.proofs.lemmas.Grind.{common_steps}
use Rattle.std.proofs.lemmas.List.Sums.{fails_before_first, passes_at_first}
use Rattle.std.proofs.lemmas.Option.{slice_get-get_or}
use Rattle.spd_scaled.specs.Scaled.{IsWithin}
use Rattle.spd_scaled.proofs.CallerLemmas.Ring.{int_eq-true, int_eq-holds}
use Rattle.spd_model.specs.Numbers.{greatest, first_place}

-- the greatest of a list by its first entry and the rest
pub greatest_split : {X : Type 0} (f : X → ℤ) (xs : List X) (d : X) → 0 < length xs → greatest (map f xs) ≡ fold int_max (f (get_or xs 0 d)) (map f (drop 1 xs))
greatest_split f [] d h = absurd (omega arith)
greatest_split f (x ∷ xs) d h = refl

pub fold-push : (a : ℤ) (xs : List ℤ) (y : ℤ) → fold int_max a (xs ++ y ∷ []) ≡ int_max (fold int_max a xs) y
fold-push a [] y = refl
fold-push a (x ∷ xs) y = fold-push (int_max a x) xs y

-- one entry more
pub greatest_more : {X : Type 0} (f : X → ℤ) (xs : List X) (i : ℕ) (d : X) (a b y : ℤ) → i < length xs → b ≡ fold int_max a (map f (take i xs))
    → y ≡ f (get_or xs i d) → int_max b y ≡ fold int_max a (map f (take (i + 1) xs))
greatest_more f xs i d a b y h is_b is_y =
    (λ j. int_max (is_b j) (is_y j)) ∙ sym (fold-push a (map f (take i xs)) (f (get_or xs i d)))
    ∙ ap (fold int_max a) (sym (ap (map f) (take_more xs i d h) ∙ map_push f (take i xs) (get_or xs i d)))

-- `best` is the greatest of a list that isn't empty, and `place` its first place
pub record IsFirstBest (xs : List ℤ) (best : ℤ) (place : ℕ) : Type 0 where
  pub greatest_is : best ≡ greatest xs
  pub place_is : place ≡ position_or_len (int_eq best) xs
  pub within : place < length xs

pub first_place_is : (xs : List ℤ) (best : ℤ) (place : ℕ) → IsFirstBest xs best place → place ≡ first_place (greatest xs) xs
first_place_is xs best place h =
    let found : nat_lt (position_or_len (int_eq best) xs) (length xs) ≡ true = grind (arith, nat_tests, h.place_is, h.within) in
    h.place_is ∙ sym (ap (λ b. unwrap_or (cond b (Some (position_or_len (int_eq best) xs)) None) 0) found)
    ∙ ap (λ x. first_place x xs) h.greatest_is

pub greatest-push : (xs : List ℤ) (y : ℤ) → 0 < length xs → greatest (xs ++ y ∷ []) ≡ int_max (greatest xs) y
greatest-push [] y h = absurd (omega arith)
greatest-push (x ∷ xs) y h = fold-push x xs y

pub greatest_bounds : (xs : List ℤ) → All (λ x. x ≤ℤ greatest xs) xs
greatest_bounds [] = λ k d h. absurd (omega arith)
greatest_bounds (x ∷ xs) = let b = fold-int_max_bounds x xs (fold int_max x xs) refl in All-cons (λ y. y ≤ℤ fold int_max x xs) x xs b.0 b.1

pub greatest_at_least : (xs : List ℤ) (x : ℤ) → Contains xs x → x ≤ℤ greatest xs
greatest_at_least xs x there = All-contains (λ z. z ≤ℤ greatest xs) xs x (greatest_bounds xs) there

pub greatest_reached : (xs : List ℤ) → 0 < length xs → Contains xs (greatest xs)
greatest_reached [] some = absurd (omega arith)
greatest_reached (x ∷ xs) some = elim (fold-int_max_reached x xs (greatest (x ∷ xs)) refl) [
  | inl first ↦ (0, omega arith, sym first)
  | inr later ↦ (suc later.0, omega (arith, later.1), later.2)
]

fold_ordered : {X : Type 0} (f g : X → ℤ) (xs : List X) (a b : ℤ) → a ≤ℤ b → All (λ x. f x ≤ℤ g x) xs → fold int_max a (map f xs) ≤ℤ fold int_max b (map g xs)
fold_ordered f g [] a b h k = h
fold_ordered f g (x ∷ xs) a b h k =
    let here = All-head (λ x. f x ≤ℤ g x) x xs k in
    fold_ordered f g xs (int_max a (f x)) (int_max b (g x)) (omega (arith, ints, int_max_is a (f x), int_max_is b (g x))) (All-tail (λ x. f x ≤ℤ g x) x xs k)

pub greatest_ordered : {X : Type 0} (f g : X → ℤ) (xs : List X) → All (λ x. f x ≤ℤ g x) xs → greatest (map f xs) ≤ℤ greatest (map g xs)
greatest_ordered f g [] h = omega (arith, ints)
greatest_ordered f g (x ∷ xs) h = fold_ordered f g xs (f x) (g x) (All-head (λ x. f x ≤ℤ g x) x xs h) (All-tail (λ x. f x ≤ℤ g x) x xs h)

-- ---- bounds that all entries keep

pub max_within : (c x y : ℤ) → IsWithin c x → IsWithin c y → IsWithin c (int_max x y)
max_within c x y h k = record { low = omega (arith, ints, int_max_is x y, h.low, k.low); high = omega (arith, ints, int_max_is x y, h.high, k.high) }

pub fold-int_max_within : (c a : ℤ) (xs : List ℤ) → IsWithin c a → All (IsWithin c) xs → IsWithin c (fold int_max a xs)
fold-int_max_within c a [] h k = h
fold-int_max_within c a (x ∷ xs) h k =
    fold-int_max_within c (int_max a x) xs (max_within c a x h (All-head (IsWithin c) x xs k)) (All-tail (IsWithin c) x xs k)

pub greatest_within : (c : ℤ) (xs : List ℤ) → 0 < length xs → All (IsWithin c) xs → IsWithin c (greatest xs)
greatest_within c [] some h = absurd (omega arith)
greatest_within c (x ∷ xs) some h = fold-int_max_within c x xs (All-head (IsWithin c) x xs h) (All-tail (IsWithin c) x xs h)

-- ---- the first place of a number

-- the first place of a number that is there has it
pub first_place_reads : (x : ℤ) (xs : List ℤ) → Contains xs x → slice_get xs (first_place x xs) ≡ Some x
first_place_reads x xs there =
    let k = position_or_len (int_eq x) xs in
    let near : k < length xs = elim (cases_lt there.0 k) [
      | inl before ↦
          let fails = fails_before_first (int_eq x) xs there.0 x before in
          absurd (false≢true (sym fails ∙ int_eq-holds x (get_or xs there.0 x) (sym there.2)))
      | inr after ↦ omega (arith, there.1)
    ] in
    let place : first_place x xs ≡ k = grind (arith, common_steps) in
    let entry : x ≡ get_or xs k x = int_eq-true x (get_or xs k x) (passes_at_first (int_eq x) xs x near) in
    ap (slice_get xs) place ∙ slice_get-get_or xs k x near ∙ ap Some (sym entry)

max_left : (x y : ℤ) → y ≤ℤ x → int_max x y ≡ x
max_left x y h = omega (arith, ints, int_max_is x y)

max_right : (x y : ℤ) → x <ℤ y → int_max x y ≡ y
max_right x y h = omega (arith, ints, int_max_is x y)

below_differs : (x y : ℤ) → x <ℤ y → y ≡ x → ⊥
below_differs x y h e = omega (arith, ints)

-- no entry equals a number above all of them
none_equal : (y : ℤ) (xs : List ℤ) → All (λ x. x <ℤ y) xs → position_or_len (int_eq y) xs ≡ length xs
none_equal y [] h = refl
none_equal y (x ∷ xs) h =
    let differs = false_from_ne_true (int_eq y x) (λ e. below_differs x y (All-head (λ z. z <ℤ y) x xs h) (int_eq-true y x e)) in
    ap (λ b. cond (not b) (1 + position_or_len (int_eq y) xs) 0) differs ∙ omega (arith, none_equal y xs (All-tail (λ z. z <ℤ y) x xs h))

pub first_best_start : (x : ℤ) → IsFirstBest (x ∷ []) x 0
first_best_start x = record { greatest_is = refl; place_is = sym (ap (λ b. cond (not b) 1 0) (int_eq-holds x x refl)); within = omega arith }

-- one entry more, which isn't greater
pub first_best_keeps : (xs : List ℤ) (best : ℤ) (place : ℕ) (y : ℤ) → IsFirstBest xs best place → y ≤ℤ best → IsFirstBest (xs ++ y ∷ []) best place
first_best_keeps xs best place y h le =
    let early : eqb (position_or_len (int_eq best) xs) (length xs) ≡ false = grind (arith, nat_tests, h.place_is, h.within) in
    record {
      greatest_is = sym (greatest-push xs y (omega (arith, h.within)) ∙ ap (λ g. int_max g y) (sym h.greatest_is) ∙ max_left best y le);
      place_is = h.place_is
          ∙ sym (position_or_len_push (int_eq best) xs y
          ∙ ap (λ b. cond b (length xs + cond (int_eq best y) 0 1) (position_or_len (int_eq best) xs)) early);
      within = omega (arith, h.within, length-append xs (y ∷ []));
    }

below_all : (x g best y : ℤ) → best ≡ g → x ≤ℤ g → best <ℤ y → x <ℤ y
below_all x g best y e p lt = omega (arith, ints)

-- one entry more, which is greater
pub first_best_moves : (xs : List ℤ) (best : ℤ) (place : ℕ) (y : ℤ) → IsFirstBest xs best place → best <ℤ y → IsFirstBest (xs ++ y ∷ []) y (length xs)
first_best_moves xs best place y h lt =
    let late : position_or_len (int_eq y) xs ≡ length xs =
    none_equal y xs (All-weaker (λ x. x ≤ℤ greatest xs) (λ x. x <ℤ y) (λ x p. below_all x (greatest xs) best y h.greatest_is p lt) xs (greatest_bounds xs)) in
    let at_end : eqb (position_or_len (int_eq y) xs) (length xs) ≡ true = grind (arith, nat_tests, late) in
    record {
      greatest_is = sym (greatest-push xs y (omega (arith, h.within)) ∙ ap (λ g. int_max g y) (sym h.greatest_is) ∙ max_right best y lt);
      place_is = omega (
        arith,
        position_or_len_push (int_eq y) xs y
            ∙ ap (λ b. cond b (length xs + cond (int_eq y y) 0 1) (position_or_len (int_eq y) xs)) at_end
            ∙ ap (λ b. length xs + cond b 0 1) (int_eq-holds y y refl),
      );
      within = omega (arith, length-append xs (y ∷ []));
    }

-- the step of a search for the greatest over the entries f x of a list
module _ {X : Type 0} (f : X → ℤ) (xs : List X) (i : ℕ) (d : X) (best y : ℤ) (place : ℕ) (near : i < length xs)
    (was : IsFirstBest (map f (take i xs)) best place) (here : y ≡ f (get_or xs i d)) where
  next_list : map f (take i xs) ++ y ∷ [] ≡ map f (take (i + 1) xs)
  next_list = ap (λ z. map f (take i xs) ++ z ∷ []) here ∙ sym (ap (map f) (take_more xs i d near) ∙ map_push f (take i xs) (get_or xs i d))

  so_far : length (map f (take i xs)) ≡ i
  so_far = length-map (take i xs) f ∙ omega (arith, length-take i xs)

  pub first_best_more : (new : ℤ) (at : ℕ) → new ≡ best → at ≡ place → y ≤ℤ best → IsFirstBest (map f (take (i + 1) xs)) new at
  first_best_more new at is_new is_at le =
      subst (λ ys. IsFirstBest ys new at) next_list
      (subst (λ z. IsFirstBest (map f (take i xs) ++ y ∷ []) z at) (sym is_new)
      (subst (λ n. IsFirstBest (map f (take i xs) ++ y ∷ []) best n) (sym is_at)
      (first_best_keeps (map f (take i xs)) best place y was le)))

  pub first_best_new : (new : ℤ) (at : ℕ) → new ≡ y → at ≡ i → best <ℤ y → IsFirstBest (map f (take (i + 1) xs)) new at
  first_best_new new at is_new is_at lt =
      subst (λ ys. IsFirstBest ys new at) next_list
      (subst (λ z. IsFirstBest (map f (take i xs) ++ y ∷ []) z at) (sym is_new)
      (subst (λ n. IsFirstBest (map f (take i xs) ++ y ∷ []) y n) (so_far ∙ sym is_at)
      (first_best_moves (map f (take i xs)) best place y was lt)))

pub max_itself : (x : ℤ) → int_max x x ≡ x
max_itself x = omega (arith, ints, int_max_is x x)
