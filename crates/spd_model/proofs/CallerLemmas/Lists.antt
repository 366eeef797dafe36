-- What holds of all entries of a list: of lists that are put together, of images, and of the numbers below a bound.
use Rattle.std.proofs.Common.{◌≡◌, ℕ, zero, suc, ◌+◌, ◌<◌, List, [], ◌∷◌, ◌++◌, length, map, flat_map, get_or, All, Contains, refl, ap, sym, ◌∙◌, subst, arith, length-append, below_more, ◌≤◌, max, fold}
use Rattle.std.specs.List.{enumerate_from}
use Rattle.std.proofs.lemmas.List.{get_or-map, get_or_append_left, get_or_push}
use Rattle.std.proofs.lemmas.List.Elements.{All-nil, All-cons, All-head, All-tail, All-append, All-from_get_or}
use Rattle.std.proofs.lemmas.List.FromFn.{get_or-enumerate_from, length-enumerate_from}
use Rattle.std.proofs.Math.ListN.{length-map}
use Rattle.spd_model.specs.Numbers.{numbers_below}

pub All-left : {X : Type 0} (P : X → Type 0) (xs ys : List X) → All P (xs ++ ys) → All P xs
All-left P xs ys h = λ k d p. subst P (get_or_append_left xs ys d k p) (h k d (omega (arith, length-append xs ys)))

pub All-right : {X : Type 0} (P : X → Type 0) (xs ys : List X) → All P (xs ++ ys) → All P ys
All-right P [] ys h = h
All-right P (x ∷ xs) ys h = All-right P xs ys (All-tail P x (xs ++ ys) h)

pub All-one : {X : Type 0} (P : X → Type 0) (x : X) → P x → All P (x ∷ [])
All-one P x h = All-cons P x [] h (All-nil P)

-- ---- images, one or more for each entry

pub All-map_back : {X Y : Type 0} (P : Y → Type 0) (f : X → Y) (xs : List X) → All P (map f xs) → All (λ x. P (f x)) xs
All-map_back P f xs h = λ k d near. subst P (get_or-map f xs k d (f d) near) (h k (f d) (omega (arith, length-map xs f)))

pub Contains-map : {X Y : Type 0} (f : X → Y) (xs : List X) (x : X) → Contains xs x → Contains (map f xs) (f x)
Contains-map f xs x there = (there.0, omega (arith, length-map xs f, there.1), get_or-map f xs there.0 x (f x) there.1 ∙ ap f there.2)

pub All-flat_map : {X Y : Type 0} (P : Y → Type 0) (f : X → List Y) (xs : List X) → All (λ x. All P (f x)) xs → All P (flat_map f xs)
All-flat_map P f [] h = All-nil P
All-flat_map P f (x ∷ xs) h =
    All-append P (f x) (flat_map f xs) (All-head (λ y. All P (f y)) x xs h) (All-flat_map P f xs (All-tail (λ y. All P (f y)) x xs h))

pub All-flat_map_back : {X Y : Type 0} (P : Y → Type 0) (f : X → List Y) (xs : List X) → All P (flat_map f xs) → All (λ x. All P (f x)) xs
All-flat_map_back P f [] h = All-nil (λ x. All P (f x))
All-flat_map_back P f (x ∷ xs) h =
    All-cons (λ y. All P (f y)) x xs (All-left P (f x) (flat_map f xs) h) (All-flat_map_back P f xs (All-right P (f x) (flat_map f xs) h))

-- ---- the numbers below n

pub length-numbers_below : (n : ℕ) → length (numbers_below n) ≡ n
length-numbers_below zero = refl
length-numbers_below (suc n) = omega (arith, length-append (numbers_below n) (n ∷ []), length-numbers_below n)

pub get_or-numbers_below : (n i : ℕ) → i < n → get_or (numbers_below n) i 0 ≡ i
get_or-numbers_below zero i h = absurd (omega arith)
get_or-numbers_below (suc n) i h = below_more (λ k. get_or (numbers_below n ++ n ∷ []) k 0 ≡ k) n
    (λ k p. get_or_append_left (numbers_below n) (n ∷ []) 0 k (omega (arith, length-numbers_below n)) ∙ get_or-numbers_below n k p)
    (get_or_push (numbers_below n) n 0 n (length-numbers_below n)) i (omega arith)

pub All-numbers_below : (P : ℕ → Type 0) (n : ℕ) → ((i : ℕ) → i < n → P i) → All P (numbers_below n)
All-numbers_below P n h = All-from_get_or P (numbers_below n) 0 (λ k near.
    let below : k < n = omega (arith, length-numbers_below n) in subst P (sym (get_or-numbers_below n k below)) (h k below))

pub All-numbers_below_back : (P : ℕ → Type 0) (n : ℕ) → All P (numbers_below n) → (i : ℕ) → i < n → P i
All-numbers_below_back P n h i below = subst P (get_or-numbers_below n i below) (h i 0 (omega (arith, length-numbers_below n)))

-- ---- the entries with their numbers

pub All-enumerate : {X : Type 0} (P : ℕ × X → Type 0) (xs : List X) → ((k : ℕ) (x : X) → k < length xs → get_or xs k x ≡ x → P (k, x))
    → All P (enumerate_from 0 xs)
All-enumerate P xs h = λ k d near.
    let below : k < length xs = omega (arith, length-enumerate_from 0 xs) in
    let at : 0 + k ≡ k = omega arith in
    let x = get_or xs k d.1 in
    subst P (sym (get_or-enumerate_from 0 xs k d below ∙ (λ i. (at i, x)))) (h k x below (same xs k d.1 below))
  where
    same : {X : Type 0} (xs : List X) (k : ℕ) (d : X) → k < length xs → get_or xs k (get_or xs k d) ≡ get_or xs k d
    same [] k d near = absurd (omega arith)
    same (x ∷ xs) zero d near = refl
    same (x ∷ xs) (suc k) d near = same xs k d (omega arith)

pub All-enumerate_back : {X : Type 0} (P : ℕ × X → Type 0) (xs : List X) → All P (enumerate_from 0 xs) → (x : X) → (there : Contains xs x) → P (there.0, x)
All-enumerate_back P xs h x there =
    let at : 0 + there.0 ≡ there.0 = omega arith in
    subst P (get_or-enumerate_from 0 xs there.0 (there.0, x) there.1 ∙ (λ i. (at i, there.2 i)))
    (h there.0 (there.0, x) (omega (arith, length-enumerate_from 0 xs, there.1)))

pub le_fold_max : (a : ℕ) (xs : List ℕ) → a ≤ fold max a xs
le_fold_max a [] = omega arith
le_fold_max a (x ∷ xs) = let more = le_fold_max (max a x) xs in omega arith

-- an image of an image
pub map-map : {X Y Z : Type 0} (f : Y → Z) (g : X → Y) (xs : List X) → map f (map g xs) ≡ map (λ x. f (g x)) xs
map-map f g [] = refl
map-map f g (x ∷ xs) = ap (λ ys. f (g x) ∷ ys) (map-map f g xs)
