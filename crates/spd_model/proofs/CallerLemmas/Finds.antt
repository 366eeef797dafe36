-- The first entry that passes a test, and the first place at which a rule holds.
use Rattle.std.proofs.Common.{◌≡◌, ℕ, zero, suc, All, arith, ◌+◌, ◌<◌, ◌≤◌, Bool, true, false, cond, List, [], ◌∷◌, ◌++◌, map, flat_map, take, take_all, drop, get_or, length, find, Option, Some, None, unwrap_or, inl, inr, refl, ap, sym, ◌∙◌, subst}
use Rattle.std.specs.Option.{option_map, option_or, is_some}
use Rattle.std.proofs.lemmas.Bool.{false≢true, cases_lt}
use Rattle.std.proofs.Math.Seq.{split_at}
use Rattle.std.proofs.lemmas.List.{take_more, append-nil}
use Rattle.std.proofs.lemmas.List.Concat.{flat_map-append, flat_map_single}
use Rattle.std.proofs.lemmas.List.Folds.{find-append}
use Rattle.std.proofs.lemmas.List.Elements.{All-nil, All-cons, All-head, All-tail}
use Rattle.spd_model.specs.Stops.{first_from}

module _ {X Y : Type 0} (p : Y → Bool) (f : X → List Y) (xs : List X) (i : ℕ) (d : X) (near : i < length xs) (none : find p (flat_map f (take i xs)) ≡ None) where
  front : flat_map f (take (i + 1) xs) ≡ flat_map f (take i xs) ++ (f (get_or xs i d) ++ [])
  front = ap (flat_map f) (take_more xs i d near) ∙ flat_map-append f (take i xs) (get_or xs i d ∷ [])

  -- none here either
  pub find_none_more : find p (f (get_or xs i d)) ≡ None → find p (flat_map f (take (i + 1) xs)) ≡ None
  find_none_more here =
      ap (find p) front ∙ find-append p (flat_map f (take i xs)) (f (get_or xs i d) ++ []) ∙ ap (λ o. option_or o (find p (f (get_or xs i d) ++ []))) none
      ∙ ap (find p) (append-nil (f (get_or xs i d))) ∙ here

  -- the first one is here
  pub find_here : (y : Y) → find p (f (get_or xs i d)) ≡ Some y → find p (flat_map f xs) ≡ Some y
  find_here y here =
      ap (λ l. find p (flat_map f l)) (split_at xs i d near)
      ∙ ap (find p) (flat_map-append f (take i xs) (get_or xs i d ∷ drop (suc i) xs))
      ∙ find-append p (flat_map f (take i xs)) (f (get_or xs i d) ++ flat_map f (drop (suc i) xs))
      ∙ ap (λ o. option_or o (find p (f (get_or xs i d) ++ flat_map f (drop (suc i) xs)))) none
      ∙ find-append p (f (get_or xs i d)) (flat_map f (drop (suc i) xs))
      ∙ ap (λ o. option_or o (find p (flat_map f (drop (suc i) xs)))) here

-- the same over the images y of the entries
module _ {X Y : Type 0} (p : Y → Bool) (f : X → Y) (xs : List X) (i : ℕ) (d : X) (near : i < length xs) (none : find p (map f (take i xs)) ≡ None)
    (y : Y) (is : y ≡ f (get_or xs i d)) where
  none_single : find p (flat_map (λ x. f x ∷ []) (take i xs)) ≡ None
  none_single = ap (find p) (flat_map_single f (take i xs)) ∙ none

  pub find_map_more : p y ≡ false → find p (map f (take (i + 1) xs)) ≡ None
  find_map_more fails =
      ap (find p) (sym (flat_map_single f (take (i + 1) xs)))
      ∙ find_none_more p (λ x. f x ∷ []) xs i d near none_single (ap (λ z. cond (p z) (Some z) None) (sym is) ∙ ap (λ b. cond b (Some y) None) fails)

  pub find_map_here : p y ≡ true → find p (map f xs) ≡ Some y
  find_map_here passes =
      ap (find p) (sym (flat_map_single f xs))
      ∙ find_here p (λ x. f x ∷ []) xs i d near none_single y (ap (λ z. cond (p z) (Some z) None) (sym is) ∙ ap (λ b. cond b (Some y) None) passes)

-- none in the whole list
pub find_map_none : {X Y : Type 0} (p : Y → Bool) (f : X → Y) (xs : List X) (i : ℕ) → length xs ≤ i → find p (map f (take i xs)) ≡ None → find p (map f xs) ≡ None
find_map_none p f xs i h none = ap (λ l. find p (map f l)) (sym (take_all i xs h)) ∙ none

pub find_flat_none : {X Y : Type 0} (p : Y → Bool) (f : X → List Y) (xs : List X) (i : ℕ) → length xs ≤ i → find p (flat_map f (take i xs)) ≡ None → find p (flat_map f xs) ≡ None
find_flat_none p f xs i h none = ap (λ l. find p (flat_map f l)) (sym (take_all i xs h)) ∙ none

-- an answer o of the search in one entry's images, as the answer of the whole search
module _ {X Y : Type 0} (p : Y → Bool) (f : X → List Y) (xs : List X) (i : ℕ) (d : X) (near : i < length xs) (none : find p (flat_map f (take i xs)) ≡ None) where
  pub find_flat_some : (o : Option Y) → is_some o ≡ true → o ≡ find p (f (get_or xs i d)) → o ≡ find p (flat_map f xs)
  find_flat_some None h e = absurd (false≢true h)
  find_flat_some (Some y) h e = sym (find_here p f xs i d near none y (sym e))

  pub find_flat_more : (o : Option Y) → is_some o ≡ false → o ≡ find p (f (get_or xs i d)) → find p (flat_map f (take (i + 1) xs)) ≡ None
  find_flat_more None h e = find_none_more p f xs i d near none (sym e)
  find_flat_more (Some y) h e = absurd (false≢true (sym h))

-- the first entry that passes
pub find_first : {X : Type 0} (p : X → Bool) (xs : List X) (k : ℕ) (d : X) → k < length xs → All (λ x. p x ≡ false) (take k xs) → p (get_or xs k d) ≡ true
    → find p xs ≡ Some (get_or xs k d)
find_first p [] k d near none here = absurd (omega arith)
find_first p (x ∷ xs) zero d near none here = ap (λ b. cond b (Some x) (find p xs)) here
find_first p (x ∷ xs) (suc k) d near none here =
    ap (λ b. cond b (Some x) (find p xs)) (All-head (λ x. p x ≡ false) x (take k xs) none)
    ∙ find_first p xs k d (omega arith) (All-tail (λ x. p x ≡ false) x (take k xs) none) here

-- ---- what a search says

-- what is found passes the test
pub find_passes : {X : Type 0} (p : X → Bool) (xs : List X) (x : X) → find p xs ≡ Some x → p x ≡ true
find_passes p [] x is = cc
find_passes p (y ∷ ys) x is = by_test (find_passes p ys x) (p y) refl is
  where
    by_test : (find p ys ≡ Some x → p x ≡ true) → (b : Bool) → p y ≡ b → cond b (Some y) (find p ys) ≡ Some x → p x ≡ true
    by_test later true e found = subst (λ z. p z ≡ true) (ap (λ o. unwrap_or o y) found) e
    by_test later false e found = later found

-- and what holds of all entries holds of it
pub All-find : {X : Type 0} (P : X → Type 0) (p : X → Bool) (xs : List X) (x : X) → All P xs → find p xs ≡ Some x → P x
All-find P p [] x all is = cc
All-find P p (y ∷ ys) x all is = by_test (All-find P p ys x (All-tail P y ys all)) (p y) is
  where
    by_test : (find p ys ≡ Some x → P x) → (b : Bool) → cond b (Some y) (find p ys) ≡ Some x → P x
    by_test later true e = subst P (ap (λ o. unwrap_or o y) e) (All-head P y ys all)
    by_test later false e = later e

-- where a search finds none, no entry passes, and the other way round
pub find_none : {X : Type 0} (p : X → Bool) (xs : List X) → find p xs ≡ None → All (λ x. p x ≡ false) xs
find_none p [] h = All-nil (λ x. p x ≡ false)
find_none p (x ∷ xs) h = by_test (find_none p xs) (p x) refl h
  where
    by_test : (find p xs ≡ None → All (λ y. p y ≡ false) xs) → (b : Bool) → p x ≡ b → cond b (Some x) (find p xs) ≡ None → All (λ y. p y ≡ false) (x ∷ xs)
    by_test later true e none = cc
    by_test later false e none = All-cons (λ y. p y ≡ false) x xs e (later none)

pub none_passes : {X : Type 0} (p : X → Bool) (xs : List X) → All (λ x. p x ≡ false) xs → find p xs ≡ None
none_passes p [] h = refl
none_passes p (x ∷ xs) h =
    ap (λ b. cond b (Some x) (find p xs)) (All-head (λ y. p y ≡ false) x xs h) ∙ none_passes p xs (All-tail (λ y. p y ≡ false) x xs h)

-- a search that can't find none
pub found : {X : Type 0} (P : X → Type 0) (p : X → Bool) (xs : List X) (d : X) → All P xs → (All (λ x. p x ≡ false) xs → ⊥) → P (unwrap_or (find p xs) d)
found {X = X} P p xs d all some = of_answer (find p xs) refl
  where
    of_answer : (o : Option X) → find p xs ≡ o → P (unwrap_or o d)
    of_answer None e = absurd (some (find_none p xs e))
    of_answer (Some x) e = All-find P p xs x all e

-- ---- the first number at which a rule holds

pub first_from_within : (rule : ℕ → Bool) (n k : ℕ) → first_from rule k n ≤ k + n
first_from_within rule zero k = omega arith
first_from_within rule (suc n) k = by_rule (first_from_within rule n (suc k)) (rule k)
  where
    by_rule : first_from rule (suc k) n ≤ suc k + n → (b : Bool) → elim b [ true ↦ k | false ↦ first_from rule (suc k) n ] ≤ k + suc n
    by_rule later true = omega arith
    by_rule later false = omega arith

-- it holds at none before, and at this one unless the numbers end
pub first_from_before : (rule : ℕ → Bool) (n k : ℕ) (j : ℕ) → k ≤ j → j < first_from rule k n → rule j ≡ false
first_from_before rule zero k j above below = absurd (omega arith)
first_from_before rule (suc n) k j above below = by_rule (first_from_before rule n (suc k) j) (rule k) refl below
  where
    by_rule : (suc k ≤ j → j < first_from rule (suc k) n → rule j ≡ false) → (b : Bool) → rule k ≡ b
        → j < elim b [ true ↦ k | false ↦ first_from rule (suc k) n ] → rule j ≡ false
    by_rule goes_on true e h = absurd (omega arith)
    by_rule goes_on false e h = elim (cases_lt k j) [
      | inl later ↦ goes_on (omega arith) h
      | inr here ↦ let same : k ≡ j = omega arith in subst (λ i. rule i ≡ false) same e
    ]

pub first_from_holds : (rule : ℕ → Bool) (n k : ℕ) → first_from rule k n < k + n → rule (first_from rule k n) ≡ true
first_from_holds rule zero k h = absurd (omega arith)
first_from_holds rule (suc n) k h = by_rule (first_from_holds rule n (suc k)) (rule k) refl h
  where
    by_rule : (first_from rule (suc k) n < suc k + n → rule (first_from rule (suc k) n) ≡ true) → (b : Bool) → rule k ≡ b
        → elim b [ true ↦ k | false ↦ first_from rule (suc k) n ] < k + suc n → rule (elim b [ true ↦ k | false ↦ first_from rule (suc k) n ]) ≡ true
    by_rule later true e near = e
    by_rule later false e near = later (omega arith)

-- A search that is at number k, with none before that the rule holds at: it ends here, or goes on, or has no number left.
pub first_here : (rule : ℕ → Bool) (n k : ℕ) → rule k ≡ true → first_from rule k n ≡ k
first_here rule zero k holds = refl
first_here rule (suc n) k holds = ap (λ b. elim b [ true ↦ k | false ↦ first_from rule (suc k) n ]) holds

pub first_later : (rule : ℕ → Bool) (n k : ℕ) → rule k ≡ false → first_from rule k (suc n) ≡ first_from rule (suc k) n
first_later rule n k fails = ap (λ b. elim b [ true ↦ k | false ↦ first_from rule (suc k) n ]) fails

-- an image is there where something is there
pub is_some-option_map : {X Y : Type 0} (f : X → Y) (o : Option X) → is_some (option_map f o) ≡ is_some o
is_some-option_map f None = refl
is_some-option_map f (Some x) = refl
