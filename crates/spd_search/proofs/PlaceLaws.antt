-- The first leaf that is wanted as the first entry of other lists by states.
use Rattle.std.proofs.Common.{◌≡◌, ℕ, zero, suc, ◌<◌, Bool, true, false, cond, List, [], ◌∷◌, ◌++◌, All, length, drop, map, flat_map, find, Option, Some, None, unwrap_or, refl, sym, ◌∙◌, ap, subst, arith}
use Rattle.std.specs.Prelude.{option_map}
use Rattle.std.specs.Option.{option_or}
use Rattle.std.proofs.lemmas.List.Concat.{flat_map_single}
use Rattle.std.proofs.lemmas.List.Elements.{All-head, All-tail, All-map}
use Rattle.std.proofs.lemmas.List.Folds.{find-append}
use Rattle.std.proofs.Math.ListN.{drop_of_length-le}
use Rattle.spd_model.specs.Numbers.{numbers_below}
use Rattle.spd_model.specs.States.{states, IsState}
use Rattle.spd_model.proofs.CallerLemmas.Finds.{find_none, find_passes, All-find}
use Rattle.spd_model.proofs.CallerLemmas.Lists.{All-flat_map, All-flat_map_back, All-map_back}
use Rattle.spd_model.proofs.CallerLemmas.StateOrder.{All-states, All-states_back}
use Rattle.spd_nodes.specs.declared.leaf.Leaf.{Leaf}
use Rattle.spd_nodes.specs.States.{Function}
use Rattle.spd_search.specs.declared.found.Found.{Found}
use Rattle.spd_search.specs.Found.{state_pairs, first_pair, found_at, first_found}
use Rattle.spd_search.proofs.Firsts.{option_or-same, first_below, find-rows}
use Rattle.spd_search.proofs.WalkLaws.{map-map}

-- ---- the first variables are no matter

below-same : {X : Type 0} (n : ℕ) (o : Option X) → first_below (suc n) (λ v. o) ≡ o
below-same zero o = refl
below-same (suc n) o = ap (λ p. option_or p o) (below-same n o) ∙ option_or-same o

below-all : {X : Type 0} (d : ℕ) (o : Option X) → 0 < d → first_below d (λ v. o) ≡ o
below-all zero o h = absurd (omega arith)
below-all (suc n) o h = below-same n o

map-rows : {Y : Type 0} (h : List ℕ → Y) (ts : List (List ℕ)) (ys : List ℕ) → map h (flat_map (λ y. map (λ t. y ∷ t) ts) ys) ≡ flat_map (λ y. map (λ t. h (y ∷ t)) ts) ys
map-rows h ts [] = refl
map-rows {Y = Y} h ts (y ∷ ys) = go ts ∙ ap (λ (zs : List Y). map (λ t. h (y ∷ t)) ts ++ zs) (map-rows h ts ys)
  where
    go : (us : List (List ℕ)) → map h (map (λ t. y ∷ t) us ++ flat_map (λ z. map (λ t. z ∷ t) ts) ys) ≡ map (λ t. h (y ∷ t)) us ++ map h (flat_map (λ z. map (λ t. z ∷ t) ts) ys)
    go [] = refl
    go (u ∷ us) = ap (λ (zs : List Y). h (y ∷ u) ∷ zs) (go us)

pub find-dropped : {Y : Type 0} (q : Y → Bool) (n : ℕ) (sizes : List ℕ) (h : List ℕ → Y) → All (λ d. 0 < d) sizes → find q (map (λ t. h (drop n t)) (states sizes)) ≡ find q (map h (states (drop n sizes)))
find-dropped q zero sizes h o = refl
find-dropped q (suc n) [] h o = refl
find-dropped q (suc n) (d ∷ ds) h o =
    ap (find q) (map-rows (λ t. h (drop (suc n) t)) (states ds) (numbers_below d))
    ∙ find-rows q (λ y. map (λ t. h (drop n t)) (states ds)) d
    ∙ below-all d (find q (map (λ t. h (drop n t)) (states ds))) (All-head (λ d. 0 < d) d ds o)
    ∙ find-dropped q n ds h (All-tail (λ d. 0 < d) d ds o)

map-or : {X Y : Type 0} (k : X → Y) (a b : Option X) → option_map k (option_or a b) ≡ option_or (option_map k a) (option_map k b)
map-or k (Some x) b = refl
map-or k None b = refl

-- ---- rows of the present states, each with an entry for the values of the variables after the first n

module _ {Y : Type 0} (sizes : List ℕ) (n : ℕ) (wants : Leaf → Bool) (f : Function) (q : Y → Bool) (entry : List ℕ → List ℕ → Y) (made : Found → Y)
    (positive : All (λ d. 0 < d) sizes)
    (is : (s t : List ℕ) → IsState sizes s → IsState sizes t → made (record { state = s; leaf = f s t }) ≡ entry s (drop n t))
    (test : (s t : List ℕ) → IsState sizes s → IsState sizes t → q (entry s (drop n t)) ≡ wants (f s t)) where
  in-row : (s : List ℕ) (ts : List (List ℕ)) → IsState sizes s → All (λ t. IsState sizes t) ts
      → find q (map (λ t. entry s (drop n t)) ts) ≡ option_map (λ p. made (found_at f p)) (find (λ p. wants (f p.0 p.1)) (map (λ t. (s, t)) ts))
  in-row s [] i o = refl
  in-row s (t ∷ ts) i o =
      let j : IsState sizes t = All-head (λ t. IsState sizes t) t ts o in
      ap (λ b. cond b (Some (entry s (drop n t))) (find q (map (λ t. entry s (drop n t)) ts))) (test s t i j)
      ∙ go (wants (f s t)) (is s t i j) (in-row s ts i (All-tail (λ t. IsState sizes t) t ts o))
    where
      go : (b : Bool) → made (record { state = s; leaf = f s t }) ≡ entry s (drop n t)
          → find q (map (λ t. entry s (drop n t)) ts) ≡ option_map (λ p. made (found_at f p)) (find (λ p. wants (f p.0 p.1)) (map (λ t. (s, t)) ts))
          → cond b (Some (entry s (drop n t))) (find q (map (λ t. entry s (drop n t)) ts)) ≡ option_map (λ p. made (found_at f p)) (cond b (Some (s, t)) (find (λ p. wants (f p.0 p.1)) (map (λ t. (s, t)) ts)))
      go true e ih = ap Some (sym e)
      go false e ih = ih

  in-rows : (xs : List (List ℕ)) → All (λ s. IsState sizes s) xs
      → find q (flat_map (λ s. map (λ rest. entry s rest) (states (drop n sizes))) xs) ≡ option_map (λ p. made (found_at f p)) (find (λ p. wants (f p.0 p.1)) (flat_map (λ s. map (λ t. (s, t)) (states sizes)) xs))
  in-rows [] o = refl
  in-rows (x ∷ xs) o =
      find-append q (map (λ rest. entry x rest) (states (drop n sizes))) (flat_map (λ s. map (λ rest. entry s rest) (states (drop n sizes))) xs)
      ∙ ap (λ a. option_or a (find q (flat_map (λ s. map (λ rest. entry s rest) (states (drop n sizes))) xs)))
      (sym (find-dropped q n sizes (λ rest. entry x rest) positive) ∙ in-row x (states sizes) (All-head (λ s. IsState sizes s) x xs o) (All-states (λ t. IsState sizes t) sizes (λ t j. j)))
      ∙ ap (option_or (option_map (λ p. made (found_at f p)) (find (λ p. wants (f p.0 p.1)) (map (λ t. (x, t)) (states sizes))))) (in-rows xs (All-tail (λ s. IsState sizes s) x xs o))
      ∙ sym (map-or (λ p. made (found_at f p)) (find (λ p. wants (f p.0 p.1)) (map (λ t. (x, t)) (states sizes))) (find (λ p. wants (f p.0 p.1)) (flat_map (λ s. map (λ t. (s, t)) (states sizes)) xs)))
      ∙ ap (option_map (λ p. made (found_at f p))) (sym (find-append (λ p. wants (f p.0 p.1)) (map (λ t. (x, t)) (states sizes)) (flat_map (λ s. map (λ t. (s, t)) (states sizes)) xs)))

  -- A list by present states, and under each by the values of the variables after the first n, has its first entry that passes where
  -- the function first has a leaf that is wanted.
  pub found-by-rest : find q (flat_map (λ s. map (λ rest. entry s rest) (states (drop n sizes))) (states sizes)) ≡ option_map made (first_found sizes wants f)
  found-by-rest =
      in-rows (states sizes) (All-states (λ s. IsState sizes s) sizes (λ s j. j))
      ∙ sym (map-map made (found_at f) (find (λ p. wants (f p.0 p.1)) (flat_map (λ s. map (λ t. (s, t)) (states sizes)) (states sizes))))

-- The same of a list by present states alone, for a function of the present state.
pub found-by-state : {Y : Type 0} (sizes : List ℕ) (wants : Leaf → Bool) (f : Function) (q : Y → Bool) (entry : List ℕ → Y) (made : Found → Y)
    → All (λ d. 0 < d) sizes
    → ((s t : List ℕ) → IsState sizes s → IsState sizes t → made (record { state = s; leaf = f s t }) ≡ entry s)
    → ((s t : List ℕ) → IsState sizes s → IsState sizes t → q (entry s) ≡ wants (f s t))
    → find q (map entry (states sizes)) ≡ option_map made (first_found sizes wants f)
found-by-state sizes wants f q entry made positive is test =
    ap (find q) (sym (flat_map_single entry (states sizes)))
    ∙ (λ i. find q (flat_map (λ s. map (λ rest. entry s) (states (none i))) (states sizes)))
    ∙ found-by-rest sizes (length sizes) wants f q (λ s rest. entry s) made positive is test
  where
    none : [] ≡ drop (length sizes) sizes
    none = sym (drop_of_length-le sizes (omega arith))

same-list : {X : Type 0} (xs : List X) → xs ≡ map (λ x. x) xs
same-list [] = refl
same-list (x ∷ xs) = ap (λ ys. x ∷ ys) (same-list xs)

-- and the first state itself that passes
pub found-state : (sizes : List ℕ) (wants : Leaf → Bool) (f : Function) (q : List ℕ → Bool) → All (λ d. 0 < d) sizes
    → ((s t : List ℕ) → IsState sizes s → IsState sizes t → q s ≡ wants (f s t))
    → find q (states sizes) ≡ option_map (λ x. x.state) (first_found sizes wants f)
found-state sizes wants f q positive test =
    ap (find q) (same-list (states sizes)) ∙ found-by-state sizes wants f q (λ s. s) (λ x. x.state) positive (λ s t i j. refl) test

-- ---- what an answer says of the function

-- where nothing was found, no leaf is wanted
pub found-none : (sizes : List ℕ) (wants : Leaf → Bool) (f : Function) → first_found sizes wants f ≡ None → (s t : List ℕ) → IsState sizes s → IsState sizes t → wants (f s t) ≡ false
found-none sizes wants f none s t i j =
    let fails : All (λ (p : List ℕ × List ℕ). wants (f p.0 p.1) ≡ false) (state_pairs sizes) =
    find_none (λ (p : List ℕ × List ℕ). wants (f p.0 p.1)) (state_pairs sizes) (unpaired (found_at f) (first_pair sizes wants f) none) in
    let rows : All (λ (s : List ℕ). All (λ (p : List ℕ × List ℕ). wants (f p.0 p.1) ≡ false) (map (λ (t : List ℕ). (s, t)) (states sizes))) (states sizes) =
    All-flat_map_back (λ (p : List ℕ × List ℕ). wants (f p.0 p.1) ≡ false) (λ (s : List ℕ). map (λ (t : List ℕ). (s, t)) (states sizes)) (states sizes) fails in
    let row : All (λ (p : List ℕ × List ℕ). wants (f p.0 p.1) ≡ false) (map (λ (t : List ℕ). (s, t)) (states sizes)) =
    All-states_back (λ (s : List ℕ). All (λ (p : List ℕ × List ℕ). wants (f p.0 p.1) ≡ false) (map (λ (t : List ℕ). (s, t)) (states sizes))) sizes rows s i in
    All-states_back (λ (t : List ℕ). wants (f s t) ≡ false) sizes (All-map_back (λ (p : List ℕ × List ℕ). wants (f p.0 p.1) ≡ false) (λ (t : List ℕ). (s, t)) (states sizes) row) t j
  where
    unpaired : {X Y : Type 0} (k : X → Y) (o : Option X) → option_map k o ≡ None → o ≡ None
    unpaired k None e = refl
    unpaired k (Some x) e = absurd (cc e)

-- What was found is a present state with a leaf that is wanted, which is the function's at some next state.
pub record IsFound (sizes : List ℕ) (wants : Leaf → Bool) (f : Function) (found : Found) : Type 0 where
  pub state : IsState sizes found.state
  pub next : List ℕ
  pub next_is : IsState sizes next
  pub leaf : f found.state next ≡ found.leaf
  pub wanted : wants found.leaf ≡ true

record IsPair (sizes : List ℕ) (p : List ℕ × List ℕ) : Type 0 where
  present : IsState sizes p.0
  next : IsState sizes p.1

pairs-are : (sizes : List ℕ) → All (IsPair sizes) (state_pairs sizes)
pairs-are sizes =
    All-flat_map (IsPair sizes) (λ (s : List ℕ). map (λ (t : List ℕ). (s, t)) (states sizes)) (states sizes)
    (All-states (λ (s : List ℕ). All (IsPair sizes) (map (λ (t : List ℕ). (s, t)) (states sizes))) sizes
    (λ s i. All-map (IsPair sizes) (λ (t : List ℕ). (s, t)) (states sizes) (All-states (λ (t : List ℕ). IsPair sizes (s, t)) sizes (λ t j. record { present = i; next = j }))))

pub found-is : (sizes : List ℕ) (wants : Leaf → Bool) (f : Function) (found : Found) → first_found sizes wants f ≡ Some found → IsFound sizes wants f found
found-is sizes wants f found e = go (first_pair sizes wants f) refl e
  where
    go : (o : Option (List ℕ × List ℕ)) → first_pair sizes wants f ≡ o → option_map (found_at f) o ≡ Some found → IsFound sizes wants f found
    go None h is = absurd (cc is)
    go (Some p) h is =
        let pair : IsPair sizes p = All-find (IsPair sizes) (λ (p : List ℕ × List ℕ). wants (f p.0 p.1)) (state_pairs sizes) p (pairs-are sizes) h in
        let passes : wants (f p.0 p.1) ≡ true = find_passes (λ (p : List ℕ × List ℕ). wants (f p.0 p.1)) (state_pairs sizes) p h in
        let same : found_at f p ≡ found = ap (λ (o : Option Found). unwrap_or o found) is in
        subst (λ (x : Found). IsFound sizes wants f x) same (record { state = pair.present; next = p.1; next_is = pair.next; leaf = refl; wanted = passes })
