-- The states in order, and the tables over them.
use Rattle.std.proofs.Common.{◌≡◌, ℕ, zero, suc, ◌+◌, ◌*◌, ◌/◌, ◌%◌, ◌<◌, ◌≤◌, List, [], ◌∷◌, ◌++◌, length, map, get_or, ℤ, pos, refl, ap, sym, ◌∙◌, subst, arith, length-append, below_more, slice_index, take, drop, All}
use Rattle.std.specs.Prelude.{slice_get, Some, None}
use Rattle.std.specs.List.{flat_map}
use Rattle.std.proofs.lemmas.Grind.{flat_map-append}
use Rattle.std.proofs.lemmas.List.{get_or-map, get_or_append_left, get_or-append-add}
use Rattle.std.proofs.lemmas.List.Elements.{All-head, All-tail, All-map, All-weaker, All-from_get_or}
use Rattle.std.proofs.lemmas.Option.{slice_get-get_or, slice_get_within, slice_get_past, get_or_from_slice_get}
use Rattle.std.proofs.Math.ListN.{length-map, drop_of_length-le}
use Rattle.std.proofs.Math.Nat.{mul-le-mul_right, div-add-mod', mod-lt}
use Rattle.spd_model.specs.declared.process.Var.{Var}
use Rattle.spd_model.specs.Process.{Process}
use Rattle.spd_model.specs.Lawful.{IsLawful, HasValues}
use Rattle.spd_model.specs.Numbers.{numbers_below}
use Rattle.spd_model.specs.States.{sizes, states, state_count, rank, table_of, at, IsState}
use Rattle.spd_model.proofs.CallerLemmas.Lists.{All-map_back}

-- a state has a value for each variable, below its number of values
pub length-IsState : (sizes s : List ℕ) → IsState sizes s → length s ≡ length sizes
length-IsState [] [] h = refl
length-IsState [] (v ∷ s) h = absurd h
length-IsState (size ∷ sizes) [] h = absurd h
length-IsState (size ∷ sizes) (v ∷ s) h = ap suc (length-IsState sizes s h.1)

pub value_below : (sizes s : List ℕ) → IsState sizes s → (var : ℕ) → var < length sizes → slice_index s var < slice_index sizes var
value_below [] s h var near = absurd (omega arith)
value_below (size ∷ sizes) [] h var near = absurd h
value_below (size ∷ sizes) (v ∷ s) h zero near = h.0
value_below (size ∷ sizes) (v ∷ s) h (suc var) near = value_below sizes s h.1 var (omega arith)

-- the state of a rank
abbrev pub state_at : List ℕ → ℕ → List ℕ
state_at [] k = []
state_at (size ∷ sizes) k = k / state_count sizes ∷ state_at sizes (k % state_count sizes)

-- the states whose first value is below n
starting_below : List ℕ → ℕ → List (List ℕ)
starting_below sizes n = flat_map (λ v. map (λ s. v ∷ s) (states sizes)) (numbers_below n)

starting_below-suc : (sizes : List ℕ) (n : ℕ) → starting_below sizes (suc n) ≡ starting_below sizes n ++ (map (λ s. n ∷ s) (states sizes) ++ [])
unfolding starting_below
starting_below-suc sizes n = flat_map-append (λ v. map (λ s. v ∷ s) (states sizes)) (numbers_below n) (n ∷ [])

starting_with : (sizes : List ℕ) (n : ℕ) → length (map (λ (s : List ℕ). n ∷ s) (states sizes)) ≡ length (states sizes)
starting_with sizes n = simp length-map

length-starting_below : (sizes : List ℕ) (n : ℕ) → length (states sizes) ≡ state_count sizes → length (starting_below sizes n) ≡ n * state_count sizes
unfolding starting_below
length-starting_below sizes zero h = omega arith
length-starting_below sizes (suc n) h =
    ap length (starting_below-suc sizes n) ∙ length-append (starting_below sizes n) (map (λ s. n ∷ s) (states sizes) ++ [])
    ∙ omega (arith, length-starting_below sizes n h, length-append (map (λ s. n ∷ s) (states sizes)) [], starting_with sizes n)

pub length-states : (sizes : List ℕ) → length (states sizes) ≡ state_count sizes
unfolding starting_below
length-states [] = refl
length-states (size ∷ sizes) = length-starting_below sizes size (length-states sizes)

pub rank_below : (sizes s : List ℕ) → IsState sizes s → rank sizes s < state_count sizes
rank_below [] [] h = omega arith
rank_below [] (v ∷ s) h = absurd h
rank_below (size ∷ sizes) [] h = absurd h
rank_below (size ∷ sizes) (v ∷ s) h = omega (arith, rank_below sizes s h.1, mul-le-mul_right (state_count sizes) h.0)

module _ (sizes s : List ℕ) (is : IsState sizes s) (found : get_or (states sizes) (rank sizes s) [] ≡ s) where
  starting_earlier : (n v : ℕ) → v < n → get_or (starting_below sizes n) (v * state_count sizes + rank sizes s) [] ≡ v ∷ s
      → get_or (starting_below sizes (suc n)) (v * state_count sizes + rank sizes s) [] ≡ v ∷ s
  starting_earlier n v h e =
      ap (λ l. get_or l (v * state_count sizes + rank sizes s) []) (starting_below-suc sizes n)
      ∙ get_or_append_left (starting_below sizes n) (map (λ t. n ∷ t) (states sizes) ++ []) [] (v * state_count sizes + rank sizes s)
      (omega (arith, rank_below sizes s is, length-starting_below sizes n (length-states sizes), mul-le-mul_right (state_count sizes) h)) ∙ e

  starting_here : (n : ℕ) → get_or (starting_below sizes (suc n)) (n * state_count sizes + rank sizes s) [] ≡ n ∷ s
  starting_here n =
      let last = map (λ (t : List ℕ). n ∷ t) (states sizes) in
      let near : rank sizes s < length (states sizes) = omega (arith, rank_below sizes s is, length-states sizes) in
      ap (λ l. get_or l (n * state_count sizes + rank sizes s) []) (starting_below-suc sizes n)
      ∙ ap (λ k. get_or (starting_below sizes n ++ (last ++ [])) (k + rank sizes s) []) (sym (length-starting_below sizes n (length-states sizes)))
      ∙ get_or-append-add (starting_below sizes n) (last ++ []) (rank sizes s) []
      ∙ get_or_append_left last [] [] (rank sizes s) (omega (arith, starting_with sizes n))
      ∙ get_or-map (λ t. n ∷ t) (states sizes) (rank sizes s) [] [] near ∙ ap (λ t. n ∷ t) found

  get_or-starting_below : (n v : ℕ) → v < n → get_or (starting_below sizes n) (v * state_count sizes + rank sizes s) [] ≡ v ∷ s
  get_or-starting_below zero v h = absurd (omega arith)
  get_or-starting_below (suc n) v h =
      below_more (λ k. get_or (starting_below sizes (suc n)) (k * state_count sizes + rank sizes s) [] ≡ k ∷ s) n
      (λ k p. starting_earlier n k p (get_or-starting_below n k p)) (starting_here n) v (omega arith)

pub get_or-states : (sizes s : List ℕ) → IsState sizes s → get_or (states sizes) (rank sizes s) [] ≡ s
unfolding starting_below
get_or-states [] [] h = refl
get_or-states [] (v ∷ s) h = absurd h
get_or-states (size ∷ sizes) [] h = absurd h
get_or-states (size ∷ sizes) (v ∷ s) h = get_or-starting_below sizes s h.1 (get_or-states sizes s h.1) size v h.0

some_left : (a b k : ℕ) → k < a * b → 0 < b
some_left a zero k h = absurd (omega arith)
some_left a (suc b) k h = omega arith

pub quotient_below : (a b k : ℕ) → k < a * b → k / b < a
quotient_below a b k h = grind (arith, div-add-mod' k b)

pub IsState-state_at : (sizes : List ℕ) (k : ℕ) → k < state_count sizes → IsState sizes (state_at sizes k)
IsState-state_at [] k h = tt
IsState-state_at (size ∷ sizes) k h =
    (quotient_below size (state_count sizes) k h, IsState-state_at sizes (k % state_count sizes) (mod-lt k (some_left size (state_count sizes) k h)))

pub rank-state_at : (sizes : List ℕ) (k : ℕ) → k < state_count sizes → rank sizes (state_at sizes k) ≡ k
rank-state_at [] k h = omega arith
rank-state_at (size ∷ sizes) k h =
    let p = mod-lt k (some_left size (state_count sizes) k h) in
    omega (arith, rank-state_at sizes (k % state_count sizes) p, div-add-mod' k (state_count sizes))

pub get_or-states_at : (sizes : List ℕ) (k : ℕ) → k < state_count sizes → get_or (states sizes) k [] ≡ state_at sizes k
get_or-states_at sizes k h =
    ap (λ (j : ℕ). get_or (states sizes) j []) (sym (rank-state_at sizes k h)) ∙ get_or-states sizes (state_at sizes k) (IsState-state_at sizes k h)

pub length-table_of : {X : Type 0} (sizes : List ℕ) (f : List ℕ → X) → length (table_of sizes f) ≡ state_count sizes
length-table_of sizes f = length-map (states sizes) f ∙ length-states sizes

-- the state of a rank is a state, and has that rank
pub IsState-get_or : (sizes : List ℕ) (k : ℕ) → k < state_count sizes → IsState sizes (get_or (states sizes) k [])
IsState-get_or sizes k h = subst (IsState sizes) (sym (get_or-states_at sizes k h)) (IsState-state_at sizes k h)

pub rank-get_or : (sizes : List ℕ) (k : ℕ) → k < state_count sizes → rank sizes (get_or (states sizes) k []) ≡ k
rank-get_or sizes k h = ap (rank sizes) (get_or-states_at sizes k h) ∙ rank-state_at sizes k h

pub at-get_or : (sizes : List ℕ) (table : List ℤ) (k : ℕ) → k < state_count sizes → at sizes table (get_or (states sizes) k []) ≡ get_or table k (pos 0)
at-get_or sizes table k h = ap (λ (j : ℕ). get_or table j (pos 0)) (rank-get_or sizes k h)

-- what a table has at a place
pub get_or-table_of : {X : Type 0} (sizes : List ℕ) (f : List ℕ → X) (k : ℕ) (d : X) → k < state_count sizes → get_or (table_of sizes f) k d ≡ f (get_or (states sizes) k [])
get_or-table_of sizes f k d h = get_or-map f (states sizes) k [] d (omega (arith, length-states sizes))

-- ---- what holds of each state

pub All-states : (P : List ℕ → Type 0) (sizes : List ℕ) → ((s : List ℕ) → IsState sizes s → P s) → All P (states sizes)
All-states P sizes h =
    All-from_get_or P (states sizes) [] (λ k near. h (get_or (states sizes) k []) (IsState-get_or sizes k (omega (arith, length-states sizes))))

pub All-states_back : (P : List ℕ → Type 0) (sizes : List ℕ) → All P (states sizes) → (s : List ℕ) → IsState sizes s → P s
All-states_back P sizes h s is =
    subst P (get_or-states sizes s is) (h (rank sizes s) [] (omega (arith, rank_below sizes s is, length-states sizes)))

pub All-table_of : {X : Type 0} (P : X → Type 0) (sizes : List ℕ) (f : List ℕ → X) → ((s : List ℕ) → IsState sizes s → P (f s)) → All P (table_of sizes f)
All-table_of P sizes f h = All-map P f (states sizes) (All-states (λ s. P (f s)) sizes h)

pub All-table_of_back : {X : Type 0} (P : X → Type 0) (sizes : List ℕ) (f : List ℕ → X) → All P (table_of sizes f) → (s : List ℕ) → IsState sizes s → P (f s)
All-table_of_back P sizes f h = All-states_back (λ s. P (f s)) sizes (All-map_back P f (states sizes) h)

-- the state that stands at a place in the order
pub slice_get-states : (sizes s : List ℕ) → IsState sizes s → slice_get (states sizes) (rank sizes s) ≡ Some s
slice_get-states sizes s is =
    slice_get-get_or (states sizes) (rank sizes s) [] (omega (arith, rank_below sizes s is, length-states sizes)) ∙ ap Some (get_or-states sizes s is)

pub record StandsAt (sizes : List ℕ) (k : ℕ) (s : List ℕ) : Type 0 where
  pub state : IsState sizes s
  pub rank_is : rank sizes s ≡ k

pub stands_at : (sizes : List ℕ) (k : ℕ) (s : List ℕ) → slice_get (states sizes) k ≡ Some s → StandsAt sizes k s
stands_at sizes k s found =
    let near : k < state_count sizes = omega (arith, slice_get_within (states sizes) k s found, length-states sizes) in
    let is : get_or (states sizes) k [] ≡ s = get_or_from_slice_get (states sizes) k s [] found in
    record { state = subst (IsState sizes) is (IsState-get_or sizes k near); rank_is = ap (rank sizes) (sym is) ∙ rank-get_or sizes k near }

-- no state stands past the last
pub none_past : (sizes : List ℕ) (k : ℕ) → state_count sizes ≤ k → slice_get (states sizes) k ≡ None
none_past sizes k past = slice_get_past (states sizes) k (omega (arith, length-states sizes))

-- ---- the values of some variables in place of a state's

-- the values of variables from the one after i on, with one more before them
pub IsState-drop : (sizes : List ℕ) (i v : ℕ) (rest : List ℕ) → i < length sizes → v < slice_index sizes i → IsState (drop (suc i) sizes) rest
    → IsState (drop i sizes) (v ∷ rest)
IsState-drop [] i v rest near below is = absurd (omega arith)
IsState-drop (size ∷ sizes) zero v rest near below is = (below, is)
IsState-drop (size ∷ sizes) (suc i) v rest near below is = IsState-drop sizes i v rest (omega arith) below is

-- no values are left behind the last variable
pub IsState-none : (sizes : List ℕ) (n : ℕ) → length sizes ≤ n → IsState (drop n sizes) []
IsState-none sizes n past = subst (λ l. IsState l []) (sym (drop_of_length-le sizes past)) tt

-- a state's own last values
pub IsState-own : (sizes : List ℕ) (i : ℕ) (s : List ℕ) → IsState sizes s → IsState (drop i sizes) (drop i s)
IsState-own sizes zero s is = is
IsState-own [] (suc i) [] is = tt
IsState-own [] (suc i) (v ∷ s) is = absurd is
IsState-own (size ∷ sizes) (suc i) [] is = absurd is
IsState-own (size ∷ sizes) (suc i) (v ∷ s) is = IsState-own sizes i s is.1

-- a state with other values from the variable i on
pub IsState-followed_by : (sizes : List ℕ) (i : ℕ) (s rest : List ℕ) → IsState sizes s → IsState (drop i sizes) rest → IsState sizes (take i s ++ rest)
IsState-followed_by sizes zero s rest is there = there
IsState-followed_by [] (suc i) [] rest is there = there
IsState-followed_by [] (suc i) (v ∷ s) rest is there = absurd is
IsState-followed_by (size ∷ sizes) (suc i) [] rest is there = absurd is
IsState-followed_by (size ∷ sizes) (suc i) (v ∷ s) rest is there = (is.0, IsState-followed_by sizes i s rest is.1 there)

-- the rank moves by as much as that of the other values
pub rank-followed_by : (sizes : List ℕ) (i : ℕ) (s rest : List ℕ) → IsState sizes s
    → rank sizes (take i s ++ rest) + rank (drop i sizes) (drop i s) ≡ rank sizes s + rank (drop i sizes) rest
rank-followed_by sizes zero s rest is = omega arith
rank-followed_by [] (suc i) s rest is = refl
rank-followed_by (size ∷ sizes) (suc i) [] rest is = absurd is
rank-followed_by (size ∷ sizes) (suc i) (v ∷ s) rest is = omega (arith, rank-followed_by sizes i s rest is.1)

-- ---- the sizes of a model's variables

pub length-sizes : (m : Process) → length (sizes m) ≡ length m.vars
length-sizes m = length-map m.vars (λ (x : Var). length x.values)

pub sizes_some : (m : Process) → IsLawful m → All (λ size. 0 < size) (sizes m)
sizes_some m law =
    All-map (λ size. 0 < size) (λ (x : Var). length x.values) m.vars (All-weaker HasValues (λ x. 0 < length x.values) (λ x h. h.some) m.vars law.values)

pub sizes_few : (m : Process) → IsLawful m → All (λ size. size ≤ 64) (sizes m)
sizes_few m law =
    All-map (λ size. size ≤ 64) (λ (x : Var). length x.values) m.vars (All-weaker HasValues (λ x. length x.values ≤ 64) (λ x h. h.few) m.vars law.values)

pub state_count_some : (sizes : List ℕ) → All (λ size. 0 < size) sizes → 0 < state_count sizes
state_count_some [] h = omega arith
state_count_some (size ∷ sizes) h =
    let here = All-head (λ n. 0 < n) size sizes h in
    let there = state_count_some sizes (All-tail (λ n. 0 < n) size sizes h) in
    let more = mul-le-mul_right (state_count sizes) here in
    omega (arith, more, there)

-- ---- how many states the first variables have

pub state_count-take : (sizes : List ℕ) (k : ℕ) → k < length sizes → state_count (take (suc k) sizes) ≡ state_count (take k sizes) * get_or sizes k 0
state_count-take [] k near = absurd (omega arith)
state_count-take (size ∷ sizes) zero near = omega arith
state_count-take (size ∷ sizes) (suc k) near =
    let more = state_count-take sizes k (omega arith) in
    ap (λ n. size * n) more ∙ omega arith

-- the size of a variable that is read
pub size_read : (m : Process) (vars : List Var) (k : ℕ) (x : Var) → vars ≡ m.vars → k < length vars → x ≡ get_or vars k x → length x.values ≡ get_or (sizes m) k 0
size_read m vars k x are near is =
    ap (λ (v : Var). length v.values) (is ∙ ap (λ (l : List Var). get_or l k x) are)
    ∙ sym (get_or-map (λ (v : Var). length v.values) m.vars k x 0 (omega (arith, ap length are)))

-- the product with one variable more
pub next_product : (m : Process) (k count size : ℕ) → k < length m.vars → count ≡ state_count (take k (sizes m)) → size ≡ get_or (sizes m) k 0 → count * size ≡ state_count (take (suc k) (sizes m))
next_product m k count size near is here = (λ i. is i * here i) ∙ sym (state_count-take (sizes m) k (omega (arith, length-sizes m)))
