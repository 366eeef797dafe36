-- The states of the variables from one on, among the states of all variables.
use Rattle.std.proofs.Common.{◌≡◌, ℕ, zero, suc, ◌+◌, ◌*◌, ◌<◌, ◌≤◌, List, [], ◌∷◌, ◌++◌, length, map, add-one, take, drop, drop-cons, get_or, slice_index, All, refl, ap, sym, ◌∙◌, subst, arith}
use Rattle.std.proofs.Math.Nat.{mul-le-mul_right}
use Rattle.std.proofs.lemmas.List.Elements.{All-head, All-tail, All-drop}
use Rattle.std.proofs.lemmas.List.{get_or_default, map_push}
use Rattle.spd_model.specs.Numbers.{numbers_below}
use Rattle.spd_model.specs.Process.{Process}
use Rattle.spd_model.specs.Lawful.{IsLawful}
use Rattle.spd_model.specs.States.{sizes, states, state_count, IsState}
use Rattle.spd_model.specs.Chances.{sizes_after}
use Rattle.spd_model.proofs.CallerLemmas.StateOrder.{IsState-get_or, length-states, rank-get_or, get_or-states, length-sizes, sizes_some, state_count_some}
use Rattle.spd_plain.specs.declared.space.Axis.{Axis}
use Rattle.spd_plain.specs.declared.space.Space.{Space}
use Rattle.spd_plain.specs.inner.Axes.{IsAxis, IsSpace}

-- the state of the first variable's value v and the others' k-th state
pub get_or-states_more : (size : ℕ) (sizes : List ℕ) (v k : ℕ) → v < size → k < state_count sizes
    → get_or (states (size ∷ sizes)) (v * state_count sizes + k) [] ≡ v ∷ get_or (states sizes) k []
get_or-states_more size sizes v k below near =
    let t = get_or (states sizes) k [] in
    ap (λ (n : ℕ). get_or (states (size ∷ sizes)) (v * state_count sizes + n) []) (sym (rank-get_or sizes k near))
    ∙ get_or-states (size ∷ sizes) (v ∷ t) (below, IsState-get_or sizes k near)

-- fewer variables have no more states
pub state_count-drop : (sizes : List ℕ) (i : ℕ) → All (λ size. 0 < size) sizes → state_count (drop i sizes) ≤ state_count sizes
state_count-drop sizes zero some = omega arith
state_count-drop [] (suc i) some = omega arith
state_count-drop (size ∷ sizes) (suc i) some =
    let fewer = state_count-drop sizes i (All-tail (λ n. 0 < n) size sizes some) in
    let more = mul-le-mul_right (state_count sizes) (All-head (λ n. 0 < n) size sizes some) in
    omega (arith, fewer, more)

-- the first states differ in the last variables alone
pub drop-states : (sizes : List ℕ) (i k : ℕ) → All (λ size. 0 < size) sizes → k < state_count (drop i sizes)
    → drop i (get_or (states sizes) k []) ≡ get_or (states (drop i sizes)) k []
drop-states sizes zero k some near = refl
drop-states [] (suc i) zero some near = refl
drop-states [] (suc i) (suc k) some near = absurd (omega arith)
drop-states (size ∷ sizes) (suc i) k some near =
    let rest = All-tail (λ n. 0 < n) size sizes some in
    let place : k ≡ 0 * state_count sizes + k = omega arith in
    ap (λ (n : ℕ). drop (suc i) (get_or (states (size ∷ sizes)) n [])) place
    ∙ ap (drop (suc i)) (get_or-states_more size sizes 0 k (All-head (λ n. 0 < n) size sizes some) (omega (arith, state_count-drop sizes i rest)))
    ∙ drop-states sizes i k rest near

-- the entries of a list before i and of another one from i on
pub index-from : (s t : List ℕ) (i var : ℕ) → i ≤ length s → i ≤ length t → i ≤ var → slice_index t var ≡ slice_index (take i s ++ drop i t) var
index-from s t zero var few_s few_t from = refl
index-from [] t (suc i) var few_s few_t from = absurd (omega arith)
index-from (x ∷ s) [] (suc i) var few_s few_t from = absurd (omega arith)
index-from (x ∷ s) (y ∷ t) (suc i) zero few_s few_t from = absurd (omega arith)
index-from (x ∷ s) (y ∷ t) (suc i) (suc var) few_s few_t from = index-from s t i var (omega arith) (omega arith) (omega arith)

pub index-at : (s rest : List ℕ) (i v : ℕ) → i ≤ length s → slice_index (take i s ++ v ∷ rest) i ≡ v
index-at s rest zero v few = refl
index-at [] rest (suc i) v few = absurd (omega arith)
index-at (x ∷ s) rest (suc i) v few = index-at s rest i v (omega arith)

module _ (m : Process) (i : ℕ) (near : i < length m.vars) where
  -- the variables from i on are i and those after it
  pub drop-sizes : drop i (sizes m) ≡ slice_index (sizes m) i ∷ sizes_after m i
  drop-sizes = drop-cons (sizes m) i 0 (omega (arith, length-sizes m))

  pub state_count-from : state_count (drop i (sizes m)) ≡ slice_index (sizes m) i * state_count (sizes_after m i)
  state_count-from = ap state_count drop-sizes

  pub few_from : IsLawful m → slice_index (sizes m) i * state_count (sizes_after m i) ≤ state_count (sizes m)
  few_from law = omega (arith, state_count-from, state_count-drop (sizes m) i (sizes_some m law))

  -- the values of the variables from i on, in the state of i's value v and of the k-th state of those after it
  pub from_more : (v k : ℕ) → v < slice_index (sizes m) i → k < state_count (sizes_after m i)
      → get_or (states (drop i (sizes m))) (v * state_count (sizes_after m i) + k) [] ≡ v ∷ get_or (states (sizes_after m i)) k []
  from_more v k below place =
      ap (λ (l : List ℕ). get_or (states l) (v * state_count (sizes_after m i) + k) []) drop-sizes
      ∙ get_or-states_more (slice_index (sizes m) i) (sizes_after m i) v k below place

-- the states from a variable on, where it stands as an axis
module _ (m : Process) (axis : Axis) (is : IsAxis m axis) where
  pub size_is : axis.size ≡ slice_index (sizes m) axis.var
  size_is = ap (λ (x : Axis). x.size) is.is

  pub after_is : axis.after ≡ state_count (sizes_after m axis.var)
  after_is = ap (λ (x : Axis). x.after) is.is

  pub axis_more : (v k : ℕ) → v < axis.size → k < axis.after → get_or (states (drop axis.var (sizes m))) (v * axis.after + k) [] ≡ v ∷ get_or (states (sizes_after m axis.var)) k []
  axis_more v k below place =
      ap (λ (n : ℕ). get_or (states (drop axis.var (sizes m))) (v * n + k) []) after_is
      ∙ from_more m axis.var is.near v k (omega (arith, size_is)) (omega (arith, after_is))

  pub counted : axis.size * axis.after ≡ state_count (drop axis.var (sizes m))
  counted = ap (λ (x : Axis). x.size * x.after) is.is ∙ sym (state_count-from m axis.var is.near)

  pub after_some : 0 < axis.after
  after_some = omega (arith, after_is, state_count_some (sizes_after m axis.var) (All-drop (λ n. 0 < n) (suc axis.var) (sizes m) (sizes_some m is.law)))

  pub own_state : (place : ℕ) → place < axis.size * axis.after → drop axis.var (get_or (states (sizes m)) place []) ≡ get_or (states (drop axis.var (sizes m))) place []
  own_state place near = drop-states (sizes m) axis.var place (sizes_some m is.law) (omega (arith, counted))

-- the list of all states, and the state that is read in it
module _ {m : Process} {space : Space} (is : IsSpace m space) {all : List (List ℕ)} (are : all ≡ space.states) where
  pub length-all : length all ≡ state_count (sizes m)
  length-all = ap length (are ∙ is.states) ∙ length-states (sizes m)

  -- the first states for all values of a variable and of those after it are among them
  pub near_all : (axis : Axis) → IsAxis m axis → (place : ℕ) → place < axis.size * axis.after → place < length all
  near_all axis stands place near = omega (arith, length-all, counted m axis stands, state_count-drop (sizes m) axis.var (sizes_some m is.law))

  pub state_is : (k : ℕ) {s : List ℕ} → k < length all → s ≡ get_or all k s → s ≡ get_or (states (sizes m)) k []
  state_is k {s} near read = read ∙ get_or_default all k s [] near ∙ ap (λ (l : List (List ℕ)). get_or l k []) (are ∙ is.states)

  pub state_read : (k : ℕ) {s : List ℕ} → k < length all → s ≡ get_or all k s → IsState (sizes m) s
  state_read k near read = subst (IsState (sizes m)) (sym (state_is k near read)) (IsState-get_or (sizes m) k (omega (arith, length-all)))

-- a list that tells f of the numbers below v, with one entry more
pub map_below_more : {X : Type 0} (f : ℕ → X) (v : ℕ) (xs : List X) (x : X) → xs ≡ map f (numbers_below v) → x ≡ f v → xs ++ x ∷ [] ≡ map f (numbers_below (v + 1))
map_below_more f v xs x are is = (λ i. are i ++ is i ∷ []) ∙ sym (ap (λ (n : ℕ). map f (numbers_below n)) (add-one v) ∙ map_push f (numbers_below v) v)
