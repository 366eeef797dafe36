-- The process of a ring is valid: each table's chances sum to one, and rewards are small.
use Rattle.std.proofs.Common.{◌≡◌, ℕ, zero, suc, ◌+◌, ◌*◌, ◌^◌, ◌<◌, ◌≤◌, Bool, true, false, if◌then◌else◌, List, [], ◌∷◌, ◌++◌, length, map, take, Option, Some, None, refl, ap, sym, ◌∙◌, subst, arith, ℤ, pos, ◌+ℤ◌, ◌≤ℤ◌}
use Rattle.std.specs.Prelude.{All, Contains, slice_get, slice_index, slice_index_or, unsigned_abs, ◌-ℤ◌}
use Rattle.std.specs.Option.{option_map}
use Rattle.std.proofs.lemmas.Option.{slice_get-map, slice_get-get_or}
use Rattle.std.proofs.lemmas.Int.{ints}
use Rattle.std.proofs.lemmas.Bool.Decides.{nat_tests}
use Rattle.std.proofs.lemmas.List.{get_or_at, get_or-map, length-map, length-take-le}
use Rattle.std.proofs.lemmas.List.Elements.{All-cons, All-map, All-contains}
use Rattle.spd_scaled.specs.Scaled.{IsWithin}
use Rattle.spd_scaled.proofs.CallerLemmas.Magnitude.{IsWithin_zero, IsWithin_mono, IsWithin-+ℤ, unsigned_abs-le}
use Rattle.spd_scaled.proofs.CallerLemmas.DivisionLaws.{IsWithin-floor_div}
use Rattle.spd_model.specs.declared.tree.Tree.{Tree, Leaf}
use Rattle.spd_model.specs.declared.process.Var.{Var}
use Rattle.spd_model.specs.declared.process.Action.{Action}
use Rattle.spd_model.specs.Numbers.{numbers_below, total, sum_below}
use Rattle.spd_model.specs.States.{sizes, IsState}
use Rattle.spd_model.specs.Trees.{read_tree, following, value_of}
use Rattle.spd_model.specs.Chances.{one, probability, sum_of, reward_of, reward_limit, IsValid}
use Rattle.spd_model.proofs.CallerLemmas.Lists.{length-numbers_below, get_or-numbers_below, All-numbers_below, map-map}
use Rattle.spd_model.proofs.CallerLemmas.StateOrder.{length-IsState, value_below}
use Rattle.spd_model.proofs.CallerLemmas.Trees.{read_tree-Branch}
use Rattle.spd_gen.specs.Ring.{left_of, is_rebooted}
use Rattle.spd_gen.specs.Process.{variable, choice, chances, keep_tree, fix_tree, table_tree, noop, reboot, working, ring_process}

-- ---- values of trees

-- the value of a tree without names
abbrev value : List ℕ → List ℕ → Tree → ℤ
value s t tree = read_tree (following s t) [] tree

-- one of two numbers
abbrev pick : ℤ → ℤ → ℕ → ℤ
pick up down v = slice_index_or (up ∷ down ∷ []) v (pos 0)

value-choice : (s t : List ℕ) (i : ℕ) (up down : Tree) → value s t (choice i up down) ≡ pick (value s t up) (value s t down) (slice_index s i)
value-choice s t i up down = read_tree-Branch (following s t) [] i false (up ∷ down ∷ [])

value-chances : (s t : List ℕ) (i : ℕ) (up down : ℤ) → value s t (chances i up down) ≡ pick up down (slice_index t i)
value-chances s t i up down = read_tree-Branch (following s t) [] i true (Leaf up ∷ Leaf down ∷ [])

-- two chances that sum to one
record AreChances (x y : ℤ) : Type 0 where
  up : pos 0 ≤ℤ x
  down : pos 0 ≤ℤ y
  sum : x +ℤ y ≡ one

picked : (x y x' y' : ℤ) (v : ℕ) → v < 2 → AreChances x x' → AreChances y y' → AreChances (pick x y v) (pick x' y' v)
picked x y x' y' zero h p q = p
picked x y x' y' (suc zero) h p q = q
picked x y x' y' (suc (suc v)) h p q = absurd (omega arith)

chances-as : (x x' y y' : ℤ) → x ≡ x' → y ≡ y' → AreChances x' y' → AreChances x y
chances-as x x' y y' e f h = subst (λ (u : ℤ). AreChances u y) (sym e) (subst (λ (u : ℤ). AreChances x' u) (sym f) h)

-- each value of the first n machines is up or down
record AreMachines (n : ℕ) (s : List ℕ) : Type 0 where
  below : (j : ℕ) → j < n → slice_index s j < 2

-- A tree of machine i: at each state the chances that it is up next and that it is down sum to one.
record IsFair (n i : ℕ) (tree : Tree) : Type 0 where
  fair : (s before rest : List ℕ) → AreMachines n s → length before ≡ i → AreChances (value s (before ++ 0 ∷ rest) tree) (value s (before ++ 1 ∷ rest) tree)

fair-chances : (n i : ℕ) (up down : ℤ) → AreChances up down → IsFair n i (chances i up down)
fair-chances n i up down h = record {
  fair = λ s before rest machines e.
      chances-as _ up _ down
      (value-chances s (before ++ 0 ∷ rest) i up down ∙ ap (pick up down) (get_or_at before 0 rest 0 i e))
      (value-chances s (before ++ 1 ∷ rest) i up down ∙ ap (pick up down) (get_or_at before 1 rest 0 i e)) h;
}

fair-choice : (n i j : ℕ) (up down : Tree) → j < n → IsFair n i up → IsFair n i down → IsFair n i (choice j up down)
fair-choice n i j up down h p q = record {
  fair = λ s before rest machines e.
      chances-as _ _ _ _ (value-choice s (before ++ 0 ∷ rest) j up down) (value-choice s (before ++ 1 ∷ rest) j up down)
      (picked _ _ _ _ (slice_index s j) (machines.below j h) (p.fair s before rest machines e) (q.fair s before rest machines e));
}

pub left-below : (n i : ℕ) → i < n → left_of n i < n
left-below n i h = grind (arith, nat_tests)

even : (up down : ℕ) → up + down ≡ 1000000000000 → AreChances (pos up) (pos down)
even up down h = record { up = omega (arith, ints); down = omega (arith, ints); sum = ap (λ (k : ℕ). pos k) h }

fair-keep : (n i : ℕ) → i < n → IsFair n i (keep_tree n i)
fair-keep n i h =
    fair-choice n i i _ _ h
    (fair-choice n i (left_of n i) _ _ (left-below n i h)
    (fair-chances n i (pos 900000000000) (pos 100000000000) (even 900000000000 100000000000 refl))
    (fair-chances n i (pos 600000000000) (pos 400000000000) (even 600000000000 400000000000 refl)))
    (fair-chances n i (pos 100000000000) (pos 900000000000) (even 100000000000 900000000000 refl))

fair-either : (n i : ℕ) (b : Bool) → i < n → IsFair n i (if b then fix_tree i else keep_tree n i)
fair-either n i true h = fair-chances n i (pos 1000000000000) (pos 0) (even 1000000000000 0 refl)
fair-either n i false h = fair-keep n i h

fair-table : (n : ℕ) (r : Option ℕ) (i : ℕ) → i < n → IsFair n i (table_tree n r i)
fair-table n r i h = fair-either n i (is_rebooted r i) h

-- ---- bounded values

picked-within : (c x y : ℤ) (v : ℕ) → pos 0 ≤ℤ c → IsWithin c x → IsWithin c y → IsWithin c (pick x y v)
picked-within c x y zero h p q = p
picked-within c x y (suc zero) h p q = q
picked-within c x y (suc (suc v)) h p q = IsWithin_zero c h

total-within : (f : ℕ → ℤ) (c : ℕ) → ((i : ℕ) → IsWithin (pos c) (f i)) → (xs : List ℕ) → IsWithin (pos (length xs * c)) (total (map f xs))
total-within f c h [] = subst (λ (k : ℕ). IsWithin (pos k) (pos 0)) (omega arith) (IsWithin_zero (pos 0) (omega (arith, ints)))
total-within f c h (x ∷ xs) =
    let same : c + length xs * c ≡ suc (length xs) * c = omega arith in
    subst (λ (k : ℕ). IsWithin (pos k) (f x +ℤ total (map f xs))) same (IsWithin-+ℤ (pos c) (pos (length xs * c)) (f x) (total (map f xs)) (h x) (total-within f c h xs))

within : (x : ℕ) → x ≤ 1000000000000 → IsWithin (pos 1000000000000) (pos x)
within x h = record { low = omega (arith, ints); high = omega (arith, ints) }

working-within : (s : List ℕ) (i : ℕ) → IsWithin (pos 1000000000000) (value s s (working i))
working-within s i =
    subst (IsWithin (pos 1000000000000)) (sym (value-choice s s i (Leaf (pos 1000000000000)) (Leaf (pos 0))))
    (picked-within (pos 1000000000000) (pos 1000000000000) (pos 0) (slice_index s i) (omega (arith, ints)) (within 1000000000000 (omega arith)) (within 0 (omega arith)))

-- ---- the process

-- an action of the ring: its tables are those of an action that may reboot one machine, and its cost is at most one
record IsOfRing (n : ℕ) (a : Action) : Type 0 where
  rebooted : Option ℕ
  tables : a.tables ≡ map (table_tree n rebooted) (numbers_below n)
  cost : (s : List ℕ) → IsWithin (pos 1000000000000) (total (map (λ tree. value s s tree) a.cost))

of_noop : (n : ℕ) → IsOfRing n (noop n)
of_noop n = record { rebooted = None; tables = refl; cost = λ s. IsWithin_zero (pos 1000000000000) (omega (arith, ints)) }

of_reboot : (n i : ℕ) → IsOfRing n (reboot n i)
of_reboot n i = record { rebooted = Some i; tables = refl; cost = λ s. within 750000000000 (omega arith) }

all_of_ring : (n : ℕ) → All (IsOfRing n) (ring_process n).actions
unfolding ring_process
all_of_ring n =
    All-cons (IsOfRing n) (noop n) (map (reboot n) (numbers_below n)) (of_noop n)
    (All-map (IsOfRing n) (reboot n) (numbers_below n) (All-numbers_below (λ i. IsOfRing n (reboot n i)) n (λ i h. of_reboot n i)))

pub length-vars : (n : ℕ) → length (ring_process n).vars ≡ n
unfolding ring_process
length-vars n = length-map (numbers_below n) variable ∙ length-numbers_below n

pub size-at : (n i : ℕ) → i < n → slice_index (sizes (ring_process n)) i ≡ 2
unfolding ring_process
size-at n i h =
    let machines = map variable (numbers_below n) in
    let many : length machines ≡ n = length-map (numbers_below n) variable ∙ length-numbers_below n in
    let near : i < length machines = omega (arith, many) in
    let own : i < length (numbers_below n) = omega (arith, length-numbers_below n) in
    get_or-map (λ (x : Var). length x.values) machines i (variable 0) 0 near
    ∙ ap (λ (x : Var). length x.values) (get_or-map variable (numbers_below n) i 0 (variable 0) own)

length-all : (n : ℕ) → length (sizes (ring_process n)) ≡ n
length-all n = length-map (ring_process n).vars (λ (x : Var). length x.values) ∙ length-vars n

machines-of : (n : ℕ) (s : List ℕ) → IsState (sizes (ring_process n)) s → AreMachines n s
machines-of n s h = record {
  below = λ j near.
      subst (λ (k : ℕ). slice_index s j < k) (size-at n j near) (value_below (sizes (ring_process n)) s h j (omega (arith, length-all n)));
}

table-at : (n : ℕ) (r : Option ℕ) (i : ℕ) → i < n → slice_get (map (table_tree n r) (numbers_below n)) i ≡ Some (table_tree n r i)
table-at n r i h =
    let own : i < length (numbers_below n) = omega (arith, length-numbers_below n) in
    slice_get-map (table_tree n r) (numbers_below n) i
    ∙ ap (option_map (table_tree n r)) (slice_get-get_or (numbers_below n) i 0 own ∙ ap (λ (k : ℕ). Some k) (get_or-numbers_below n i h))

value-in : (n : ℕ) (tree : Tree) (s t : List ℕ) → value_of (ring_process n) tree s t ≡ value s t tree
unfolding ring_process
value-in n tree s t = refl

probability-is : (n : ℕ) (a : Action) (is : IsOfRing n a) (s rest : List ℕ) (i v : ℕ) → i < n
    → probability (ring_process n) a s i v rest ≡ value s (take i s ++ v ∷ rest) (table_tree n is.rebooted i)
probability-is n a is s rest i v h =
    let by : Option Tree → ℤ = λ o. elim o [ None ↦ pos 0 | Some tree ↦ value_of (ring_process n) tree s (take i s ++ v ∷ rest) ] in
    ap by (ap (λ (l : List Tree). slice_get l i) is.tables ∙ table-at n is.rebooted i h) ∙ value-in n (table_tree n is.rebooted i) s (take i s ++ v ∷ rest)

module _ (n : ℕ) (a : Action) (offered : Contains (ring_process n).actions a) (i : ℕ) (near : i < length (ring_process n).vars) (s rest : List ℕ) (state : IsState (sizes (ring_process n)) s) where
  own : IsOfRing n a
  own = All-contains (IsOfRing n) (ring_process n).actions a (all_of_ring n) offered

  inside : i < n
  inside = omega (arith, length-vars n)

  both : AreChances (probability (ring_process n) a s i 0 rest) (probability (ring_process n) a s i 1 rest)
  both =
      let long : length s ≡ n = length-IsState (sizes (ring_process n)) s state ∙ length-all n in
      chances-as _ _ _ _ (probability-is n a own s rest i 0 inside) (probability-is n a own s rest i 1 inside)
      ((fair-table n own.rebooted i inside).fair s (take i s) rest (machines-of n s state) (length-take-le i s (omega (arith, inside, long))))

  chance-low : (v : ℕ) → v < 2 → pos 0 ≤ℤ probability (ring_process n) a s i v rest
  chance-low zero h = both.up
  chance-low (suc zero) h = both.down
  chance-low (suc (suc v)) h = absurd (omega arith)

  sum-one : sum_of (ring_process n) a s i rest ≡ one
  sum-one =
      let f : ℕ → ℤ = λ v. probability (ring_process n) a s i v rest in
      ap (λ (k : ℕ). sum_below k f) (size-at n i inside) ∙ two (f 0) (f 1) ∙ both.sum
    where
      two : (x y : ℤ) → (pos 0 +ℤ x) +ℤ y ≡ x +ℤ y
      two x y = omega (arith, ints)

rewards-within : (n : ℕ) (s : List ℕ) → n ≤ 63 → IsWithin (pos 63000000000000) (total (map (λ tree. value s s tree) (map working (numbers_below n))))
rewards-within n s h =
    let all = total-within (λ i. value s s (working i)) 1000000000000 (working-within s) (numbers_below n) in
    let few : length (numbers_below n) * 1000000000000 ≤ 63000000000000 = omega (arith, length-numbers_below n) in
    subst (λ (l : List ℤ). IsWithin (pos 63000000000000) (total l)) (sym (map-map (λ tree. value s s tree) working (numbers_below n)))
    (IsWithin_mono (pos (length (numbers_below n) * 1000000000000)) (pos 63000000000000) _ (omega (arith, ints)) all)

difference-within : (x y : ℤ) → IsWithin (pos 63000000000000) x → IsWithin (pos 1000000000000) y → IsWithin (pos (10 ^ 21)) (x -ℤ y)
difference-within x y h k = record { low = omega (arith, ints, h.low, h.high, k.low, k.high); high = omega (arith, ints, h.low, h.high, k.low, k.high) }

reward-within : (n : ℕ) (a : Action) (s : List ℕ) → n ≤ 63 → IsOfRing n a → unsigned_abs (reward_of (ring_process n) a s) ≤ reward_limit
unfolding ring_process
reward-within n a s h is =
    unsigned_abs-le reward_limit _
    (IsWithin-floor_div _ (pos 1000) (pos reward_limit) (omega (arith, ints)) (difference-within _ _ (rewards-within n s h) (is.cost s)))

pub ring-valid : (n : ℕ) → n ≤ 63 → IsValid (ring_process n)
ring-valid n h = record {
  chances = λ a offered i near s rest state after v below.
      chance-low n a offered i near s rest state v (subst (λ (k : ℕ). v < k) (size-at n i (inside n a offered i near s rest state)) below);
  sums = λ a offered i near s rest state after. sum-one n a offered i near s rest state;
  rewards = λ a offered s state. reward-within n a s h (All-contains (IsOfRing n) (ring_process n).actions a (all_of_ring n) offered);
}
