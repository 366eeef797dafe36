-- An action's table of a variable: the weights of the variable's values, and the sums of them.
use Rattle.std.proofs.Common.{◌≡◌, ℕ, zero, suc, ◌*◌, ◌^◌, ◌<◌, ◌≤◌, true, false, List, [], ◌∷◌, ◌++◌, length, map, flat_map, take, drop, set, get_or, slice_index, slice_index_or, All, ℤ, pos, negsuc, ◌+ℤ◌, refl, ap, sym, ◌∙◌, subst, arith, take_all, Result, Ok, Err}
use Rattle.std.specs.Prelude.{slice_get, Some, None}
use Rattle.std.proofs.lemmas.Bool.Decides.{Decides-ltb}
use Rattle.std.proofs.lemmas.Int.{ints}
use Rattle.std.proofs.lemmas.List.{map_push}
use Rattle.std.proofs.lemmas.List.Elements.{All-weaker, All-get_or}
use Rattle.std.proofs.lemmas.Option.{slice_get-get_or}
use Rattle.spd_scaled.specs.Scaled.{IsWithin}
use Rattle.spd_scaled.proofs.CallerLemmas.Magnitude.{IsWithin_zero, IsWithin_mono, IsWithin-+ℤ}
use Rattle.spd_cons_core.specs.declared.key.Entry.{Entry}
use Rattle.spd_model.specs.declared.tree.Tree.{Tree}
use Rattle.spd_model.specs.declared.process.Action.{Action}
use Rattle.spd_model.specs.Process.{Process}
use Rattle.spd_model.specs.Lawful.{IsLawful, IsAction, Fits, FitsTable}
use Rattle.spd_model.specs.Numbers.{numbers_below, sum_below}
use Rattle.spd_model.specs.States.{sizes, IsState}
use Rattle.spd_model.specs.Trees.{Part, number, choice, missing, parts, parts_of, read_tree, read_diagrams, value_of}
use Rattle.spd_model.specs.Chances.{probability}
use Rattle.spd_model.proofs.CallerLemmas.Lists.{length-numbers_below, get_or-numbers_below}
use Rattle.spd_model.proofs.CallerLemmas.StateOrder.{length-IsState, length-sizes, sizes_few, sizes_some}
use Rattle.spd_model.proofs.CallerLemmas.Trees.{length-read_diagrams}
use Rattle.spd_model.proofs.CallerLemmas.TreeValues.{GoesAlike, value_same, value_within}
use Rattle.spd_nodes.specs.declared.leaf.Leaf.TheVariants.{Num}
use Rattle.spd_nodes.specs.declared.forest.StoreFault.{StoreFault}
use Rattle.spd_nodes.specs.Shown.{Shown, IsSound, StandsFor, MakesAmong, MakesDiagram, meaning}
use Rattle.spd_nodes.specs.States.{Function, Agree}
use Rattle.spd_nodes.specs.Made.{HasMade}
use Rattle.spd_nodes.proofs.CallerLemmas.{Among, among-after, among-agrees, among-back, among-failed, among-flat, among-front, among-trans, diagram-agrees, fault-wider, has-made, has-none, has-then, makes_among-known}
use Rattle.spd_apply.specs.Operations.{in_i128, num_fits, num_of}
use Rattle.spd_apply.specs.Outcome.{FitEverywhere, at_each}
use Rattle.spd_restrict.specs.Restricted.{restricted}
use Rattle.spd_build.specs.Fitting.{FitsWith}
use Rattle.spd_build.specs.Functions.{numbers, own_functions, table_function, table_functions, tree_function, tree_functions, weight, weight_sum}

-- ---- lists

-- a list with one entry written, and the same entries from there on after others
index-held : (s t : List ℕ) (i v var : ℕ) → i ≤ length s → i < length t → i ≤ var → slice_index (set t i v) var ≡ slice_index (take i s ++ v ∷ drop (suc i) t) var
index-held s [] i v var few near from = absurd (omega arith)
index-held s (x ∷ t) zero v var few near from = refl
index-held [] (x ∷ t) (suc i) v var few near from = absurd (omega arith)
index-held (y ∷ s) (x ∷ t) (suc i) v zero few near from = absurd (omega arith)
index-held (y ∷ s) (x ∷ t) (suc i) v (suc var) few near from = index-held s t i v var (omega arith) (omega arith) (omega arith)

-- a state with one value written
pub IsState-set : (sizes t : List ℕ) (var v : ℕ) → IsState sizes t → v < slice_index sizes var → IsState sizes (set t var v)
IsState-set [] [] var v h b = tt
IsState-set [] (x ∷ t) var v h b = absurd h
IsState-set (d ∷ ds) [] var v h b = absurd h
IsState-set (d ∷ ds) (x ∷ t) zero v h b = (b, h.1)
IsState-set (d ∷ ds) (x ∷ t) (suc var) v h b = (h.0, IsState-set ds t var v h.1 b)

-- ---- sums of numbers that are bounded

within-i128 : (z : ℤ) → IsWithin (pos (64 * 10 ^ 30)) z → in_i128 z ≡ true
within-i128 (pos n) h = (Decides-ltb n (2 ^ 127)).1 (omega (arith, ints, h.high))
within-i128 (negsuc n) h = (Decides-ltb n (2 ^ 127)).1 (omega (arith, ints, h.low))

sum-within : (b n : ℕ) (f : ℕ → ℤ) → ((v : ℕ) → v < n → IsWithin (pos b) (f v)) → IsWithin (pos (n * b)) (sum_below n f)
sum-within b zero f h = IsWithin_zero (pos (0 * b)) (omega (arith, ints))
sum-within b (suc n) f h =
    IsWithin_mono (pos (n * b) +ℤ pos b) (pos (suc n * b)) (sum_below (suc n) f) (omega (arith, ints))
    (IsWithin-+ℤ (pos (n * b)) (pos b) (sum_below n f) (f n) (sum-within b n f (λ v p. h v (omega arith))) (h n (omega arith)))

sum-in-range : (n : ℕ) (f : ℕ → ℤ) → n ≤ 64 → ((v : ℕ) → v < n → IsWithin (pos (10 ^ 30)) (f v)) → in_i128 (sum_below n f) ≡ true
sum-in-range n f few h =
    within-i128 (sum_below n f) (IsWithin_mono (pos (n * 10 ^ 30)) (pos (64 * 10 ^ 30)) (sum_below n f) (omega (arith, ints)) (sum-within (10 ^ 30) n f h))

-- ---- calls

-- all decision diagrams are there: a tree that fits the process fits with them
pub fits-all : (m : Process) (k : ℕ) (tree : Tree) → length m.dds ≤ k → All (Fits m) (parts_of m tree) → FitsWith m k tree
fits-all m k tree past fits =
    let read = read_diagrams parts [] m.dds in
    let all : take k read ≡ read = take_all k read (omega (arith, length-read_diagrams parts [] m.dds)) in
    subst (λ (l : List (List Part)). All (Fits m) (read_tree parts l tree)) (sym all) fits

-- a diagram among some functions wasn't made
pub diagram-failed : {s t u : Shown} {f g : Function} {nodes : List Function} (e : StoreFault) → Among (f ∷ []) nodes → HasMade s t nodes → MakesDiagram t u f (Err e) → MakesAmong s u g nodes (Err e)
diagram-failed {u = u} e among has made = among-failed e (has-then among has (has-made made)) (fault-wider e u among made.fault)

-- ---- one variable of an action

-- a function that agrees with another one is held at a value as that one is
restricted-agrees : (sizes : List ℕ) (i v : ℕ) (f g : Function) → v < slice_index sizes i → Agree sizes f g → Agree sizes (restricted i true v f) (restricted i true v g)
restricted-agrees sizes i v f g below same = record { at = λ s t p q. same.at s (set t i v) p (IsState-set sizes t i v q below) }

module _ (m : Process) (a : Action) (i : ℕ) where
  -- the table of the variable is its tree
  pub table-tree : (d : Tree) → i < length a.tables → tree_function m (get_or a.tables i d) ≡ table_function m a i
  table-tree d near =
      ap (λ o. numbers (λ s t. elim o [ None ↦ pos 0 | Some tree ↦ value_of m tree s t ])) (sym (slice_get-get_or a.tables i d near))

  own-tree : (d : Tree) → i < length a.tables → tree_functions m (get_or a.tables i d) ≡ own_functions m a i
  own-tree d near = ap (λ o. elim o [ None ↦ [] | Some tree ↦ tree_functions m tree ]) (sym (slice_get-get_or a.tables i d near))

  -- nodes of the tree, of a weight and of a sum are nodes of the table's functions
  pub own-among : Among (own_functions m a i) (table_functions m a i)
  own-among = among-front (own_functions m a i) (flat_map (λ v. weight m a i v ∷ weight_sum m a i (suc v) ∷ []) (numbers_below (slice_index (sizes m) i)))

  value-among : (v : ℕ) → v < slice_index (sizes m) i → Among (weight m a i v ∷ weight_sum m a i (suc v) ∷ []) (table_functions m a i)
  value-among v below =
      let two : ℕ → List Function = λ v. weight m a i v ∷ weight_sum m a i (suc v) ∷ [] in
      let all = numbers_below (slice_index (sizes m) i) in
      among-trans
      (subst (λ (k : ℕ). Among (two k) (flat_map two all)) (get_or-numbers_below (slice_index (sizes m) i) v below)
      (among-flat two all v 0 (omega (arith, length-numbers_below (slice_index (sizes m) i)))))
      (among-back (own_functions m a i) (flat_map two all))

  pub weight-among : (v : ℕ) → v < slice_index (sizes m) i → Among (weight m a i v ∷ []) (table_functions m a i)
  weight-among v below = among-trans (among-front (weight m a i v ∷ []) (weight_sum m a i (suc v) ∷ [])) (value-among v below)

  pub sum-among : (v : ℕ) → v < slice_index (sizes m) i → Among (weight_sum m a i (suc v) ∷ []) (table_functions m a i)
  sum-among v below = among-trans (among-back (weight m a i v ∷ []) (weight_sum m a i (suc v) ∷ [])) (value-among v below)

  -- the tree is made as the table
  pub table-made : (d tree : Tree) → i < length a.tables → tree ≡ get_or a.tables i d → {s t : Shown} → IsSound s → {r : Result Entry StoreFault}
      → MakesAmong s t (tree_function m tree) (tree_functions m tree) r → MakesAmong s t (table_function m a i) (table_functions m a i) r
  table-made d tree near is {s = s} {t = t} o {r = r} made =
      let there : MakesAmong s t (tree_function m (get_or a.tables i d)) (tree_functions m (get_or a.tables i d)) r =
      subst (λ (u : Tree). MakesAmong s t (tree_function m u) (tree_functions m u) r) is made in
      let named : MakesAmong s t (table_function m a i) (tree_functions m (get_or a.tables i d)) r =
      subst (λ (f : Function). MakesAmong s t f (tree_functions m (get_or a.tables i d)) r) (table-tree d near) there in
      among-after own-among (has-none s o (table_functions m a i))
      (subst (λ (fs : List Function). MakesAmong s t (table_function m a i) fs r) (own-tree d near) named)

  -- the weights up to one more value
  pub weights-more : (v : ℕ) → map (weight m a i) (numbers_below v) ++ weight m a i v ∷ [] ≡ map (weight m a i) (numbers_below (suc v))
  weights-more v = sym (map_push (weight m a i) (numbers_below v) v)

  module _ (law : IsLawful m) (action : IsAction m a) (near : i < length m.vars) where
    -- the table with the variable held at a value: it follows no next value before the variable
    value-held : (tree : Tree) → All (FitsTable i) (parts_of m tree) → (v : ℕ) (s t : List ℕ) → IsState (sizes m) s → IsState (sizes m) t
        → value_of m tree s (set t i v) ≡ value_of m tree s (take i s ++ v ∷ drop (suc i) t)
    value-held tree table v s t p q =
        value_same m tree s (set t i v) s (take i s ++ v ∷ drop (suc i) t)
        (All-weaker (FitsTable i) (GoesAlike s (set t i v) s (take i s ++ v ∷ drop (suc i) t)) alike (parts_of m tree) table)
      where
        alike : (part : Part) → FitsTable i part → GoesAlike s (set t i v) s (take i s ++ v ∷ drop (suc i) t) part
        alike (number x) h = tt
        alike (choice var true kids) h =
            index-held s t i v var (omega (arith, length-IsState (sizes m) s p, length-sizes m)) (omega (arith, length-IsState (sizes m) t q, length-sizes m)) (h refl)
        alike (choice var false kids) h = refl
        alike missing h = h

    weight-held : (v : ℕ) → Agree (sizes m) (restricted i true v (table_function m a i)) (weight m a i v)
    weight-held v = record { at = λ s t p q. ap Num (entry s t p q a.tables i (λ tree. (action.tables i tree near).table)) }
      where
        entry : (s t : List ℕ) → IsState (sizes m) s → IsState (sizes m) t → (tables : List Tree) (k : ℕ) → ((tree : Tree) → All (FitsTable i) (parts_of m (slice_index_or tables k tree)))
            → ◌≡◌ {A = ℤ} (elim (slice_get tables k) [ None ↦ pos 0 | Some tree ↦ value_of m tree s (set t i v) ])
            (elim (slice_get tables k) [ None ↦ pos 0 | Some tree ↦ value_of m tree s (take i s ++ v ∷ drop (suc i) t) ])
        entry s t p q [] k h = refl
        entry s t p q (tree ∷ tables) zero h = value-held tree (h tree) v s t p q
        entry s t p q (tree ∷ tables) (suc k) h = entry s t p q tables k h

    -- a probability is at most 10^30 units in magnitude, as each number of a tree
    chance-within : (s : List ℕ) (v : ℕ) (rest : List ℕ) → IsWithin (pos (10 ^ 30)) (probability m a s i v rest)
    chance-within s v rest = entry a.tables i (λ tree. (action.tables i tree near).form.fits)
      where
        entry : (tables : List Tree) (k : ℕ) → ((tree : Tree) → All (Fits m) (parts_of m (slice_index_or tables k tree)))
            → IsWithin (pos (10 ^ 30)) (elim (slice_get tables k) [ None ↦ pos 0 | Some tree ↦ value_of m tree s (take i s ++ v ∷ rest) ])
        entry [] k h = IsWithin_zero (pos (10 ^ 30)) (omega (arith, ints))
        entry (tree ∷ tables) zero h = value_within m tree s (take i s ++ v ∷ rest) (h tree)
        entry (tree ∷ tables) (suc k) h = entry tables k h

    pub some-values : 0 < slice_index (sizes m) i
    some-values = All-get_or (λ size. 0 < size) (sizes m) i 0 (omega (arith, length-sizes m)) (sizes_some m law)

    few-values : slice_index (sizes m) i ≤ 64
    few-values = All-get_or (λ size. size ≤ 64) (sizes m) i 0 (omega (arith, length-sizes m)) (sizes_few m law)

    module _ (s : Shown) (o : IsSound s) (same : s.sizes ≡ sizes m) where
      -- the table held at a value is the value's weight
      pub weight-made : (table : Entry) → StandsFor s table (table_function m a i) → (v : ℕ) → v < slice_index (sizes m) i → (t : Shown) (r : Result Entry StoreFault)
          → MakesDiagram s t (restricted i true v (meaning s table)) r → MakesDiagram s t (weight m a i v) r
      weight-made table stands v below t r made =
          let held = restricted-agrees s.sizes i v (meaning s table) (table_function m a i) (subst (λ (z : List ℕ). v < slice_index z i) (sym same) below) stands.value in
          let all : Agree s.sizes (restricted i true v (meaning s table)) (weight m a i v) =
          record { at = λ x y p q. held.at x y p q ∙ (weight-held v).at x y (subst (λ (z : List ℕ). IsState z x) same p) (subst (λ (z : List ℕ). IsState z y) same q) } in
          diagram-agrees o all made

      -- the first weight is the sum up to it
      pub first-sum : (first : Entry) → StandsFor s first (weight m a i 0) → StandsFor s first (weight_sum m a i 1)
      first-sum first stands =
          let all : Agree s.sizes (weight m a i 0) (weight_sum m a i 1) =
          record { at = λ x y p q. ap Num (from-none (probability m a x i 0 (drop (suc i) y))) } in
          let known : MakesAmong s s (weight_sum m a i 1) [] (Ok first) = among-agrees o all (makes_among-known s o first (weight m a i 0) [] stands) in
          known.ok
        where
          from-none : (x : ℤ) → x ≡ pos 0 +ℤ x
          from-none x = omega (arith, ints)

      module _ (v : ℕ) (below : v < slice_index (sizes m) i) (sum last : Entry) (stands : StandsFor s sum (weight_sum m a i v)) (next : StandsFor s last (weight m a i v)) where
        sum-is : (x y : List ℕ) → IsState s.sizes x → IsState s.sizes y → at_each (num_of (λ b c. b +ℤ c)) (meaning s sum) (meaning s last) x y ≡ weight_sum m a i (suc v) x y
        sum-is x y p q = λ k. num_of (λ b c. b +ℤ c) (stands.value.at x y p q k) (next.value.at x y p q k)

        -- no sum of weights leaves 128 bits
        pub sum-fits : FitEverywhere (λ b c. num_fits (λ x y. x +ℤ y) b c) s sum last
        sum-fits = record {
          at = λ x y p q.
              (λ k. num_fits (λ b c. b +ℤ c) (stands.value.at x y p q k) (next.value.at x y p q k))
              ∙ sum-in-range (suc v) (λ u. probability m a x i u (drop (suc i) y)) (omega (arith, few-values)) (λ u h. chance-within x u (drop (suc i) y));
        }

        -- a sum and the next weight give the next sum
        pub sum-made : (t : Shown) (r : Result Entry StoreFault) → MakesDiagram s t (at_each (num_of (λ b c. b +ℤ c)) (meaning s sum) (meaning s last)) r
            → MakesDiagram s t (weight_sum m a i (suc v)) r
        sum-made t r made = diagram-agrees o (record { at = sum-is }) made
