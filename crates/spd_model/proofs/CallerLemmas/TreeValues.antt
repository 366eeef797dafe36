-- What holds of each number and of each branch that is written in a tree holds of the tree's values.
use Rattle.std.proofs.Common.{◌≡◌, ℕ, zero, suc, ◌^◌, ◌<◌, take, Bool, List, [], ◌∷◌, ◌++◌, length, get_or, flat_map, slice_index, slice_index_or, All, if◌then◌else◌, ℤ, pos, ◌≤ℤ◌, refl, subst, arith, inl, inr, length-append}
use Rattle.std.specs.Prelude.{slice_get, Some, None}
use Rattle.std.proofs.lemmas.Int.{ints}
use Rattle.std.proofs.lemmas.Bool.{cases_lt}
use Rattle.std.proofs.lemmas.List.{get_or_append_left, get_or_push, get_or_past}
use Rattle.std.proofs.lemmas.List.Elements.{All-head, All-tail}
use Rattle.spd_scaled.specs.Scaled.{IsWithin}
use Rattle.spd_scaled.proofs.CallerLemmas.Magnitude.{IsWithin-from_abs, IsWithin_zero}
use Rattle.spd_model.specs.declared.tree.Tree.{Tree, Leaf, Named, Branch', Row_of-Tree, end_of-Tree, more_of-Tree}
use Rattle.spd_model.specs.declared.process.Action.{Action}
use Rattle.spd_model.specs.Process.{Process}
use Rattle.spd_model.specs.Trees.{read_tree, read_kids, read_diagrams, following, value_of, Part, number, choice, missing, parts, parts_of}
use Rattle.spd_model.specs.Lawful.{Fits, FitsTable, IsAction}
use Rattle.spd_model.specs.Chances.{probability}
use Rattle.spd_model.proofs.CallerLemmas.Lists.{All-left, All-right}

-- the value of a tree at s and t, beside that at u and v, where each branch of it goes the same way at both
module _ (P : Part → Type 0) (Q : ℤ → ℤ → Type 0) (none : Q (pos 0) (pos 0)) (each : (x : ℤ) → P (number x) → Q x x) (s t u v : List ℕ)
    (same_way : (var : ℕ) (primed : Bool) (n : ℕ) → P (choice var primed n)
    → slice_index (if primed then t else s) var ≡ slice_index (if primed then v else u) var) where
  -- the diagrams that a tree may name have such values where their parts are such
  AreSuch : List ℤ → List ℤ → List (List Part) → Type 0
  AreSuch here there written = (d : ℕ) → All P (get_or written d (missing ∷ [])) → Q (get_or here d (pos 0)) (get_or there d (pos 0))

  mutual
    unfolding AreSuch

    tree_such : (here there : List ℤ) (written : List (List Part)) → AreSuch here there written → (tree : Tree)
        → All P (read_tree parts written tree) → Q (read_tree (following s t) here tree) (read_tree (following u v) there tree)
    tree_such here there written such (Leaf x) h = each x (All-head P (number x) [] h)
    tree_such here there written such (Named d) h = such d h
    tree_such here there written such (Branch' var primed shape kids) h =
        let k = slice_index (if primed then t else s) var in
        subst (λ (j : ℕ). Q (get_or (read_kids (following s t) here kids) k (pos 0)) (get_or (read_kids (following u v) there kids) j (pos 0)))
        (same_way var primed _ (All-head P _ _ h)) (kid_such here there written such kids (All-tail P _ _ h) k)

    kid_such : (here there : List ℤ) (written : List (List Part)) → AreSuch here there written → {n : _} (kids : Row_of-Tree n)
        → All P (flat_map (λ kid. kid) (read_kids parts written kids)) → (k : ℕ)
        → Q (get_or (read_kids (following s t) here kids) k (pos 0)) (get_or (read_kids (following u v) there kids) k (pos 0))
    kid_such here there written such end_of-Tree h k = none
    kid_such here there written such (more_of-Tree kid kids) h zero = tree_such here there written such kid (All-left P _ _ h)
    kid_such here there written such (more_of-Tree kid kids) h (suc k) = kid_such here there written such kids (All-right P _ _ h) k

  -- the diagrams of a process, one more after another
  one_more : (here there : List ℤ) (written : List (List Part)) (x y : ℤ) (own : List Part) → length here ≡ length written
      → length there ≡ length written → AreSuch here there written → (All P own → Q x y)
      → AreSuch (here ++ x ∷ []) (there ++ y ∷ []) (written ++ own ∷ [])
  unfolding AreSuch
  one_more here there written x y own same_here same_there such new d h =
      elim (cases_lt d (length written)) [
        | inl near ↦
            rw (get_or_append_left here (x ∷ []) (pos 0) d (omega arith), get_or_append_left there (y ∷ []) (pos 0) d (omega arith))
            (such d (subst (All P) (get_or_append_left written (own ∷ []) (missing ∷ []) d near) h))
        | inr far ↦ elim (cases_lt (length written) d) [
          | inl past ↦
              rw (
                get_or_past (here ++ x ∷ []) d (pos 0) (omega (arith, length-append here (x ∷ []))),
                get_or_past (there ++ y ∷ []) d (pos 0) (omega (arith, length-append there (y ∷ []))),
              ) none
          | inr last ↦
              rw (get_or_push here x (pos 0) d (omega arith), get_or_push there y (pos 0) d (omega arith))
              (new (subst (All P) (get_or_push written own (missing ∷ []) d (omega arith)) h))
        ]
      ]

  diagrams_such : (dds : List Tree) (here there : List ℤ) (written : List (List Part)) → length here ≡ length written
      → length there ≡ length written → AreSuch here there written
      → AreSuch (read_diagrams (following s t) here dds) (read_diagrams (following u v) there dds) (read_diagrams parts written dds)
  diagrams_such [] here there written same_here same_there such = such
  diagrams_such (dd ∷ dds) here there written same_here same_there such =
      let x = read_tree (following s t) here dd in
      let y = read_tree (following u v) there dd in
      let own = read_tree parts written dd in
      diagrams_such dds (here ++ x ∷ []) (there ++ y ∷ []) (written ++ own ∷ [])
      (omega (arith, length-append here (x ∷ []), length-append written (own ∷ [])))
      (omega (arith, length-append there (y ∷ []), length-append written (own ∷ [])))
      (one_more here there written x y own same_here same_there such (tree_such here there written such dd))

  pub values_such : (m : Process) (tree : Tree) → All P (parts_of m tree) → Q (value_of m tree s t) (value_of m tree u v)
  unfolding AreSuch
  values_such m tree h =
      tree_such (read_diagrams (following s t) [] m.dds) (read_diagrams (following u v) [] m.dds) (read_diagrams parts [] m.dds)
      (diagrams_such m.dds [] [] [] refl refl (λ d p. none)) tree h

-- the value of a tree that fits is at most 10^30 in magnitude
pub value_within : (m : Process) (tree : Tree) (s t : List ℕ) → All (Fits m) (parts_of m tree) → IsWithin (pos (10 ^ 30)) (value_of m tree s t)
value_within m tree s t h =
    values_such (Fits m) (λ x y. IsWithin (pos (10 ^ 30)) x) (IsWithin_zero (pos (10 ^ 30)) (omega (arith, ints)))
    (λ x p. IsWithin-from_abs (10 ^ 30) x p) s t s t (λ var primed n p. refl) m tree h

-- the value of a table is at least 0
pub table_nonnegative : (m : Process) (i : ℕ) (tree : Tree) (s t : List ℕ) → All (FitsTable i) (parts_of m tree) → pos 0 ≤ℤ value_of m tree s t
table_nonnegative m i tree s t h =
    values_such (FitsTable i) (λ x y. pos 0 ≤ℤ x) (omega (arith, ints)) (λ x p. p) s t s t (λ var primed n p. refl) m tree h

-- Two pairs of states at which each branch of a tree goes the same way give the tree one value.
abbrev pub GoesAlike : List ℕ → List ℕ → List ℕ → List ℕ → Part → Type 0
GoesAlike s t u v (number x) = Unit {0}
GoesAlike s t u v (choice var primed n) = slice_index (if primed then t else s) var ≡ slice_index (if primed then v else u) var
GoesAlike s t u v missing = ⊥

pub value_same : (m : Process) (tree : Tree) (s t u v : List ℕ) → All (GoesAlike s t u v) (parts_of m tree) → value_of m tree s t ≡ value_of m tree u v
value_same m tree s t u v h =
    values_such (GoesAlike s t u v) (λ x y. x ≡ y) refl (λ x p. refl) s t u v (λ var primed n p. p) m tree h

-- the probabilities of an action's tables are at least 0
pub probability_nonnegative : (m : Process) (a : Action) → IsAction m a → (s : List ℕ) (i v : ℕ) (rest : List ℕ) → i < length m.vars
    → pos 0 ≤ℤ probability m a s i v rest
probability_nonnegative m a action s i v rest near = entry a.tables i (λ tree. (action.tables i tree near).table)
  where
    entry : (tables : List Tree) (k : ℕ) → ((tree : Tree) → All (FitsTable i) (parts_of m (slice_index_or tables k tree)))
        → pos 0 ≤ℤ elim (slice_get tables k) [ None ↦ pos 0 | Some tree ↦ value_of m tree s (take i s ++ v ∷ rest) ]
    entry [] k h = omega (arith, ints)
    entry (tree ∷ tables) zero h = table_nonnegative m i tree s (take i s ++ v ∷ rest) (h tree)
    entry (tree ∷ tables) (suc k) h = entry tables k h
