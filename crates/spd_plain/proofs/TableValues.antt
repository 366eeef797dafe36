-- Which next values the value of a table follows.
use Rattle.std.proofs.Common.{◌≡◌, inl, inr, ℕ, suc, ◌<◌, ◌≤◌, max, Bool, true, false, if◌then◌else◌, List, [], ◌∷◌, ◌++◌, length, take, drop, flat_map, fold, get_or, All, refl, sym, ◌∙◌, arith, length-append}
use Rattle.std.proofs.lemmas.Bool.{cases_lt, false≢true}
use Rattle.std.proofs.lemmas.List.{get_or_append_left, get_or_push, get_or_past}
use Rattle.std.proofs.lemmas.List.Elements.{All-nil, All-cons, All-append, All-weaker}
use Rattle.spd_model.proofs.CallerLemmas.Lists.{le_fold_max}
use Rattle.spd_model.specs.declared.tree.Tree.{Tree, Leaf, Named, Branch', Row_of-Tree, end_of-Tree, more_of-Tree}
use Rattle.spd_model.specs.Process.{Process}
use Rattle.spd_model.specs.Trees.{read_tree, read_kids, read_diagrams, read_in, value_of, Part, number, choice, missing, parts, parts_of}
use Rattle.spd_model.specs.Lawful.{FitsTable}
use Rattle.spd_model.proofs.CallerLemmas.Lists.{All-one}
use Rattle.spd_model.proofs.CallerLemmas.TreeValues.{GoesAlike, value_same}
use Rattle.spd_plain.specs.inner.Reach.{latest}
use Rattle.spd_plain.proofs.Tables.{index-from, index-at}

-- a part follows next values of variables below n alone
abbrev pub FollowsBelow : ℕ → Part → Type 0
FollowsBelow n (number x) = Unit {0}
FollowsBelow n (choice var primed kids) = primed ≡ true → var < n
FollowsBelow n missing = Unit {0}

follows_more : (n k : ℕ) → n ≤ k → (part : Part) → FollowsBelow n part → FollowsBelow k part
follows_more n k h (number x) p = tt
follows_more n k h (choice var primed kids) p = λ e. let q = p e in omega arith
follows_more n k h missing p = tt

all_more : (n k : ℕ) → n ≤ k → (written : List Part) → All (FollowsBelow n) written → All (FollowsBelow k) written
all_more n k h written all = All-weaker (FollowsBelow n) (FollowsBelow k) (follows_more n k h) written all

own_number : (var : ℕ) (primed : Bool) → primed ≡ true → var < (if primed then suc var else 0)
own_number var true h = omega arith
own_number var false h = absurd (false≢true h)

-- the diagrams that a tree may name follow next values below their numbers
AreSuch : List ℕ → List (List Part) → Type 0
AreSuch numbers written = (d : ℕ) → All (FollowsBelow (get_or numbers d 0)) (get_or written d (missing ∷ []))

mutual
  unfolding AreSuch

  tree_such : (numbers : List ℕ) (written : List (List Part)) → AreSuch numbers written → (tree : Tree)
      → All (FollowsBelow (read_tree latest numbers tree)) (read_tree parts written tree)
  tree_such numbers written such (Leaf x) = All-one (FollowsBelow 0) (number x) tt
  tree_such numbers written such (Named d) = such d
  tree_such numbers written such (Branch' var primed shape kids) =
      let own : ℕ = if primed then suc var else 0 in
      let most : ℕ = fold max (if primed then suc var else 0) (read_kids latest numbers kids) in
      All-cons (FollowsBelow most) _ _ (λ e. let h = own_number var primed e in let k = le_fold_max own (read_kids latest numbers kids) in omega arith)
      (kids_such numbers written such (if primed then suc var else 0) kids)

  kids_such : (numbers : List ℕ) (written : List (List Part)) → AreSuch numbers written → (a : ℕ) → {n : _} (kids : Row_of-Tree n)
      → All (FollowsBelow (fold max a (read_kids latest numbers kids))) (flat_map (λ kid. kid) (read_kids parts written kids))
  kids_such numbers written such a end_of-Tree = All-nil (FollowsBelow a)
  kids_such numbers written such a (more_of-Tree kid kids) =
      let own = read_tree latest numbers kid in
      let most = fold max (max a own) (read_kids latest numbers kids) in
      All-append (FollowsBelow most) (read_tree parts written kid) _
      (all_more own most (let h = le_fold_max (max a own) (read_kids latest numbers kids) in omega arith) (read_tree parts written kid) (tree_such numbers written such kid))
      (kids_such numbers written such (max a own) kids)

one_more : (numbers : List ℕ) (written : List (List Part)) (n : ℕ) (own : List Part) → length numbers ≡ length written → AreSuch numbers written
    → All (FollowsBelow n) own → AreSuch (numbers ++ n ∷ []) (written ++ own ∷ [])
unfolding AreSuch
one_more numbers written n own same such new d =
    elim (cases_lt d (length written)) [
      | inl near ↦ rw (get_or_append_left numbers (n ∷ []) 0 d (omega arith), get_or_append_left written (own ∷ []) (missing ∷ []) d near) (such d)
      | inr far ↦ elim (cases_lt (length written) d) [
        | inl past ↦ rw (get_or_past (written ++ own ∷ []) d (missing ∷ []) (omega (arith, length-append written (own ∷ [])))) (All-one (FollowsBelow _) missing tt)
        | inr last ↦ rw (get_or_push numbers n 0 d (omega arith), get_or_push written own (missing ∷ []) d (omega arith)) new
      ]
    ]

diagrams_such : (dds : List Tree) (numbers : List ℕ) (written : List (List Part)) → length numbers ≡ length written → AreSuch numbers written
    → AreSuch (read_diagrams latest numbers dds) (read_diagrams parts written dds)
diagrams_such [] numbers written same such = such
diagrams_such (dd ∷ dds) numbers written same such =
    diagrams_such dds (numbers ++ read_tree latest numbers dd ∷ []) (written ++ read_tree parts written dd ∷ [])
    (omega (arith, length-append numbers (read_tree latest numbers dd ∷ []), length-append written (read_tree parts written dd ∷ [])))
    (one_more numbers written _ _ same such (tree_such numbers written such dd))

-- a tree follows next values of variables before the number that it comes to
pub follows_below : (m : Process) (tree : Tree) → All (FollowsBelow (read_in latest m tree)) (parts_of m tree)
unfolding AreSuch
follows_below m tree =
    tree_such (read_diagrams latest [] m.dds) (read_diagrams parts [] m.dds) (diagrams_such m.dds [] [] refl (λ d. All-one (FollowsBelow 0) missing tt)) tree

both : {P Q R : Part → Type 0} → ((part : Part) → P part → Q part → R part) → (written : List Part) → All P written → All Q written → All R written
both h written p q = λ k d near. h (get_or written k d) (p k d near) (q k d near)

module _ (m : Process) (i : ℕ) (tree : Tree) (table : All (FitsTable i) (parts_of m tree)) (s : List ℕ) (few : i ≤ length s) where
  -- a table of the variable i follows no next value before i
  pub value-from : (next : List ℕ) → i ≤ length next → value_of m tree s next ≡ value_of m tree s (take i s ++ drop i next)
  value-from next enough = value_same m tree s next s (take i s ++ drop i next) (All-weaker (FitsTable i) (GoesAlike s next s (take i s ++ drop i next)) alike (parts_of m tree) table)
    where
      alike : (part : Part) → FitsTable i part → GoesAlike s next s (take i s ++ drop i next) part
      alike (number x) h = tt
      alike (choice var true kids) h = index-from s next i var few enough (h refl)
      alike (choice var false kids) h = refl
      alike missing h = h

  -- a table whose reach is its own variable follows no next value after it
  pub value-own : read_in latest m tree ≤ suc i → (v : ℕ) (first rest : List ℕ) → value_of m tree s (take i s ++ v ∷ first) ≡ value_of m tree s (take i s ++ v ∷ rest)
  value-own own v first rest =
      value_same m tree s (take i s ++ v ∷ first) s (take i s ++ v ∷ rest)
      (both alike (parts_of m tree) table (all_more _ (suc i) own (parts_of m tree) (follows_below m tree)))
    where
      alike : (part : Part) → FitsTable i part → FollowsBelow (suc i) part → GoesAlike s (take i s ++ v ∷ first) s (take i s ++ v ∷ rest) part
      alike (number x) h p = tt
      alike (choice var true kids) h p =
          let from = h refl in let below = p refl in let same : var ≡ i = omega arith in
          rw same (index-at s first i v few ∙ sym (index-at s rest i v few))
      alike (choice var false kids) h p = refl
      alike missing h p = h
