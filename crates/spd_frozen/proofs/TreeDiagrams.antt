-- A test tree read as a diagram over its slots: it is the reduced diagram of the tree's function.
use Rattle.std.proofs.Common.{◌≡◌, ℕ, zero, suc, ◌+◌, ◌-◌, ◌<◌, ◌≤◌, ◌⊎◌, inl, inr, Bool, true, false, cond, List, [], ◌∷◌, length, map, take, get_or, refl, sym, ◌∙◌, ap, subst, arith, pos}
use Rattle.std.specs.Prelude.{nat_lt}
use Rattle.std.specs.List.{list_all}
use Rattle.std.proofs.lemmas.Bool.Decides.{nat_tests}
use Rattle.std.proofs.lemmas.List.{length-map, get_or-map}
use Rattle.spd_model.proofs.CallerLemmas.Diagrams.{map-below}
use Rattle.spd_model.proofs.CallerLemmas.Lists.{length-numbers_below, get_or-numbers_below}
use Rattle.spd_model.specs.Numbers.{numbers_below}
use Rattle.spd_model.specs.Reduced.{Diagram, subtrees_of, is_equal, choice_of, reduced_from}
use Rattle.spd_nodes.specs.declared.leaf.Leaf.{Leaf}
use Rattle.spd_nodes.specs.declared.leaf.Leaf.TheVariants.{Num}
use Rattle.spd_nodes.specs.Levels.{levels_of, AllPositive}
use Rattle.spd_nodes.specs.Trees.{Tree, Ends, Tests, leaf_eq, chain, tree_of, value_at, IsReduced, IsFrom}
use Rattle.spd_nodes.proofs.CallerLemmas.{tree_of-agree, tree_of-value_at}
use Rattle.spd_frozen.specs.inner.Kids.{kid_tree}
use Rattle.spd_frozen.proofs.Places.{D, is_equal-refl}
use Rattle.spd_frozen.proofs.Reading.{nothing}
use Rattle.spd_frozen.proofs.Completion.{kept-nodes}
use Rattle.spd_frozen.proofs.FrozenLaws.{equal-at, reduced-same}
use Rattle.spd_frozen.proofs.SlotTrees.{StartsFrom, starts-lower, starts-tree_of, chain-same, chain-out, kid-chain}

-- whether a tree's root tests one of the m levels from b on; none of its levels is before b
abbrev is_within : ℕ → ℕ → Tree → Bool
is_within b m (Ends a) = false
is_within b m (Tests l y n) = nat_lt l (b + m)

abbrev end_of : Tree → Leaf
end_of (Ends a) = a
end_of (Tests l y n) = Num (pos 0)

-- the diagram of a tree over some slots, the first of which has the number k and begins at level b
abbrev pub tree_diagram : List ℕ → ℕ → ℕ → Tree → D
tree_diagram [] b k t = Diagram.leaf (end_of t)
tree_diagram (d ∷ ds) b k t =
    cond (is_within b (d - 1) t) (Diagram.branch k (subtrees_of (map (λ v. tree_diagram ds (b + (d - 1)) (suc k) (kid_tree (d - 1) b t v)) (numbers_below d))))
    (tree_diagram ds (b + (d - 1)) (suc k) t)

-- a slot that a tree doesn't test
skip : (d : ℕ) (ds : List ℕ) (b k : ℕ) (t : Tree) → StartsFrom (b + (d - 1)) t → tree_diagram (d ∷ ds) b k t ≡ tree_diagram ds (b + (d - 1)) (suc k) t
skip d ds b k (Ends a) h = refl
skip d ds b k (Tests l y n) h = let e : nat_lt l (b + (d - 1)) ≡ false = grind (arith, nat_tests) in rw e refl

pub diagram-leaf : (ds : List ℕ) (b k : ℕ) (a : Leaf) → tree_diagram ds b k (Ends a) ≡ Diagram.leaf a
diagram-leaf [] b k a = refl
diagram-leaf (d ∷ ds) b k a = diagram-leaf ds (b + (d - 1)) (suc k) a

-- a test is a branch on its slot, whose subtrees are the diagrams of the trees that follow the slot's values
pub diagram-test : (ds : List ℕ) (b k slot l : ℕ) (y n : Tree) → slot < length ds → l ≡ b + levels_of (take slot ds) → 1 < get_or ds slot 0
    → ((v : ℕ) → v < get_or ds slot 0 → StartsFrom (l + (get_or ds slot 0 - 1)) (kid_tree (get_or ds slot 0 - 1) l (Tests l y n) v))
    → tree_diagram ds b k (Tests l y n) ≡ Diagram.branch (k + slot) (subtrees_of (map (λ v. tree_diagram ds b k (kid_tree (get_or ds slot 0 - 1) l (Tests l y n) v)) (numbers_below (get_or ds slot 0))))
diagram-test [] b k slot l y n h q m kids = absurd (omega arith)
diagram-test (x ∷ ds) b k zero l y n h q m kids =
    let at : b ≡ l = omega arith in
    let w : nat_lt l (l + (x - 1)) ≡ true = grind (arith, nat_tests) in
    let e : k ≡ k + 0 = omega arith in
    let maps : map (λ v. tree_diagram ds (l + (x - 1)) (suc k) (kid_tree (x - 1) l (Tests l y n) v)) (numbers_below x) ≡ map (λ v. tree_diagram (x ∷ ds) l k (kid_tree (x - 1) l (Tests l y n) v)) (numbers_below x) =
    map-below (λ v. tree_diagram ds (l + (x - 1)) (suc k) (kid_tree (x - 1) l (Tests l y n) v)) (λ v. tree_diagram (x ∷ ds) l k (kid_tree (x - 1) l (Tests l y n) v)) x
    (λ v u. sym (skip x ds l k (kid_tree (x - 1) l (Tests l y n) v) (kids v u))) in
    let there : tree_diagram (x ∷ ds) l k (Tests l y n) ≡ Diagram.branch (k + 0) (subtrees_of (map (λ v. tree_diagram (x ∷ ds) l k (kid_tree (x - 1) l (Tests l y n) v)) (numbers_below x))) =
    rw w (λ i. Diagram.branch (e i) (subtrees_of (maps i))) in
    subst (λ (c : ℕ). tree_diagram (x ∷ ds) c k (Tests l y n) ≡ Diagram.branch (k + 0) (subtrees_of (map (λ v. tree_diagram (x ∷ ds) c k (kid_tree (x - 1) l (Tests l y n) v)) (numbers_below x)))) (sym at) there
diagram-test (x ∷ ds) b k (suc slot) l y n h q m kids =
    let d = get_or ds slot 0 in
    let c = b + (x - 1) in
    let e : suc k + slot ≡ k + suc slot = omega arith in
    let from : l ≡ c + levels_of (take slot ds) = omega arith in
    let low : c ≤ l = omega arith in
    let maps : map (λ v. tree_diagram ds c (suc k) (kid_tree (d - 1) l (Tests l y n) v)) (numbers_below d) ≡ map (λ v. tree_diagram (x ∷ ds) b k (kid_tree (d - 1) l (Tests l y n) v)) (numbers_below d) =
    map-below (λ v. tree_diagram ds c (suc k) (kid_tree (d - 1) l (Tests l y n) v)) (λ v. tree_diagram (x ∷ ds) b k (kid_tree (d - 1) l (Tests l y n) v)) d
    (λ v u. sym (skip x ds b k (kid_tree (d - 1) l (Tests l y n) v) (starts-lower c (l + (d - 1)) (kid_tree (d - 1) l (Tests l y n) v) (omega arith) (kids v u)))) in
    skip x ds b k (Tests l y n) low ∙ diagram-test ds c (suc k) slot l y n (omega arith) from m kids ∙ (λ i. Diagram.branch (e i) (subtrees_of (maps i)))

-- a choice of equal diagrams
list_all-same : (d : D) (ds : List D) → ((i : ℕ) → i < length ds → get_or ds i nothing ≡ d) → list_all (is_equal leaf_eq d) ds ≡ true
list_all-same d [] h = refl
list_all-same d (e ∷ ds) h =
    let first : is_equal leaf_eq d e ≡ true = subst (λ (x : D). is_equal leaf_eq d x ≡ true) (sym (h 0 (omega arith))) (is_equal-refl d) in
    rw (first, list_all-same d ds (λ i q. h (suc i) (omega arith))) refl

pub choice-same : (k : ℕ) (ds : List D) (x : D) → 0 < length ds → ((i : ℕ) → i < length ds → get_or ds i nothing ≡ x) → choice_of leaf_eq k ds ≡ x
choice-same k [] x some h = absurd (omega arith)
choice-same k (d ∷ ds) x some h =
    let e : d ≡ x = h 0 (omega arith) in
    rw (list_all-same d ds (λ i q. h (suc i) (omega arith) ∙ sym e)) e

-- a choice is the branch, unless all of its diagrams are equal
choice-cases : (k : ℕ) (ds : List D) → 0 < length ds → (choice_of leaf_eq k ds ≡ Diagram.branch k (subtrees_of ds)) ⊎ ((i j : ℕ) → i < length ds → j < length ds → get_or ds i nothing ≡ get_or ds j nothing)
choice-cases k [] some = absurd (omega arith)
choice-cases k (d ∷ ds) some = go (list_all (is_equal leaf_eq d) ds) refl
  where
    go : (b : Bool) → list_all (is_equal leaf_eq d) ds ≡ b → (choice_of leaf_eq k (d ∷ ds) ≡ Diagram.branch k (subtrees_of (d ∷ ds))) ⊎ ((i j : ℕ) → i < length (d ∷ ds) → j < length (d ∷ ds) → get_or (d ∷ ds) i nothing ≡ get_or (d ∷ ds) j nothing)
    go true e = inr (λ i j p q. equal-at d ds i e p ∙ sym (equal-at d ds j e q))
    go false e = inl (kept-nodes k d ds e)

pub at-value : (R : ℕ → D) (d v : ℕ) → v < d → get_or (map R (numbers_below d)) v nothing ≡ R v
at-value R d v h = get_or-map R (numbers_below d) v 0 nothing (omega (arith, length-numbers_below d)) ∙ ap R (get_or-numbers_below d v h)

-- The tests of one slot are read as a choice, where trees with equal diagrams are equal.
module _ (d : ℕ) (ds : List ℕ) (b k : ℕ) (sub : ℕ → Tree) (some : 0 < d) (starts : (v : ℕ) → StartsFrom (b + (d - 1)) (sub v))
    (apart : (u v : ℕ) → u < d → v < d → tree_diagram ds (b + (d - 1)) (suc k) (sub u) ≡ tree_diagram ds (b + (d - 1)) (suc k) (sub v) → sub u ≡ sub v) where
  abbrev R : ℕ → D
  R v = tree_diagram ds (b + (d - 1)) (suc k) (sub v)

  abbrev Rs : List D
  Rs = map R (numbers_below d)

  abbrev tests : Tree
  tests = chain (d - 1) 0 b sub

  long : length Rs ≡ d
  long = length-map (numbers_below d) R ∙ length-numbers_below d

  left_out : ((v : ℕ) → v < d → sub v ≡ tests) → StartsFrom (b + (d - 1)) tests → tree_diagram (d ∷ ds) b k tests ≡ choice_of leaf_eq k Rs
  left_out same past =
      skip d ds b k tests past
      ∙ sym (choice-same k Rs (tree_diagram ds (b + (d - 1)) (suc k) tests) (omega (arith, long)) (λ i q. at-value R d i (omega (arith, long)) ∙ ap (tree_diagram ds (b + (d - 1)) (suc k)) (same i (omega (arith, long)))))

  kept : (l : ℕ) (y n : Tree) → tests ≡ Tests l y n → nat_lt l (b + (d - 1)) ≡ true → tree_diagram (d ∷ ds) b k tests ≡ choice_of leaf_eq k Rs
  kept l y n e w = elim (choice-cases k Rs (omega (arith, long))) [
    | inl branch ↦ read ∙ sym branch
    | inr equal ↦ (let same : (v : ℕ) → 0 ≤ v → v ≤ 0 + (d - 1) → sub v ≡ sub 0 = λ v p q. apart v 0 (omega arith) some (sym (at-value R d v (omega arith)) ∙ equal v 0 (omega (arith, long)) (omega (arith, long)) ∙ at-value R d 0 some) in
        let all : tests ≡ sub 0 = chain-same (d - 1) 0 b sub (sub 0) same in
        let past : StartsFrom (b + (d - 1)) (Tests l y n) = subst (StartsFrom (b + (d - 1))) (sym all ∙ e) (starts 0) in
        absurd (grind (arith, nat_tests)))
  ]
    where
      read : tree_diagram (d ∷ ds) b k tests ≡ Diagram.branch k (subtrees_of Rs)
      read =
          let inside : is_within b (d - 1) tests ≡ true = ap (is_within b (d - 1)) e ∙ w in
          let kids : map (λ v. tree_diagram ds (b + (d - 1)) (suc k) (kid_tree (d - 1) b tests v)) (numbers_below d) ≡ Rs =
          map-below (λ v. tree_diagram ds (b + (d - 1)) (suc k) (kid_tree (d - 1) b tests v)) R d (λ v q. ap (tree_diagram ds (b + (d - 1)) (suc k)) (kid-chain (d - 1) b sub (λ v u. starts v) v (omega arith))) in
          rw inside (ap (λ (l : List D). Diagram.branch k (subtrees_of l)) kids)

  pub slot-choice : tree_diagram (d ∷ ds) b k tests ≡ choice_of leaf_eq k Rs
  slot-choice = go tests refl
    where
      go : (t : Tree) → tests ≡ t → tree_diagram (d ∷ ds) b k tests ≡ choice_of leaf_eq k Rs
      go (Ends a) e = let past : StartsFrom (b + (d - 1)) tests = subst (StartsFrom (b + (d - 1))) (sym e) tt in left_out (λ v q. chain-out (d - 1) 0 b sub past v (omega arith) (omega arith)) past
      go (Tests l y n) e = at (nat_lt l (b + (d - 1))) refl
        where
          at : (w : Bool) → nat_lt l (b + (d - 1)) ≡ w → tree_diagram (d ∷ ds) b k tests ≡ choice_of leaf_eq k Rs
          at true w = kept l y n e w
          at false w =
              let from : b + (d - 1) ≤ l = grind (arith, nat_tests) in
              let past : StartsFrom (b + (d - 1)) tests = subst (StartsFrom (b + (d - 1))) (sym e) from in
              left_out (λ v q. chain-out (d - 1) 0 b sub past v (omega arith) (omega arith)) past

-- a function's test tree is read as the function's reduced diagram
pub diagram-tree_of : (ds : List ℕ) (b k : ℕ) (f : List ℕ → Leaf) → AllPositive ds → tree_diagram ds b k (tree_of ds b f) ≡ reduced_from leaf_eq k ds f
diagram-tree_of [] b k f o = refl
diagram-tree_of (d ∷ ds) b k f o =
    let sub : ℕ → Tree = λ v. tree_of ds (b + (d - 1)) (λ p. f (v ∷ p)) in
    let each : (v : ℕ) → tree_diagram ds (b + (d - 1)) (suc k) (sub v) ≡ reduced_from leaf_eq (suc k) ds (λ p. f (v ∷ p)) = λ v. diagram-tree_of ds (b + (d - 1)) (suc k) (λ p. f (v ∷ p)) o.1 in
    slot-choice d ds b k sub o.0 (λ v. starts-tree_of ds (b + (d - 1)) (λ p. f (v ∷ p)))
    (λ u v p q e. tree_of-agree ds (b + (d - 1)) (λ p. f (u ∷ p)) (λ p. f (v ∷ p)) o.1 (reduced-same (suc k) ds (λ p. f (u ∷ p)) (λ p. f (v ∷ p)) (sym (each u) ∙ e ∙ each v)))
    ∙ ap (choice_of leaf_eq k) (map-below (λ v. tree_diagram ds (b + (d - 1)) (suc k) (sub v)) (λ v. reduced_from leaf_eq (suc k) ds (λ p. f (v ∷ p))) d (λ v q. each v))

-- reduced whole trees with equal diagrams are equal
pub diagrams-apart : (ds : List ℕ) (t u : Tree) → AllPositive ds → IsReduced ds 0 t → IsFrom ds 0 0 t → IsReduced ds 0 u → IsFrom ds 0 0 u → tree_diagram ds 0 0 t ≡ tree_diagram ds 0 0 u → t ≡ u
diagrams-apart ds t u o r w s v e =
    let same : reduced_from leaf_eq 0 ds (value_at ds 0 t) ≡ reduced_from leaf_eq 0 ds (value_at ds 0 u) =
    sym (diagram-tree_of ds 0 0 (value_at ds 0 t) o) ∙ ap (tree_diagram ds 0 0) (tree_of-value_at ds 0 t r w) ∙ e ∙ sym (ap (tree_diagram ds 0 0) (tree_of-value_at ds 0 u s v)) ∙ diagram-tree_of ds 0 0 (value_at ds 0 u) o in
    sym (tree_of-value_at ds 0 t r w) ∙ tree_of-agree ds 0 (value_at ds 0 t) (value_at ds 0 u) o (reduced-same 0 ds (value_at ds 0 t) (value_at ds 0 u) same) ∙ tree_of-value_at ds 0 u s v
