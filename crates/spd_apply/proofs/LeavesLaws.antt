-- The leaves of a tree are the values of its function, and a list that gathers them from the entries of its nodes.
use Rattle.std.proofs.Common.{◌≡◌, ℕ, zero, suc, ◌+◌, ◌-◌, ◌<◌, ◌≤◌, ◌⊎◌, inl, inr, Bool, true, false, cond, List, [], ◌∷◌, ◌++◌, length, take, get_or, ℤ, refl, sym, ◌∙◌, ap, subst, arith}
use Rattle.std.specs.Prelude.{◌≢◌, ◌&&◌, Contains, nat_lt, int_lt}
use Rattle.std.specs.Bool.{Decides}
use Rattle.std.specs.List.{AllPairs, IsDistinct}
use Rattle.std.specs.List.Sorted.{IsPermutation, IsSorted}
use Rattle.std.specs.Ordering.{is_lt, int_cmp, int_eq, nat_cmp, ordering_then}
use Rattle.std.specs.declared.cmp.Ordering.{Ordering}
use Rattle.std.specs.declared.cmp.Ordering.TheVariants.{Less, Equal, Greater}
use Rattle.std.proofs.lemmas.Bool.{or_right}
use Rattle.std.proofs.lemmas.Bool.Decides.{nat_tests, Decides-eqb, Decides-int_eq, same_from_decides}
use Rattle.std.proofs.lemmas.Int.{ints}
use Rattle.std.proofs.lemmas.List.{length-take, get_or-take, get_or_default, take_more}
use Rattle.std.proofs.lemmas.List.Elements.{Contains-get_or, Contains-append_left, Contains-push, Contains-push_cases}
use Rattle.std.proofs.lemmas.List.Quantifiers.{all_pairs_push}
use Rattle.std.proofs.lemmas.List.Sorted.{Contains-permutation, IsPermutation-sym, sorted_far, ranks_by}
use Rattle.std.proofs.lemmas.Map.Keys.{IsDistinct-IsPermutation}
use Rattle.std.proofs.lemmas.Map.Made.{AllPairs-from_IsDistinct, IsDistinct-from_AllPairs}
use Rattle.spd_cons_core.specs.declared.key.Entry.{Entry}
use Rattle.spd_nodes.specs.declared.leaf.Leaf.{Leaf}
use Rattle.spd_nodes.specs.declared.leaf.Leaf.TheVariants.{Num, Pair, Act}
use Rattle.spd_nodes.specs.contracts.leaf.LeafOrd.TheImpl.{cmp-value}
use Rattle.spd_nodes.specs.contracts.leaf.LeafOrd.TheImpl.Laws.{total-law}
use Rattle.spd_model.specs.States.{IsState}
use Rattle.spd_nodes.specs.Levels.{slots, passes, AllPositive}
use Rattle.spd_nodes.specs.Trees.{Tree, Ends, Tests, tree_eq, leaf_eq, value_at, join, chain, tree_of, IsNode, Itself, InYes, InNo}
use Rattle.spd_nodes.specs.States.{point, plain_part, primed_part, test_tree}
use Rattle.spd_nodes.specs.Shown.{Shown, IsSound, IsWhole, meaning}
use Rattle.spd_nodes.specs.Refs.{HasTree, IsReached, entry_eq}
use Rattle.spd_nodes.proofs.CallerLemmas.{IsPointOf, leaf_eq-refl, leaf_eq-true, point-parts, positive-slots, test_tree-function_of}
use Rattle.spd_apply.specs.Leaves.{leaf_before, IsTaken, AreLeavesOf}

-- the leaf at a point is a node of the tree
value-leaf : (ds : List ℕ) (b : ℕ) (t : Tree) (p : List ℕ) → IsNode (Ends (value_at ds b t p)) t
value-leaf ds b (Ends a) p = Itself
value-leaf ds b (Tests l y n) p = go (passes ds (l - b) p) (value-leaf ds b y p) (value-leaf ds b n p)
  where
    go : (t : Bool) → IsNode (Ends (value_at ds b y p)) y → IsNode (Ends (value_at ds b n p)) n
        → IsNode (Ends (cond t (value_at ds b y p) (value_at ds b n p))) (Tests l y n)
    go true h k = InYes h
    go false h k = InNo k

leaf-itself : (a b : Leaf) → IsNode (Ends a) (Ends b) → b ≡ a
leaf-itself a b Itself = refl

ends-same : (a b : Leaf) → Ends a ≡ Ends b → a ≡ b
ends-same a b e = cc

leaf-of_test : (a : Leaf) (y n : Tree) (l : ℕ) → IsNode (Ends a) (Tests l y n) → IsNode (Ends a) y ⊎ IsNode (Ends a) n
leaf-of_test a y n l (InYes h) = inl h
leaf-of_test a y n l (InNo h) = inr h

leaf-of_join : (a : Leaf) (y n : Tree) (l : ℕ) → IsNode (Ends a) (join l y n) → IsNode (Ends a) y ⊎ IsNode (Ends a) n
leaf-of_join a y n l h = go (tree_eq y n) h
  where
    go : (t : Bool) → IsNode (Ends a) (cond t n (Tests l y n)) → IsNode (Ends a) y ⊎ IsNode (Ends a) n
    go true k = inr k
    go false k = leaf-of_test a y n l k

-- a leaf of a slot's tests is one at a value of the slot
leaf-of_chain : (a : Leaf) (n j l : ℕ) (sub : ℕ → Tree) → IsNode (Ends a) (chain n j l sub) → (k : ℕ) × (k ≤ j + n) × IsNode (Ends a) (sub k)
leaf-of_chain a zero j l sub h = (j, omega arith, h)
leaf-of_chain a (suc n) j l sub h = elim (leaf-of_join a (sub j) (chain n (j + 1) (l + 1) sub) l h) [
  | inl k ↦ (j, omega arith, k)
  | inr k ↦ let m = leaf-of_chain a n (j + 1) (l + 1) sub k in (m.0, omega (arith, m.1), m.2)
]

-- a function of points has a leaf at some point
record IsValueOf (ds : List ℕ) (f : List ℕ → Leaf) (a : Leaf) : Type 0 where
  at : List ℕ
  in_range : IsState ds at
  value : f at ≡ a

-- a leaf of a function's tree is a value of the function
leaf-value : (ds : List ℕ) (b : ℕ) (f : List ℕ → Leaf) (a : Leaf) → AllPositive ds → IsNode (Ends a) (tree_of ds b f) → IsValueOf ds f a
leaf-value [] b f a o h = record { at = []; in_range = tt; value = leaf-itself a (f []) h }
leaf-value (d ∷ ds) b f a o h =
    let m = leaf-of_chain a (d - 1) 0 b (λ j. tree_of ds (b + (d - 1)) (λ p. f (j ∷ p))) h in
    let r : IsValueOf ds (λ p. f (m.0 ∷ p)) a = leaf-value ds (b + (d - 1)) (λ p. f (m.0 ∷ p)) a o.1 m.2 in
    record { at = m.0 ∷ r.at; in_range = (omega (arith, m.1, o.0), r.in_range); value = r.value }

-- a list has the leaves among the trees of some entries, each once
pub record Gathers (s : Shown) (refs : List Entry) (leaves : List Leaf) : Type 0 where
  pub found : (q : Entry) (a : Leaf) → Contains refs q → s.tree q ≡ Ends a → Contains leaves a
  pub only : (a : Leaf) → Contains leaves a → HasTree s refs (Ends a)
  pub distinct : AllPairs (λ a b. a ≢ b) leaves

pub gathers-none : (s : Shown) → Gathers s [] []
gathers-none s = record {
  found = λ q a m e. absurd (omega (arith, m.1));
  only = λ a m. absurd (omega (arith, m.1));
  distinct = λ i j d h k. absurd (omega arith);
}

entry-decides : (a b : Entry) → Decides (entry_eq a b) (a ≡ b)
entry-decides a b = ((λ e. let h : a.0 ≡ b.0 = (Decides-eqb a.0 b.0).0 e in λ i. record { 0 = h i }), (λ e. (Decides-eqb a.0 b.0).1 (ap (λ (v : Entry). v.0) e)))

leaf-decides : (a b : Leaf) → Decides (leaf_eq a b) (a ≡ b)
leaf-decides a b = (leaf_eq-true a b, (λ e. subst (λ v. leaf_eq a v ≡ true) e (leaf_eq-refl a)))

leaf_eq-flips : (a b : Leaf) → leaf_eq a b ≡ leaf_eq b a
leaf_eq-flips a b = same_from_decides (leaf_eq a b) (leaf_eq b a) (leaf-decides a b) ((λ e. sym ((leaf-decides b a).0 e)), (λ e. (leaf-decides b a).1 (sym e)))

Contains-taken : (refs : List Entry) (i : ℕ) (q : Entry) → Contains (take i refs) q → Contains refs q
Contains-taken refs i q m =
    let e : m.0 < i = omega (arith, m.1, length-take i refs) in
    (m.0, omega (arith, m.1, length-take i refs), sym (get_or-take i refs m.0 q e) ∙ m.2)

-- an entry of a list without repeats isn't among those before it
not-before : (refs : List Entry) (i : ℕ) (d : Entry) → IsDistinct entry_eq refs → i < length refs → ¬ Contains (take i refs) (get_or refs i d)
not-before refs i d h k m =
    let q : Entry = get_or refs i d in
    let e : m.0 < i = omega (arith, m.1, length-take i refs) in
    AllPairs-from_IsDistinct entry-decides refs h m.0 i q e k (sym (get_or-take i refs m.0 q e) ∙ m.2 ∙ get_or_default refs i d q k)

-- one more entry
module _ (s : Shown) (o : IsSound s) (f : Entry) (refs : List Entry) (reached : IsReached s f refs) (i : ℕ) (d : Entry) (within : i < length refs) (leaves : List Leaf) (g : Gathers s (take i refs) leaves) where
  abbrev old : List Entry
  old = take i refs

  abbrev r : Entry
  r = get_or refs i d

  with-last : (x : Tree) → HasTree s old x → HasTree s (old ++ r ∷ []) x
  with-last x t = record { ref = t.ref; is_in = Contains-append_left old (r ∷ []) t.ref t.is_in; tree = t.tree }

  new-leaf : (a : Leaf) → s.tree r ≡ Ends a → ¬ Contains leaves a
  new-leaf a e m =
      let t : HasTree s old (Ends a) = g.only a m in
      let same : t.ref ≡ r = o.once t.ref r (reached.known t.ref (Contains-taken refs i t.ref t.is_in)) (reached.known r (Contains-get_or refs i d within)) (t.tree ∙ sym e) in
      not-before refs i d reached.distinct within (subst (λ (v : Entry). Contains old v) same t.is_in)

  pub gathers-leaf : (a : Leaf) → s.tree r ≡ Ends a → Gathers s (take (i + 1) refs) (leaves ++ a ∷ [])
  gathers-leaf a e = subst (λ (v : List Entry). Gathers s v (leaves ++ a ∷ [])) (sym (take_more refs i d within)) (record {
    found = λ q b m h. elim (Contains-push_cases old r q m) [
      | inl u ↦ Contains-append_left leaves (a ∷ []) b (g.found q b u h)
      | inr u ↦ let same : a ≡ b = ends-same a b (sym e ∙ ap s.tree u ∙ h) in subst (λ v. Contains (leaves ++ a ∷ []) v) same (Contains-push leaves a)
    ];
    only = λ b m. elim (Contains-push_cases leaves a b m) [
      | inl u ↦ with-last (Ends b) (g.only b u)
      | inr u ↦ record { ref = r; is_in = Contains-push old r; tree = e ∙ ap Ends u }
    ];
    distinct = all_pairs_push (λ a b. a ≢ b) leaves a g.distinct (λ k x h u. new-leaf a e (subst (λ v. Contains leaves v) u (Contains-get_or leaves k x h)));
  })

  pub gathers-test : (l : ℕ) (y n : Tree) → s.tree r ≡ Tests l y n → Gathers s (take (i + 1) refs) leaves
  gathers-test l y n e = subst (λ (v : List Entry). Gathers s v leaves) (sym (take_more refs i d within)) (record {
    found = λ q b m h. elim (Contains-push_cases old r q m) [
      | inl u ↦ g.found q b u h
      | inr u ↦ let same : Tests l y n ≡ Ends b = sym e ∙ ap s.tree u ∙ h in absurd (cc)
    ];
    only = λ b m. with-last (Ends b) (g.only b m);
    distinct = g.distinct;
  })

-- the derived comparison
abbrev pub leaf_cmp : Leaf → Leaf → Ordering
leaf_cmp = cmp-value.it

nat-before : (a b : ℕ) → is_lt (nat_cmp b a) ≡ false → a ≢ b → nat_lt a b ≡ true
nat-before a b h n = grind (arith, nat_tests)

int-before : (a b : ℤ) → is_lt (int_cmp b a) ≡ false → a ≢ b → int_lt a b ≡ true
int-before a b h n = grind (arith, ints, nat_tests)

int-behind : (a b : ℤ) → int_cmp b a ≡ Greater → int_lt a b ≡ true
int-behind a b h = grind (arith, ints, nat_tests)

int-tied : (a b : ℤ) → int_cmp b a ≡ Equal → a ≡ b
int-tied a b h = grind (arith, ints, nat_tests)

pair-before : (a x b y : ℤ) → is_lt (ordering_then (int_cmp b a) (int_cmp y x)) ≡ false → Pair a x ≢ Pair b y → leaf_before (Pair a x) (Pair b y) ≡ true
pair-before a x b y h n = go (int_cmp b a) refl h
  where
    go : (o : Ordering) → int_cmp b a ≡ o → is_lt (ordering_then o (int_cmp y x)) ≡ false → leaf_before (Pair a x) (Pair b y) ≡ true
    go Less e k = absurd (cc k)
    go Equal e k =
        let i : a ≡ b = int-tied a b e in
        let j : int_lt x y ≡ true = int-before x y k (λ u. n (λ v. Pair (i v) (u v))) in
        let t : int_eq a b ≡ true = (Decides-int_eq a b).1 i in
        or_right (int_lt a b) (int_eq a b && int_lt x y) (rw (t, j) refl)
    go Greater e k = let i : int_lt a b ≡ true = int-behind a b e in rw i refl

-- of two leaves that differ, the one that the derived comparison doesn't put behind the other stands before it
before-from : (a b : Leaf) → is_lt (leaf_cmp b a) ≡ false → a ≢ b → leaf_before a b ≡ true
before-from (Num a) (Num b) h n = int-before a b h (λ e. n (ap Num e))
before-from (Num a) (Pair b y) h n = refl
before-from (Num a) (Act b) h n = refl
before-from (Pair a x) (Num b) h n = absurd (cc h)
before-from (Pair a x) (Pair b y) h n = pair-before a x b y h n
before-from (Pair a x) (Act b) h n = refl
before-from (Act a) (Num b) h n = absurd (cc h)
before-from (Act a) (Pair b y) h n = absurd (cc h)
before-from (Act a) (Act b) h n = nat-before a b h (λ e. n (ap Act e))

ascending : (leaves : List Leaf) → IsSorted leaf_cmp leaves → AllPairs (λ a b. a ≢ b) leaves → AllPairs (λ a b. leaf_before a b ≡ true) leaves
ascending leaves h n i j d p q =
    before-from (get_or leaves i d) (get_or leaves j d)
    (sorted_far (λ x y. is_lt (leaf_cmp x y)) (ranks_by total-law (λ (x : Leaf). x)) leaves h i j d (omega arith) q) (n i j d p q)

-- what was gathered from all nodes of a tree, in order, are the leaves of its function
pub leaves-listed : (s : Shown) → IsSound s → (f : Entry) (refs : List Entry) (leaves sorted : List Leaf) → s.knows f ≡ true → IsWhole s f → IsReached s f refs
    → Gathers s refs leaves → IsPermutation leaves sorted → IsSorted leaf_cmp sorted → AreLeavesOf s.sizes (meaning s f) sorted
leaves-listed s o f refs leaves sorted k w r g p h = record {
  all = λ x y i j.
      let t : HasTree s refs (Ends (meaning s f x y)) = r.all (Ends (meaning s f x y)) (value-leaf (slots s.sizes) 0 (s.tree f) (point x y)) in
      Contains-permutation leaves sorted (meaning s f x y) p (g.found t.ref (meaning s f x y) t.is_in t.tree);
  only = λ a m.
      let t : HasTree s refs (Ends a) = g.only a (Contains-permutation sorted leaves a (IsPermutation-sym leaves sorted p) m) in
      taken a (subst (λ v. IsNode v (s.tree f)) t.tree (r.nodes t.ref t.is_in));
  ascending = ascending sorted h
      (AllPairs-from_IsDistinct leaf-decides sorted (IsDistinct-IsPermutation leaf_eq leaf_eq-flips leaves sorted p (IsDistinct-from_AllPairs leaf-decides leaves g.distinct)));
}
  where
    ok : AllPositive (slots s.sizes)
    ok = positive-slots s.sizes o.layout.values

    taken : (a : Leaf) → IsNode (Ends a) (s.tree f) → IsTaken s.sizes (meaning s f) a
    taken a n =
        let tree : test_tree s.sizes (meaning s f) ≡ s.tree f = test_tree-function_of s.sizes ok (s.tree f) (o.reduced f k) w in
        let v : IsValueOf (slots s.sizes) (λ p. meaning s f (plain_part p) (primed_part p)) a =
        leaf-value (slots s.sizes) 0 (λ p. meaning s f (plain_part p) (primed_part p)) a ok (subst (λ t. IsNode (Ends a) t) (sym tree) n) in
        let q : IsPointOf s.sizes v.at = point-parts s.sizes v.at v.in_range in
        record { present = plain_part v.at; next = primed_part v.at; present_in = q.plain; next_in = q.primed; value = v.value }
