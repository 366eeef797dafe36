-- A forest that is full and made only nodes of some functions tells that these have more nodes than its limit: a seat that has published more
-- entries than its table's limit, and a forest for one thread that began with none and lacks one of the nodes.
use Rattle.std.proofs.Common.{◌≡◌, ℕ, zero, suc, ◌+◌, ◌<◌, ◌≤◌, ◌==◌, ◌||◌, Bool, true, false, cond, List, [], ◌∷◌, map, flat_map, length, get_or, refl, sym, ◌∙◌, ap, subst, arith, inl, inr, Contains}
use Rattle.std.specs.Prelude.{nat_lt}
use Rattle.std.specs.List.{list_any, count_by, IsDistinct}
use Rattle.std.specs.Set.{is_member, unique_keys}
use Rattle.std.proofs.lemmas.Bool.{false_from_ne_true, true≢false, or_left, or_right}
use Rattle.std.proofs.lemmas.Bool.Decides.{nat_tests}
use Rattle.std.proofs.lemmas.List.{length-map, get_or-map}
use Rattle.std.proofs.lemmas.List.Folds.{list_any_at}
use Rattle.std.proofs.lemmas.List.Sums.{sum_by-cons}
use Rattle.std.proofs.lemmas.List.Elements.{Contains-append_left, Contains-append_right}
use Rattle.std.proofs.lemmas.Map.Keys.{IsDistinct-from_apart}
use Rattle.std.proofs.lemmas.Map.Made.{length-le_from_is_member}
use Rattle.std.proofs.lemmas.Map.Views.{list_any-from_Contains, Contains-from_any}
use Rattle.spd_cons_core.specs.declared.key.Entry.{Entry}
use Rattle.spd_cons_core.specs.Invariants.{shares}
use Rattle.spd_cons.specs.Values.{SeatValue, IsSeatOf}
use Rattle.spd_model.specs.Numbers.{numbers_below}
use Rattle.spd_model.proofs.CallerLemmas.Lists.{length-numbers_below, get_or-numbers_below}
use Rattle.spd_nodes.specs.KnownTrees.{shown_by}
use Rattle.spd_nodes.specs.Made.{HasMade}
use Rattle.spd_nodes.specs.Shown.{Shown, LacksOne}
use Rattle.spd_nodes.specs.States.{Function, test_trees}
use Rattle.spd_nodes.specs.Store.{Held, shown, tree_in, trees_of}
use Rattle.spd_nodes.specs.Trees.{Tree, IsNodeOf, tree_eq, subtrees_of}
use Rattle.spd_nodes.proofs.CallerLemmas.{nodes-node, tree_eq-true, tree_laws}
use Rattle.spd_turn.specs.Turn.{count_nodes}

-- ---- lists

module _ {X : Type 0} (q : X → Bool) where
  count-cons : (x : X) (xs : List X) → count_by q (x ∷ xs) ≡ cond (q x) 1 0 + count_by q xs
  count-cons x xs = sum_by-cons (λ y. cond (q y) 1 0) x xs

  count-here : (x : X) (xs : List X) → q x ≡ true → count_by q (x ∷ xs) ≡ 1 + count_by q xs
  count-here x xs h = count-cons x xs ∙ ap (λ b. cond b 1 0 + count_by q xs) h

  count-one : (xs : List X) (j : ℕ) (d : X) → j < length xs → q (get_or xs j d) ≡ true → 1 ≤ count_by q xs
  count-one [] j d b h = absurd (omega arith)
  count-one (x ∷ xs) zero d b h = let here = count-here x xs h in omega (arith, here)
  count-one (x ∷ xs) (suc j) d b h = let rest = count-one xs j d (omega arith) h in let more = count-cons x xs in omega (arith, rest, more)

  count-two : (xs : List X) (i j : ℕ) (d : X) → i < j → j < length xs → q (get_or xs i d) ≡ true → q (get_or xs j d) ≡ true → 2 ≤ count_by q xs
  count-two [] i j d a b h k = absurd (omega arith)
  count-two (x ∷ xs) zero zero d a b h k = absurd (omega arith)
  count-two (x ∷ xs) zero (suc j) d a b h k = let rest = count-one xs j d (omega arith) k in let here = count-here x xs h in omega (arith, rest, here)
  count-two (x ∷ xs) (suc i) zero d a b h k = absurd (omega arith)
  count-two (x ∷ xs) (suc i) (suc j) d a b h k = let rest = count-two xs i j d (omega arith) (omega arith) h k in let more = count-cons x xs in omega (arith, rest, more)

-- each tree of a list is among those that are counted
pub unique-there : (ts : List Tree) (x : Tree) → is_member tree_eq ts x ≡ true → is_member tree_eq (unique_keys tree_eq ts) x ≡ true
unique-there [] x h = absurd (true≢false (sym h))
unique-there (t ∷ ts) x h = go (unique-there ts x) (is_member tree_eq ts t) (tree_eq x t) refl refl
  where
    later : tree_eq x t ≡ false → is_member tree_eq ts x ≡ true
    later e = subst (λ z. (z || is_member tree_eq ts x) ≡ true) e h

    go : (is_member tree_eq ts x ≡ true → is_member tree_eq (unique_keys tree_eq ts) x ≡ true) → (b c : Bool) → is_member tree_eq ts t ≡ b → tree_eq x t ≡ c → is_member tree_eq (cond b (unique_keys tree_eq ts) (t ∷ unique_keys tree_eq ts)) x ≡ true
    go more true true e f = more (subst (λ (z : Tree). is_member tree_eq ts z ≡ true) (sym (tree_eq-true x t f)) e)
    go more true false e f = more (later f)
    go more false true e f = or_left (tree_eq x t) (is_member tree_eq (unique_keys tree_eq ts) x) f
    go more false false e f = or_right (tree_eq x t) (is_member tree_eq (unique_keys tree_eq ts) x) (more (later f))

-- the nodes of some trees
pub node-in : (x : Tree) (ts : List Tree) → IsNodeOf x ts → Contains (flat_map subtrees_of ts) x
node-in x [] h = absurd h
node-in x (t ∷ ts) (inl a) = Contains-append_left (subtrees_of t) (flat_map subtrees_of ts) x (nodes-node x t a)
node-in x (t ∷ ts) (inr a) = Contains-append_right (subtrees_of t) (flat_map subtrees_of ts) x (node-in x ts a)

-- distinct trees that are nodes of some functions are no more than these have nodes
trees-few : (sizes : List ℕ) (fs : List Function) (ts : List Tree) → IsDistinct tree_eq ts → ((k : ℕ) (x : Tree) → k < length ts → get_or ts k x ≡ x → IsNodeOf x (test_trees sizes fs))
    → length ts ≤ count_nodes sizes fs
trees-few sizes fs ts distinct are =
    let nodes = flat_map subtrees_of (test_trees sizes fs) in
    length-le_from_is_member tree_laws ts (unique_keys tree_eq nodes) distinct (λ x e.
    let there : Contains ts x = Contains-from_any tree_eq-true x ts e in
    unique-there nodes x (list_any-from_Contains tree_laws x nodes (node-in x (test_trees sizes fs) (are there.0 x there.1 there.2))))

differs : (t u : Tree) → (t ≡ u → ⊥) → tree_eq t u ≡ false
differs t u h = false_from_ne_true (tree_eq t u) (λ e. h (tree_eq-true t u e))

-- ---- what a seat has published

module _ (sizes : List ℕ) (begun s : SeatValue) (fs : List Function) (made : HasMade (shown_by sizes begun) (shown_by sizes s) fs) (none : begun.mind.published ≡ []) (of : IsSeatOf s) where
  abbrev now : Shown
  now = shown_by sizes s

  abbrev all : List Entry
  all = s.mind.published

  abbrev trees : List Tree
  trees = map now.tree all

  published-at : (k : ℕ) (d : Entry) → k < length all → now.published (get_or all k d) ≡ true
  published-at k d b = list_any_at (λ p. p.0 == (get_or all k d).0) all k d b (grind (arith, nat_tests))

  node-at : (k : ℕ) (d : Entry) → k < length all → IsNodeOf (now.tree (get_or all k d)) (test_trees sizes fs)
  node-at k d b = elim (made.makes.only (get_or all k d) (published-at k d b)) [
    | inl old ↦ absurd (true≢false (sym old ∙ ap (list_any (λ p. p.0 == (get_or all k d).0)) none))
    | inr new ↦ new
  ]

  tree-at : (k : ℕ) (d : Tree) (r : Entry) → k < length all → get_or trees k d ≡ now.tree (get_or all k r)
  tree-at k d r b = get_or-map now.tree all k r d b

  differ : (i j : ℕ) (r : Entry) → i < j → j < length all → now.tree (get_or all i r) ≡ now.tree (get_or all j r) → ⊥
  differ i j r a b e =
      let same : get_or all i r ≡ get_or all j r =
      made.sound.once (get_or all i r) (get_or all j r) (made.sound.listed (get_or all i r) (published-at i r (omega arith))) (made.sound.listed (get_or all j r) (published-at j r b)) e in
      let q : Entry → Bool = λ p. p.0 == (get_or all j r).0 in
      let two : 2 ≤ count_by q all = count-two q all i j r a b (rw same (grind (arith, nat_tests))) (grind (arith, nat_tests)) in
      let once = of.once (get_or all j r).0 in
      omega (arith, two, once)

  distinct-trees : (r : Entry) → IsDistinct tree_eq trees
  distinct-trees r = IsDistinct-from_apart tree_eq trees (λ i j d a b.
      let near : j < length all = omega (arith, length-map all now.tree) in
      rw (tree-at i d r (omega arith), tree-at j d r near) (differs (now.tree (get_or all i r)) (now.tree (get_or all j r)) (differ i j r a near)))

  pub published-few : length all ≤ count_nodes sizes fs
  published-few =
      let r : Entry = record { 0 = 0 } in
      let few = trees-few sizes fs trees (distinct-trees r) (λ k x near is.
      let inside : k < length all = omega (arith, near, length-map all now.tree) in
      subst (λ t. IsNodeOf t (test_trees sizes fs)) (sym (tree-at k x r inside) ∙ is) (node-at k r inside)) in
      omega (arith, few, length-map all now.tree)

  -- a full seat that is all seats of its table
  pub more-nodes : s.mind.ended ≡ true → shares s.mind ≡ s.table.size.most → s.table.size.limit < count_nodes sizes fs
  more-nodes full whole = let past = of.full full whole in omega (arith, past, published-few)

-- ---- what a forest for one thread knows, which began with none

module _ (old new : Held) (fs : List Function) (none : old.keys ≡ []) (made : HasMade (shown old) (shown new) fs) where
  abbrev count : ℕ
  count = length new.keys

  abbrev tree_of : ℕ → Tree
  tree_of k = tree_in (trees_of new.keys) k

  abbrev known : List Tree
  known = map tree_of (numbers_below count)

  length-known : length known ≡ count
  length-known = length-map (numbers_below count) tree_of ∙ length-numbers_below count

  known-at : (k : ℕ) (d : Tree) → k < count → get_or known k d ≡ tree_of k
  known-at k d near =
      get_or-map tree_of (numbers_below count) k 0 d (omega (arith, length-numbers_below count)) ∙ ap tree_of (get_or-numbers_below count k near)

  is-known : (k : ℕ) → k < count → nat_lt k count ≡ true
  is-known k near = grind (arith, nat_tests)

  none-before : (k : ℕ) → nat_lt k (length old.keys) ≡ true → ⊥
  none-before k h = let e : nat_lt k 0 ≡ true = subst (λ ks. nat_lt k (length ks) ≡ true) none h in grind (arith, nat_tests)

  known-node : (k : ℕ) → k < count → IsNodeOf (tree_of k) (test_trees old.sizes fs)
  known-node k near = elim (made.makes.only (record { 0 = k }) (is-known k near)) [ inl before ↦ absurd (none-before k before) | inr node ↦ node ]

  known-differ : (i j : ℕ) → i < j → j < count → tree_of i ≡ tree_of j → ⊥
  known-differ i j a b e =
      let first : nat_lt i count ≡ true = is-known i (omega arith) in
      let is : i ≡ j = ap (λ (r : Entry). r.0) (made.sound.once (record { 0 = i }) (record { 0 = j }) first (is-known j b) e) in
      omega (arith, a, is)

  module _ (lacks : LacksOne (shown new) (test_trees new.sizes fs)) where
    distinct : (i j : ℕ) (d : Tree) → i < j → j < length (lacks.node ∷ known) → tree_eq (get_or (lacks.node ∷ known) i d) (get_or (lacks.node ∷ known) j d) ≡ false
    distinct zero zero d a b = absurd (omega arith)
    distinct zero (suc j) d a b =
        let near : j < count = omega (arith, length-known) in
        rw (known-at j d near) (differs lacks.node (tree_of j) (λ e. lacks.unknown (record { 0 = j }) (is-known j near) (sym e)))
    distinct (suc i) zero d a b = absurd (omega arith)
    distinct (suc i) (suc j) d a b =
        let near : j < count = omega (arith, length-known) in
        rw (known-at i d (omega arith), known-at j d near) (differs (tree_of i) (tree_of j) (known-differ i j (omega arith) near))

    nodes-all : (k : ℕ) (x : Tree) → k < length (lacks.node ∷ known) → get_or (lacks.node ∷ known) k x ≡ x → IsNodeOf x (test_trees old.sizes fs)
    nodes-all zero x near is = subst (λ y. IsNodeOf y (test_trees old.sizes fs)) is (subst (λ z. IsNodeOf lacks.node (test_trees z fs)) made.grows.sizes lacks.is_node)
    nodes-all (suc k) x near is =
        let inside : k < count = omega (arith, length-known) in
        subst (λ y. IsNodeOf y (test_trees old.sizes fs)) (sym (known-at k x inside) ∙ is) (known-node k inside)

    -- one more than it knows
    pub store-more-nodes : new.limit < count_nodes old.sizes fs
    store-more-nodes =
        let full : new.limit ≤ count = grind (arith, nat_tests, lacks.full) in
        let few = trees-few old.sizes fs (lacks.node ∷ known) (IsDistinct-from_apart tree_eq (lacks.node ∷ known) distinct) nodes-all in
        omega (arith, full, few, length-known)
