-- The test trees of the nodes of a list over slots: they are reduced and whole, and have the list's leaves.
use Rattle.std.proofs.Common.{◌≡◌, ℕ, zero, suc, ◌+◌, ◌-◌, ◌<◌, ◌≤◌, ◌⊎◌, inl, inr, ◌==◌, Bool, true, false, cond, List, [], ◌∷◌, length, map, take, get_or, Some, refl, sym, ◌∙◌, ap, subst, arith, pos}
use Rattle.std.specs.Prelude.{All, slice_get, slice_index}
use Rattle.std.proofs.lemmas.Bool.Decides.{Decides-eqb, nat_tests}
use Rattle.std.proofs.lemmas.List.{length-map, set-get_or, get_or_default}
use Rattle.std.proofs.lemmas.List.Elements.{All-map}
use Rattle.std.proofs.lemmas.Option.{slice_get-get_or}
use Rattle.spd_model.proofs.CallerLemmas.StateOrder.{value_below}
use Rattle.spd_model.specs.Reduced.{Diagram, Subtrees, none, also, subtrees_of, Node}
use Rattle.spd_model.specs.States.{IsState}
use Rattle.spd_nodes.specs.declared.leaf.Leaf.{Leaf}
use Rattle.spd_nodes.specs.declared.leaf.Leaf.TheVariants.{Num}
use Rattle.spd_nodes.specs.Levels.{levels_of, after, passes, IsSlot}
use Rattle.spd_nodes.specs.Trees.{Tree, IsFrom, IsAt, IsReduced, CanTest, join, chain, value_at}
use Rattle.spd_nodes.proofs.CallerLemmas.{IsFrom-at, IsFrom-lower, Within, after-in, after_le, first-is, joins, passes-in, value_at-join, within-no, within-yes}
use Rattle.spd_frozen.specs.Fits.{FitsNode, FitsSizes}
use Rattle.spd_frozen.specs.Frozen.{IsAfter, IsNodeAt, IsFrozen, diagram_of, diagrams, reached, reached_among}
use Rattle.spd_frozen.specs.inner.Thawed.{none_tree, tests_from, slot_tree, slot_trees}
use Rattle.spd_frozen.proofs.Places.{D}
use Rattle.spd_frozen.proofs.Reading.{kid_at}
use Rattle.spd_frozen.proofs.FollowLaws.{frozen-kids_first, diagram-at}
use Rattle.spd_frozen.proofs.FrozenLaws.{Suits, AllSuit, AllSuit-from, count, count-subtrees_of}

pub next-slot : (ds : List ℕ) (v : ℕ) → v < length ds → levels_of (take (suc v) ds) ≡ levels_of (take v ds) + (get_or ds v 0 - 1)
next-slot [] v h = absurd (omega arith)
next-slot (d ∷ ds) zero h = omega arith
next-slot (d ∷ ds) (suc v) h = let more : levels_of (take (suc v) ds) ≡ levels_of (take v ds) + (get_or ds v 0 - 1) = next-slot ds v (omega arith) in omega arith

slots-rise : (ds : List ℕ) (a b : ℕ) → a ≤ b → levels_of (take a ds) ≤ levels_of (take b ds)
slots-rise ds zero b h = omega arith
slots-rise ds (suc a) zero h = absurd (omega arith)
slots-rise [] (suc a) (suc b) h = omega arith
slots-rise (d ∷ ds) (suc a) (suc b) h = let more : levels_of (take a ds) ≤ levels_of (take b ds) = slots-rise ds a b (omega arith) in omega arith

-- a slot whose values are followed by these trees, which are past it
module _ (ds : List ℕ) (slot first end : ℕ) (trees : List Tree) (is : IsSlot ds slot first end) (some : 0 < length trees) (long : end ≡ first + (length trees - 1))
    (fits : (j : ℕ) → j < length trees → IsReduced ds 0 (get_or trees j none_tree) × IsFrom ds 0 end (get_or trees j none_tree)) where
  abbrev sub : ℕ → Tree
  sub j = get_or trees j none_tree

  level-in : (l : ℕ) → first ≤ l → l < end → l < levels_of ds
  level-in l a b = let e : after ds l ≡ end = after-in ds slot first end l is a b in omega (arith, after_le ds l, e)

  -- a test of the slot, where what follows the later values fits
  can-test : (l : ℕ) (y n : Tree) → first ≤ l → l < end → IsFrom ds 0 end y → IsFrom ds 0 end n ⊎ (IsAt (l + 1) n × (l + 1 < end)) → CanTest ds l y n
  can-test l y n a b f g =
      let e : end ≡ after ds l = sym (after-in ds slot first end l is a b) in
      record { yes_fits = subst (λ (x : ℕ). IsFrom ds 0 x y) e f; no_fits = subst (λ (x : ℕ). IsFrom ds 0 x n ⊎ (IsAt (l + 1) n × (l + 1 < x))) e g }

  pub chain-fits : (n j l : ℕ) → n + j ≡ length trees - 1 → l ≡ first + j → IsReduced ds 0 (chain n j l sub) × (IsFrom ds 0 end (chain n j l sub) ⊎ (IsAt l (chain n j l sub) × (l < end)))
  chain-fits zero j l e q = let f = fits j (omega arith) in (f.0, inl f.1)
  chain-fits (suc n) j l e q =
      let low : first ≤ l = omega arith in
      let high : l < end = omega arith in
      let f = fits j (omega arith) in
      let rest = chain-fits n (j + 1) (l + 1) (omega arith) (omega arith) in
      let can = can-test l (sub j) (chain n (j + 1) (l + 1) sub) low high f.1 rest.1 in
      let joined = joins ds l (sub j) (chain n (j + 1) (l + 1) sub) (level-in l low high) f.0 rest.0 can in (
        joined.reduced,
        elim joined.fits [
          | inl a ↦ inl (subst (λ (x : ℕ). IsFrom ds 0 x (chain (suc n) j l sub)) (after-in ds slot first end l is low high) a)
          | inr a ↦ inr (a, high)
        ],
      )

  pub tests-fit : (value : ℕ) → value < length trees → IsReduced ds 0 (tests_from trees first value) × (IsFrom ds 0 end (tests_from trees first value) ⊎ (IsAt (first + value) (tests_from trees first value) × (first + value < end)))
  tests-fit value h = chain-fits (length trees - 1 - value) value (first + value) (omega arith) refl

  pub tests-whole : IsReduced ds 0 (tests_from trees first 0) × IsFrom ds 0 first (tests_from trees first 0)
  tests-whole =
      let f = tests-fit 0 some in
      let z : first + 0 ≡ first = omega arith in (
        f.0,
        elim f.1 [
          | inl a ↦ IsFrom-lower ds first end (tests_from trees first 0) (omega arith) a
          | inr a ↦ IsFrom-at ds first first (tests_from trees first 0) (omega arith) (first-is ds slot first end is (omega (arith, a.1))) (subst (λ (x : ℕ). IsAt x (tests_from trees first 0)) z a.0)
        ],
      )

  -- the tests from a value on are a test of it and of the others
  pub tests-next : (value : ℕ) → value + 1 < length trees → tests_from trees first value ≡ join (first + value) (sub value) (tests_from trees first (value + 1))
  tests-next value h =
      let n : length trees - 1 - value ≡ suc (length trees - 1 - (value + 1)) = omega arith in
      let l : (first + value) + 1 ≡ first + (value + 1) = omega arith in
      ap (λ (k : ℕ). chain k value (first + value) sub) n ∙ ap (λ (k : ℕ). join (first + value) (sub value) (chain (length trees - 1 - (value + 1)) (value + 1) k sub)) l

  pub tests-last : (value : ℕ) → value + 1 ≡ length trees → tests_from trees first value ≡ sub value
  tests-last value h = let n : length trees - 1 - value ≡ 0 = omega arith in ap (λ (k : ℕ). chain k value (first + value) sub) n

  pub can-next : (value : ℕ) → value + 1 < length trees → CanTest ds (first + value) (sub value) (tests_from trees first (value + 1))
  can-next value h =
      let l : first + (value + 1) ≡ (first + value) + 1 = omega arith in
      let f = tests-fit (value + 1) (omega arith) in
      can-test (first + value) (sub value) (tests_from trees first (value + 1)) (omega arith) (omega arith) (fits value (omega arith)).1
      (subst (λ (x : ℕ). IsFrom ds 0 end (tests_from trees first (value + 1)) ⊎ (IsAt x (tests_from trees first (value + 1)) × (x < end))) l f.1)

  pub level-next : (value : ℕ) → value + 1 < length trees → first + value < levels_of ds
  level-next value h = level-in (first + value) (omega arith) (omega arith)

  pub within-kid : (value : ℕ) → value < length trees → Within (sub value ∷ []) (tests_from trees first value ∷ [])
  within-kid value h = go (value + 1 == length trees) refl
    where
      go : (b : Bool) → (value + 1 == length trees) ≡ b → Within (sub value ∷ []) (tests_from trees first value ∷ [])
      go true e =
          let q : value + 1 ≡ length trees = (Decides-eqb (value + 1) (length trees)).0 e in
          subst (λ (t : Tree). Within (sub value ∷ []) (t ∷ [])) (sym (tests-last value q)) (record { nodes = λ x i. i })
      go false e =
          let q : value + 1 < length trees = grind (arith, nat_tests) in
          subst (λ (t : Tree). Within (sub value ∷ []) (t ∷ [])) (sym (tests-next value q)) (within-yes (first + value) (sub value) (tests_from trees first (value + 1)))

  pub within-rest : (value : ℕ) → value + 1 < length trees → Within (tests_from trees first (value + 1) ∷ []) (tests_from trees first value ∷ [])
  within-rest value h = subst (λ (t : Tree). Within (tests_from trees first (value + 1) ∷ []) (t ∷ [])) (sym (tests-next value h)) (within-no (first + value) (sub value) (tests_from trees first (value + 1)))

  -- the tests have the leaf of the tree for the slot's value
  module _ (p : List ℕ) (state : IsState ds p) where
    passes-at : (l : ℕ) → first ≤ l → l < end → passes ds (l - 0) p ≡ (get_or p slot 0 == l - first)
    passes-at l a b =
        let z : l - 0 ≡ l = omega arith in
        rw z (ap (passes ds l) (sym (set-get_or p slot 0)) ∙ passes-in ds slot first end l (get_or p slot 0) p is a b state)

    pub chain-value : (n j l : ℕ) → n + j ≡ length trees - 1 → l ≡ first + j → j ≤ get_or p slot 0 → get_or p slot 0 < length trees
        → value_at ds 0 (chain n j l sub) p ≡ value_at ds 0 (sub (get_or p slot 0)) p
    chain-value zero j l e q a b = let i : j ≡ get_or p slot 0 = omega arith in ap (λ (k : ℕ). value_at ds 0 (sub k) p) i
    chain-value (suc n) j l e q a b =
        value_at-join ds 0 l (sub j) (chain n (j + 1) (l + 1) sub) p
        ∙ go (get_or p slot 0 == j) refl (λ k. chain-value n (j + 1) (l + 1) (omega arith) (omega arith) k b)
      where
        go : (t : Bool) → (get_or p slot 0 == j) ≡ t → (j + 1 ≤ get_or p slot 0 → value_at ds 0 (chain n (j + 1) (l + 1) sub) p ≡ value_at ds 0 (sub (get_or p slot 0)) p)
            → cond (passes ds (l - 0) p) (value_at ds 0 (sub j) p) (value_at ds 0 (chain n (j + 1) (l + 1) sub) p) ≡ value_at ds 0 (sub (get_or p slot 0)) p
        go true z ih =
            let same : j ≡ get_or p slot 0 = sym ((Decides-eqb (get_or p slot 0) j).0 z) in
            let back : l - first ≡ j = omega arith in
            let pass : passes ds (l - 0) p ≡ true = passes-at l (omega arith) (omega arith) ∙ ap (λ (k : ℕ). get_or p slot 0 == k) back ∙ z in
            rw pass (ap (λ (k : ℕ). value_at ds 0 (sub k) p) same)
        go false z ih =
            let back : l - first ≡ j = omega arith in
            let pass : passes ds (l - 0) p ≡ false = passes-at l (omega arith) (omega arith) ∙ ap (λ (k : ℕ). get_or p slot 0 == k) back ∙ z in
            rw pass (ih (grind (arith, nat_tests)))

abbrev pub AnyLeaf : Leaf → Type 0
AnyLeaf x = Unit {0}

-- the test tree of a diagram that suits the slots
module _ (ds : List ℕ) where
  length-trees : (es : Subtrees Leaf) → length (slot_trees ds es) ≡ count es
  length-trees none = refl
  length-trees (also e es) = omega (arith, length-trees es)

  pub slot-is : (v : ℕ) → v < length ds → IsSlot ds v (levels_of (take v ds)) (levels_of (take v ds) + (slice_index ds v - 1))
  slot-is v h = record { slot_in = h; first_is = refl; end_is = refl }

  mutual
    pub slot_tree-fits : (var : ℕ) (d : D) → Suits ds AnyLeaf var d → IsReduced ds 0 (slot_tree ds d) × IsFrom ds 0 (levels_of (take var ds)) (slot_tree ds d)
    slot_tree-fits var (Diagram.leaf x) h = (tt, tt)
    slot_tree-fits var (Diagram.branch v es) h =
        let first = levels_of (take v ds) in
        let long : length (slot_trees ds es) ≡ slice_index ds v = length-trees es ∙ h.2 in
        let end : levels_of (take (suc v) ds) ≡ first + (slice_index ds v - 1) = next-slot ds v h.1 in
        let kids = slot_trees-fit (suc v) es h.4 in
        let whole = tests-whole ds v first (first + (slice_index ds v - 1)) (slot_trees ds es) (slot-is v h.1) (omega (arith, length-trees es, h.3)) (ap (λ (k : ℕ). first + (k - 1)) (sym long))
        (λ j q. (let k = kids j q in (k.0, subst (λ (x : ℕ). IsFrom ds 0 x (get_or (slot_trees ds es) j none_tree)) end k.1))) in
        (whole.0, IsFrom-lower ds (levels_of (take var ds)) first (slot_tree ds (Diagram.branch v es)) (slots-rise ds var v h.0) whole.1)

    pub slot_trees-fit : (var : ℕ) (es : Subtrees Leaf) → AllSuit ds AnyLeaf var es → (j : ℕ) → j < length (slot_trees ds es)
        → IsReduced ds 0 (get_or (slot_trees ds es) j none_tree) × IsFrom ds 0 (levels_of (take var ds)) (get_or (slot_trees ds es) j none_tree)
    slot_trees-fit var none h j q = absurd (omega arith)
    slot_trees-fit var (also e es) h zero q = slot_tree-fits var e h.0
    slot_trees-fit var (also e es) h (suc j) q = slot_trees-fit var es h.1 j (omega arith)

  mutual
    pub slot_tree-value : (var : ℕ) (d : D) (p : List ℕ) → Suits ds AnyLeaf var d → IsState ds p → value_at ds 0 (slot_tree ds d) p ≡ reached p d
    slot_tree-value var (Diagram.leaf x) p h state = refl
    slot_tree-value var (Diagram.branch v es) p h state =
        let first = levels_of (take v ds) in
        let long : length (slot_trees ds es) ≡ slice_index ds v = length-trees es ∙ h.2 in
        let end : levels_of (take (suc v) ds) ≡ first + (slice_index ds v - 1) = next-slot ds v h.1 in
        let kids = slot_trees-fit (suc v) es h.4 in
        let low : slice_index p v < length (slot_trees ds es) = subst (λ (m : ℕ). slice_index p v < m) (sym long) (value_below ds p state v h.1) in
        chain-value ds v first (first + (slice_index ds v - 1)) (slot_trees ds es) (slot-is v h.1) (omega (arith, length-trees es, h.3)) (ap (λ (k : ℕ). first + (k - 1)) (sym long))
        (λ j q. (let k = kids j q in (k.0, subst (λ (x : ℕ). IsFrom ds 0 x (get_or (slot_trees ds es) j none_tree)) end k.1)))
        p state (length (slot_trees ds es) - 1 - 0) 0 (first + 0) (omega arith) refl (omega arith) low
        ∙ slot_trees-value (suc v) es p (slice_index p v) h.4 state low

    slot_trees-value : (var : ℕ) (es : Subtrees Leaf) (p : List ℕ) (x : ℕ) → AllSuit ds AnyLeaf var es → IsState ds p → x < length (slot_trees ds es) → value_at ds 0 (get_or (slot_trees ds es) x none_tree) p ≡ reached_among p x es
    slot_trees-value var none p x h state q = absurd (omega arith)
    slot_trees-value var (also e es) p zero h state q = slot_tree-value var e p h.0 state
    slot_trees-value var (also e es) p (suc x) h state q = slot_trees-value var es p x h.1 state (omega arith)

-- the diagrams of the nodes of a list suit its slots
suits-raise : (ds : List ℕ) (all : List D) (w : ℕ) (n : Node Leaf) → IsAfter w (Some n) → Suits ds AnyLeaf 0 (diagram_of all n) → Suits ds AnyLeaf (suc w) (diagram_of all n)
suits-raise ds all w (Node.leaf x) a h = h
suits-raise ds all w (Node.branch v kids) a h = (omega arith, h.1, h.2, h.3, h.4)

module _ (ds : List ℕ) (nodes : List (Node Leaf)) (frozen : IsFrozen nodes) (fits : FitsSizes ds nodes) where
  stands : (i : ℕ) (d : Node Leaf) → i < length nodes → slice_get nodes i ≡ Some (get_or nodes i d)
  stands i d h = slice_get-get_or nodes i d h

  pub node-diagram : (i : ℕ) (n : Node Leaf) → i < length nodes → get_or nodes i n ≡ n → kid_at (diagrams nodes) i ≡ diagram_of (diagrams nodes) n
  node-diagram i n h e = diagram-at nodes i n (frozen-kids_first nodes frozen) h e

  suits-node : (i : ℕ) (n : Node Leaf) → FitsNode ds n → IsNodeAt nodes i n → ((k : ℕ) → k < i → Suits ds AnyLeaf 0 (kid_at (diagrams nodes) k)) → i < length nodes → Suits ds AnyLeaf 0 (diagram_of (diagrams nodes) n)
  suits-node i (Node.leaf x) f a ih h = tt
  suits-node i (Node.branch v kids) f a ih h =
      let at = kid_at (diagrams nodes) in
      let kid : (j d : ℕ) → j < length kids → Suits ds AnyLeaf (suc v) (at (get_or kids j d)) =
      λ j d q. (let both = a.1 j d q in
      let k = get_or kids j d in
      let low : k < length nodes = omega (arith, both.0) in
      let m = get_or nodes k (Node.leaf (Num (pos 0))) in
      let here : get_or nodes k m ≡ m = get_or_default nodes k m (Node.leaf (Num (pos 0))) low in
      let is = node-diagram k m low here in
      let later : IsAfter v (Some m) = subst (IsAfter v) (stands k (Node.leaf (Num (pos 0))) low) both.1 in
      subst (Suits ds AnyLeaf (suc v)) (sym is) (suits-raise ds (diagrams nodes) v m later (subst (Suits ds AnyLeaf 0) is (ih k both.0)))) in
      let all : All (λ k. Suits ds AnyLeaf (suc v) (at k)) kids = kid in
      let n : count (subtrees_of (map at kids)) ≡ length kids = count-subtrees_of (map at kids) ∙ length-map kids at in
      (omega arith, f.0, n ∙ f.1, omega (arith, n, a.0), AllSuit-from ds AnyLeaf (suc v) (map at kids) (All-map (Suits ds AnyLeaf (suc v)) at kids all))

  pub nodes-suit : (bound i : ℕ) → i < bound → i < length nodes → Suits ds AnyLeaf 0 (kid_at (diagrams nodes) i)
  nodes-suit zero i h k = absurd (omega arith)
  nodes-suit (suc bound) i h k =
      let zero' : Node Leaf = Node.leaf (Num (pos 0)) in
      let n = get_or nodes i zero' in
      let here : get_or nodes i n ≡ n = get_or_default nodes i n zero' k in
      subst (Suits ds AnyLeaf 0) (sym (node-diagram i n k here)) (suits-node i n (fits i zero' k) (frozen.each i n (stands i zero' k)) (λ j q. nodes-suit bound j (omega arith) (omega arith)) k)
