-- Lists of entries that are reached from one, and their number.
use Rattle.std.proofs.Common.{◌≡◌, ℕ, zero, suc, ◌+◌, ◌<◌, ◌⊎◌, inl, inr, Bool, true, false, List, [], ◌∷◌, ◌++◌, length, length-append, get_or, take, map, refl, sym, ◌∙◌, ap, subst, arith, true≢false, if◌then◌else◌, IsTrue}
use Rattle.std.specs.Prelude.{Contains}
use Rattle.std.specs.List.{IsDistinct, list_any}
use Rattle.std.specs.Set.{is_member}
use Rattle.std.specs.Cmp.{IsEquivalence, both_ways}
use Rattle.std.proofs.lemmas.Bool.Decides.{Decides-eqb}
use Rattle.std.proofs.Math.ListN.{get_or-append}
use Rattle.std.proofs.Math.Seq.{get_or-append_seam, take-append_seam}
use Rattle.std.proofs.lemmas.List.{length-map, get_or-map, take-append-le}
use Rattle.std.proofs.lemmas.List.Elements.{Contains-get_or, Contains-append_left, Contains-append_right, Contains-push, Contains-push_cases, Contains-append_cases}
use Rattle.std.proofs.lemmas.Map.Keys.{IsDistinct-push, apart_from_distinct, IsDistinct-from_apart}
use Rattle.std.proofs.lemmas.Map.Made.{length-from_keys}
use Rattle.std.proofs.lemmas.Map.Views.{list_any-from_Contains, Contains-from_any}
use Rattle.spd_cons_core.specs.declared.key.Entry.{Entry}
use Rattle.spd_cons_core.proofs.CallerLemmas.{contains_cases, contains_cons}
use Rattle.spd_nodes.specs.declared.leaf.Leaf.{Leaf}
use Rattle.spd_nodes.specs.Trees.{Tree, Ends, Tests, tree_eq, IsNode, Itself, InYes, InNo, subtrees_of}
use Rattle.spd_nodes.specs.Shown.{Shown, IsSound}
use Rattle.spd_nodes.specs.Refs.{entry_eq, AddsRef, HasTree, HasChildren, ChildrenFirst, IsClosed, Visits, IsReached, node_count}
use Rattle.spd_nodes.proofs.KeyLaws.{same_entry}
use Rattle.spd_nodes.proofs.TreeLaws.{tree_eq-refl, tree_eq-true, tree_eq-false}

-- a test that is equality is an equivalence
pub equivalence : {K : Type 0} (E : K → K → Bool) → ((x : K) → E x x ≡ true) → ((x y : K) → E x y ≡ true → x ≡ y) → IsEquivalence E
equivalence {K} E r s = record { refl = r; symm = λ x y. flip x y (E x y) (E y x) refl refl; congr = λ x y z h. ap (λ v. E v z) (s x y h) }
  where
    flip : (x y : K) (a b : Bool) → E x y ≡ a → E y x ≡ b → a ≡ b
    flip x y true true h k = refl
    flip x y false false h k = refl
    flip x y true false h k = sym (r y) ∙ ap (λ v. E y v) (sym (s x y h)) ∙ k
    flip x y false true h k = sym h ∙ ap (λ v. E x v) (s y x k) ∙ r x

pub entry_laws : IsEquivalence entry_eq
entry_laws = equivalence entry_eq (λ r. (Decides-eqb r.0 r.0).1 refl) same_entry

pub tree_laws : IsEquivalence tree_eq
tree_laws = equivalence tree_eq tree_eq-refl tree_eq-true

pub contains-any : (refs : List Entry) (r : Entry) (b : Bool) → b ≡ list_any (entry_eq r) refs → (IsTrue b → Contains refs r) × (Contains refs r → IsTrue b)
contains-any refs r true e = (λ _. Contains-from_any same_entry r refs (sym e), λ _. refl)
contains-any refs r false e = (λ h. absurd (true≢false (sym h)), λ h. absurd (true≢false (sym (list_any-from_Contains entry_laws r refs h) ∙ sym e)))

absent-any : (refs : List Entry) (r : Entry) → list_any (entry_eq r) refs ≡ false → ¬ Contains refs r
absent-any refs r e h = true≢false (sym (list_any-from_Contains entry_laws r refs h) ∙ e)

any-absent : (refs : List Entry) (r : Entry) → ¬ Contains refs r → list_any (entry_eq r) refs ≡ false
any-absent refs r h = go (list_any (entry_eq r) refs) refl
  where
    go : (b : Bool) → list_any (entry_eq r) refs ≡ b → b ≡ false
    go true e = absurd (h (Contains-from_any same_entry r refs e))
    go false e = refl

pub adds-ref : (old new : List Entry) (r : Entry) → new ≡ (if list_any (entry_eq r) old then old else old ++ r ∷ []) → AddsRef old new r
adds-ref old new r e = go (list_any (entry_eq r) old) refl
  where
    go : (b : Bool) → list_any (entry_eq r) old ≡ b → AddsRef old new r
    go true h = inl (rw h at e, Contains-from_any same_entry r old h)
    go false h = inr (rw h at e, absent-any old r h)

-- the nodes of a test are itself and those of its children
node-cases : (x y n : Tree) (l : ℕ) → IsNode x (Tests l y n) → (x ≡ Tests l y n) ⊎ IsNode x y ⊎ IsNode x n
node-cases x y n l Itself = inl refl
node-cases x y n l (InYes h) = inr (inl h)
node-cases x y n l (InNo h) = inr (inr h)

leaf-node : (x : Tree) (a : Leaf) → IsNode x (Ends a) → x ≡ Ends a
leaf-node x a Itself = refl

-- the default of a place within a list doesn't matter
out-of : (refs : List Entry) (i : ℕ) (d e : Entry) → i < length refs → get_or refs i e ≡ e → get_or refs i d ≡ e
out-of [] i d e q h = absurd (omega arith)
out-of (r ∷ refs) zero d e q h = h
out-of (r ∷ refs) (suc i) d e q h = out-of refs i d e (omega arith) h

-- the list of a tree's nodes has the tree's nodes
pub nodes-node : (x t : Tree) → IsNode x t → Contains (subtrees_of t) x
nodes-node x (Ends a) h = (0, omega arith, sym (leaf-node x a h))
nodes-node x (Tests l y n) h = elim (node-cases x y n l h) [
  | inl e ↦ (0, omega arith, sym e)
  | inr e ↦ elim e [
    | inl i ↦ contains_cons (Tests l y n) (subtrees_of y ++ subtrees_of n) x (Contains-append_left (subtrees_of y) (subtrees_of n) x (nodes-node x y i))
    | inr i ↦ contains_cons (Tests l y n) (subtrees_of y ++ subtrees_of n) x (Contains-append_right (subtrees_of y) (subtrees_of n) x (nodes-node x n i))
  ]
]

pub node-nodes : (x t : Tree) → Contains (subtrees_of t) x → IsNode x t
node-nodes x (Ends a) h = elim (contains_cases (Ends a) [] x h) [
  | inl e ↦ subst (λ v. IsNode v (Ends a)) e Itself
  | inr m ↦ absurd (omega (arith, m.1))
]
node-nodes x (Tests l y n) h = elim (contains_cases (Tests l y n) (subtrees_of y ++ subtrees_of n) x h) [
  | inl e ↦ subst (λ v. IsNode v (Tests l y n)) e Itself
  | inr m ↦ elim (Contains-append_cases (subtrees_of y) (subtrees_of n) x m) [
    | inl i ↦ InYes (node-nodes x y i)
    | inr i ↦ InNo (node-nodes x n i)
  ]
]

module _ (s : Shown) where
  more-trees : (old new : List Entry) → ((q : Entry) → Contains old q → Contains new q) → (x : Tree) → HasTree s old x → HasTree s new x
  more-trees old new h x k = record { ref = k.ref; is_in = h k.ref k.is_in; tree = k.tree }

  pub visits-there : (refs : List Entry) (r : Entry) → IsClosed s refs → Contains refs r → Visits s refs refs r
  visits-there refs r c h = record { closed = c; kept = λ q k. k; found = h; only = λ q k. inl k }

  -- children still stand first where the children of the new last entry stand in the list
  order-push : (refs : List Entry) (r : Entry) → ChildrenFirst s refs → HasChildren s refs (s.tree r) → ChildrenFirst s (refs ++ r ∷ [])
  order-push refs r o h i q j e = go (three i (length refs))
    where
      three : (a b : ℕ) → (a < b) ⊎ (a ≡ b) ⊎ (b < a)
      three a b = grind arith

      more : length (refs ++ r ∷ []) ≡ length refs + 1
      more = length-append refs (r ∷ [])

      go : (i < length refs) ⊎ (i ≡ length refs) ⊎ (length refs < i) → HasChildren s (take i (refs ++ r ∷ [])) (s.tree q)
      go (inl u) = rw (take-append-le i refs (r ∷ []) (omega arith)) (o i q u (sym (get_or-append refs (r ∷ []) q i u) ∙ e))
      go (inr (inl u)) =
          let p : r ≡ q = sym (get_or-append_seam refs r [] q) ∙ ap (λ n. get_or (refs ++ r ∷ []) n q) (sym u) ∙ e in
          subst (λ (v : Entry). HasChildren s (take i (refs ++ r ∷ [])) (s.tree v)) p (rw (u, take-append_seam refs (r ∷ [])) h)
      go (inr (inr u)) = absurd (omega (arith, more))

  -- an entry is added to a closed list that has its children and all other nodes of its tree
  visits-add : (old new : List Entry) (r : Entry) → s.knows r ≡ true → IsClosed s old → AddsRef old new r → HasChildren s old (s.tree r)
      → ((x : Tree) → IsNode x (s.tree r) → (x ≡ s.tree r) ⊎ HasTree s old x) → Visits s old new r
  visits-add old new r k c (inl a) d h =
      subst (λ (v : List Entry). Visits s old v r) (sym a.0) (visits-there old r c a.1)
  visits-add old new r k c (inr a) d h = subst (λ (v : List Entry). Visits s old v r) (sym a.0) (record {
    closed = record {
      distinct = IsDistinct-push entry_laws old r c.distinct (any-absent old r a.1);
      known = λ q m. elim (Contains-push_cases old r q m) [ inl u ↦ c.known q u | inr u ↦ subst (λ (v : Entry). s.knows v ≡ true) u k ];
      order = order-push old r c.order d;
      nodes = λ q x m i. elim (Contains-push_cases old r q m) [
        | inl u ↦ more-trees old (old ++ r ∷ []) (λ p g. Contains-append_left old (r ∷ []) p g) x (c.nodes q x u i)
        | inr u ↦ with-last x (h x (subst (λ (v : Entry). IsNode x (s.tree v)) (sym u) i))
      ];
    };
    kept = λ q m. Contains-append_left old (r ∷ []) q m;
    found = Contains-push old r;
    only = λ q m. elim (Contains-push_cases old r q m) [ inl u ↦ inl u | inr u ↦ inr (subst (λ (v : Entry). IsNode (s.tree v) (s.tree r)) u Itself) ];
  })
    where
      with-last : (x : Tree) → (x ≡ s.tree r) ⊎ HasTree s old x → HasTree s (old ++ r ∷ []) x
      with-last x (inl e) = record { ref = r; is_in = Contains-push old r; tree = sym e }
      with-last x (inr e) = more-trees old (old ++ r ∷ []) (λ p g. Contains-append_left old (r ∷ []) p g) x e

  pub visits-leaf : (old new : List Entry) (r : Entry) (a : Leaf) → s.knows r ≡ true → IsClosed s old → s.tree r ≡ Ends a → AddsRef old new r → Visits s old new r
  visits-leaf old new r a k c e h = visits-add old new r k c h (rw e tt) (λ x i. inl (leaf-node x a (subst (λ v. IsNode x v) e i) ∙ sym e))

  pub visits-test : (old one two new : List Entry) (r y n : Entry) (l : ℕ) → s.knows r ≡ true → s.tree r ≡ Tests l (s.tree y) (s.tree n)
      → Visits s old one y → Visits s one two n → AddsRef two new r → Visits s old new r
  visits-test old one two new r y n l k e v w h =
      let there : HasTree s two (s.tree y) = record { ref = y; is_in = w.kept y v.found; tree = refl } in
      let last : HasTree s two (s.tree n) = record { ref = n; is_in = w.found; tree = refl } in
      let u : Visits s two new r = visits-add two new r k w.closed h (rw e (there, last)) (λ x i. elim (node-cases x (s.tree y) (s.tree n) l (subst (λ t. IsNode x t) e i)) [
        | inl z ↦ inl (z ∙ sym e)
        | inr z ↦ inr (elim z [
          | inl g ↦ more-trees one two w.kept x (v.closed.nodes y x v.found g)
          | inr g ↦ w.closed.nodes n x w.found g
        ])
      ]) in
      record {
        closed = u.closed;
        kept = λ q m. u.kept q (w.kept q (v.kept q m));
        found = u.found;
        only = λ q m. elim (u.only q m) [
          | inl a ↦ elim (w.only q a) [
            | inl b ↦ elim (v.only q b) [ inl d ↦ inl d | inr d ↦ inr (subst (λ t. IsNode (s.tree q) t) (sym e) (InYes d)) ]
            | inr b ↦ inr (subst (λ t. IsNode (s.tree q) t) (sym e) (InNo b))
          ]
          | inr a ↦ inr a
        ];
      }

  module _ (o : IsSound s) (r : Entry) (refs : List Entry) (h : IsReached s r refs) where
    abbrev trees : List Tree
    trees = map s.tree refs

    tree-at : (i : ℕ) (d : Tree) → i < length refs → get_or trees i d ≡ s.tree (get_or refs i r)
    tree-at i d q = get_or-map s.tree refs i r d q

    distinct-trees : IsDistinct tree_eq trees
    distinct-trees = IsDistinct-from_apart tree_eq trees (λ i j d a b.
        let q : j < length refs = omega (arith, length-map refs s.tree) in
        let p : i < length refs = omega arith in
        let apart : entry_eq (get_or refs i r) (get_or refs j r) ≡ false = apart_from_distinct entry_eq refs i j r h.distinct a q in
        rw (tree-at i d p, tree-at j d q) (tree_eq-false _ _ (λ e.
        let k : get_or refs i r ≡ get_or refs j r = o.once _ _ (h.known _ (Contains-get_or refs i r p)) (h.known _ (Contains-get_or refs j r q)) e in
        true≢false (sym (entry_laws.refl (get_or refs j r)) ∙ subst (λ (v : Entry). entry_eq v (get_or refs j r) ≡ false) k apart))))

    node-there : (x : Tree) → is_member tree_eq trees x ≡ true → is_member tree_eq (subtrees_of (s.tree r)) x ≡ true
    node-there x e =
        let m : Contains trees x = Contains-from_any tree_eq-true x trees e in
        let q : m.0 < length refs = omega (arith, m.1, length-map refs s.tree) in
        let t : s.tree (get_or refs m.0 r) ≡ x = sym (tree-at m.0 x q) ∙ m.2 in
        list_any-from_Contains tree_laws x (subtrees_of (s.tree r)) (nodes-node x (s.tree r) (subst (λ v. IsNode v (s.tree r)) t (h.nodes _ (Contains-get_or refs m.0 r q))))

    there-node : (x : Tree) → is_member tree_eq (subtrees_of (s.tree r)) x ≡ true → is_member tree_eq trees x ≡ true
    there-node x e =
        let k : HasTree s refs x = h.all x (node-nodes x (s.tree r) (Contains-from_any tree_eq-true x (subtrees_of (s.tree r)) e)) in
        let m : Contains refs k.ref = k.is_in in
        let t : get_or trees m.0 x ≡ x = tree-at m.0 x m.1 ∙ ap s.tree (out-of refs m.0 r k.ref m.1 m.2) ∙ k.tree in
        list_any-from_Contains tree_laws x trees (m.0, omega (arith, m.1, length-map refs s.tree), t)

    pub node_count-reached : length refs ≡ node_count (s.tree r)
    node_count-reached = sym (length-map refs s.tree) ∙ length-from_keys tree_laws trees (subtrees_of (s.tree r)) distinct-trees (λ x. both_ways (is_member tree_eq trees x) (is_member tree_eq (subtrees_of (s.tree r)) x) (node-there x) (there-node x))
