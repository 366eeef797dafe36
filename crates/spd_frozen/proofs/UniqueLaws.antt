-- What a look-up of a stored node says of the diagrams that a unique table's nodes stand for.
use Rattle.std.proofs.Common.{◌≡◌, ℕ, suc, ◌+◌, ◌<◌, ◌≤◌, Bool, true, false, List, [], ◌∷◌, ◌++◌, length, map, get_or, refl, ap, sym, ◌∙◌, subst, arith, length-append, ◌==◌, if◌then◌else◌, inl, inr}
use Rattle.std.specs.Prelude.{All}
use Rattle.std.specs.Bool.{Decides}
use Rattle.std.specs.List.{list_any, position_or_len}
use Rattle.std.proofs.lemmas.Bool.{and_parts}
use Rattle.std.proofs.lemmas.Bool.Decides.{same_from_decides, Decides-eqb, leb_tells}
use Rattle.std.proofs.lemmas.List.{get_or_append_left, get_or_push, get_or-map, length-map, map-append}
use Rattle.std.proofs.lemmas.Simd.{map-map}
use Rattle.std.proofs.lemmas.List.Folds.{map_fixed}
use Rattle.std.proofs.lemmas.List.Elements.{All-head, All-tail, All-cons, All-nil, All-weaker, Contains-get_or}
use Rattle.spd_model.specs.Reduced.{subtrees_of, Node, is_equal, node_number, node_numbers, node_of, with_node}
use Rattle.spd_nodes.specs.Trees.{leaf_eq}
use Rattle.spd_nodes.specs.declared.leaf.Leaf.{Leaf}
use Rattle.spd_nodes.specs.declared.leaf.Leaf.TheVariants as L
use Rattle.spd_nodes.proofs.CallerLemmas.{leaf_eq-refl, leaf_eq-true}
use Rattle.std.specs.Prelude.{bytes_eq}
use Rattle.std.proofs.lemmas.Slice.Eq.{bytes_eq-Decides}
use Rattle.spd_frozen.specs.declared.node.Node.{Node as StoredNode}
use Rattle.spd_frozen.specs.declared.node.Node.TheVariants as Stored
use Rattle.spd_frozen.specs.contracts.node.NodePartialEq.TheImpl.{eq-value}
use Rattle.spd_frozen.specs.Nodes.{shown, all_shown}
use Rattle.spd_frozen.specs.Frozen.{diagram_of, diagrams}
use Rattle.spd_frozen.specs.inner.Unique.{HasKidsBelow, KidsFirst, AreApart, IsUniqueTable}
use Rattle.spd_frozen.proofs.Places.{D, is_equal-refl, is_equal-true, number-append, number-push, IsNew, place, place-in, place-new, number-place, there-Contains, with_node-there, with_node-new}
use Rattle.spd_frozen.proofs.Reading.{nothing, kid_at, diagrams_after-push, length-diagrams_after, diagrams-each}

-- the derived `==`
abbrev pub stored_eq : StoredNode → StoredNode → Bool
stored_eq = eq-value.it

leaf-alike : (x y : Leaf) → stored_eq (Stored.Leaf x) (Stored.Leaf y) ≡ leaf_eq x y
leaf-alike (L.Num a) (L.Num b) = refl
leaf-alike (L.Num a) (L.Pair b y) = refl
leaf-alike (L.Num a) (L.Act b) = refl
leaf-alike (L.Pair a x) (L.Num b) = refl
leaf-alike (L.Pair a x) (L.Pair b y) = refl
leaf-alike (L.Pair a x) (L.Act b) = refl
leaf-alike (L.Act a) (L.Num b) = refl
leaf-alike (L.Act a) (L.Pair b y) = refl
leaf-alike (L.Act a) (L.Act b) = refl

-- stored nodes are equal where they stand for one node
shown-alike : (a b : StoredNode) → Decides (stored_eq a b) (shown a ≡ shown b)
shown-alike (Stored.Leaf x) (Stored.Leaf y) = (
  λ h. ap Node.leaf (leaf_eq-true x y (sym (leaf-alike x y) ∙ h)),
  λ p. (let e : x ≡ y = cc in leaf-alike x y ∙ subst (λ (z : Leaf). leaf_eq x z ≡ true) e (leaf_eq-refl x)),
)
shown-alike (Stored.Leaf x) (Stored.Branch w js) = (λ h. cc, λ p. cc)
shown-alike (Stored.Branch v ks) (Stored.Leaf y) = (λ h. cc, λ p. cc)
shown-alike (Stored.Branch v ks) (Stored.Branch w js) = (
  λ h. (let both = and_parts (v == w) (bytes_eq ks.items js.items) h in
      let a : v ≡ w = (Decides-eqb v w).0 both.0 in
      let b : ks.items ≡ js.items = (bytes_eq-Decides ks.items js.items).0 both.1 in
      λ i. Node.branch (a i) (b i)),
  λ p. (let a : v ≡ w = cc in
      let b : ks.items ≡ js.items = cc in
      rw ((Decides-eqb v w).1 a, (bytes_eq-Decides ks.items js.items).1 b) refl),
)

-- a diagram that was read from a node whose kids are there is written as that node
kids-back : (ds : List D) (kids : List ℕ) → AreApart ds → All (λ k. k < length ds) kids → node_numbers leaf_eq ds (subtrees_of (map (kid_at ds) kids)) ≡ kids
kids-back ds [] apart h = refl
kids-back ds (k ∷ kids) apart h =
    let first : node_number leaf_eq ds (kid_at ds k) ≡ k = apart k (All-head (λ j. j < length ds) k kids h) in
    let others = kids-back ds kids apart (All-tail (λ j. j < length ds) k kids h) in
    λ i. first i ∷ others i

pub node-back : (ds : List D) (n : Node Leaf) → AreApart ds → HasKidsBelow (length ds) n → node_of leaf_eq ds (diagram_of ds n) ≡ n
node-back ds (Node.leaf x) apart h = refl
node-back ds (Node.branch v kids) apart h = ap (Node.branch v) (kids-back ds kids apart h)

diagrams-alike : (ds : List D) (a b : Node Leaf) → AreApart ds → HasKidsBelow (length ds) a → HasKidsBelow (length ds) b
    → Decides (is_equal leaf_eq (diagram_of ds a) (diagram_of ds b)) (a ≡ b)
diagrams-alike ds a b apart h k = (
  λ e. sym (node-back ds a apart h) ∙ ap (node_of leaf_eq ds) (is_equal-true (diagram_of ds a) (diagram_of ds b) e) ∙ node-back ds b apart k,
  λ p. subst (λ (n : Node Leaf). is_equal leaf_eq (diagram_of ds a) (diagram_of ds n) ≡ true) p (is_equal-refl (diagram_of ds a)),
)

-- kids of the nodes of a list
pub HasKidsBelow-more : (m n : ℕ) (node : Node Leaf) → m ≤ n → HasKidsBelow m node → HasKidsBelow n node
HasKidsBelow-more m n (Node.leaf x) le h = tt
HasKidsBelow-more m n (Node.branch v kids) le h = All-weaker (λ k. k < m) (λ k. k < n) (λ k p. omega arith) kids h

KidsFirst-below : (m : ℕ) (nodes : List (Node Leaf)) → KidsFirst m nodes → All (HasKidsBelow (m + length nodes)) nodes
KidsFirst-below m [] h = All-nil (HasKidsBelow (m + 0))
KidsFirst-below m (n ∷ nodes) h =
    let P = HasKidsBelow (m + length (n ∷ nodes)) in
    let first : P n = HasKidsBelow-more m (m + length (n ∷ nodes)) n (omega arith) h.0 in
    let others : All P nodes = subst (λ (k : ℕ). All (HasKidsBelow k) nodes) (omega arith) (KidsFirst-below (suc m) nodes h.1) in
    All-cons P n nodes first others

pub KidsFirst-all : (nodes : List (Node Leaf)) → KidsFirst 0 nodes → All (HasKidsBelow (length nodes)) nodes
KidsFirst-all nodes h = subst (λ (k : ℕ). All (HasKidsBelow k) nodes) (omega arith) (KidsFirst-below 0 nodes h)

pub KidsFirst-push : (m : ℕ) (nodes : List (Node Leaf)) (n : Node Leaf) → KidsFirst m nodes → HasKidsBelow (m + length nodes) n → KidsFirst m (nodes ++ n ∷ [])
KidsFirst-push m [] n h k = (HasKidsBelow-more (m + 0) m n (omega arith) k, tt)
KidsFirst-push m (x ∷ nodes) n h k =
    (h.0, KidsFirst-push (suc m) nodes n h.1 (HasKidsBelow-more (m + length (x ∷ nodes)) (suc m + length nodes) n (omega arith) k))

pub AreApart-push : (ds : List D) (d : D) → AreApart ds → IsNew ds d → AreApart (ds ++ d ∷ [])
AreApart-push ds d apart new k h = elim (leb_tells (length ds) k) [
  | inl out ↦ (let e : k ≡ length ds = omega (arith, out.1, length-append ds (d ∷ [])) in
      rw (e, get_or_push ds d nothing (length ds) refl) (number-push ds d new))
  | inr in' ↦ (let e : kid_at (ds ++ d ∷ []) k ≡ kid_at ds k = get_or_append_left ds (d ∷ []) nothing k in'.1 in
      rw e (number-append ds (d ∷ []) (kid_at ds k) (Contains-get_or ds k nothing in'.1) ∙ apart k in'.1))
]

-- tests that agree find the same
finds-alike : {X Y : Type 0} (p : X → Bool) (q : Y → Bool) (g : X → Y) (xs : List X) → All (λ x. p x ≡ q (g x)) xs
    → (list_any p xs ≡ list_any q (map g xs)) × (position_or_len p xs ≡ position_or_len q (map g xs))
finds-alike p q g [] h = (refl, refl)
finds-alike p q g (x ∷ xs) h =
    let e : p x ≡ q (g x) = All-head (λ y. p y ≡ q (g y)) x xs h in
    let more = finds-alike p q g xs (All-tail (λ y. p y ≡ q (g y)) x xs h) in
    (rw (e, more.0) refl, rw (e, more.1) refl)

-- what a look-up of a stored node says of the diagrams
pub record LooksUp (keys : List StoredNode) (key : StoredNode) (d : D) : Type 0 where
  pub any : list_any (stored_eq key) keys ≡ list_any (is_equal leaf_eq d) (diagrams (all_shown keys))
  pub position : position_or_len (stored_eq key) keys ≡ place (diagrams (all_shown keys)) d

pub looks-up : (keys : List StoredNode) (key : StoredNode) → IsUniqueTable (all_shown keys) → HasKidsBelow (length (all_shown keys)) (shown key)
    → LooksUp keys key (diagram_of (diagrams (all_shown keys)) (shown key))
looks-up keys key table h =
    let nodes = all_shown keys in
    let ds = diagrams nodes in
    let d = diagram_of ds (shown key) in
    let long : length ds ≡ length nodes = length-diagrams_after [] nodes ∙ omega arith in
    let below : (n : Node Leaf) → HasKidsBelow (length nodes) n → HasKidsBelow (length ds) n = λ n k. subst (λ (m : ℕ). HasKidsBelow m n) (sym long) k in
    let each : diagrams nodes ≡ map (λ k. diagram_of ds (shown k)) keys = diagrams-each nodes table.kids_first ∙ map-map (diagram_of ds) shown keys in
    let all : All (HasKidsBelow (length nodes)) nodes = KidsFirst-all nodes table.kids_first in
    let tests : All (λ k. stored_eq key k ≡ is_equal leaf_eq d (diagram_of ds (shown k))) keys =
    λ i e q. same_from_decides (stored_eq key (get_or keys i e)) (is_equal leaf_eq d (diagram_of ds (shown (get_or keys i e)))) (shown-alike key (get_or keys i e))
    (diagrams-alike ds (shown key) (shown (get_or keys i e)) table.apart (below (shown key) h)
    (below (shown (get_or keys i e)) (subst (HasKidsBelow (length nodes)) (get_or-map shown keys i e (shown e) q) (all i (shown e) (omega (arith, length-map keys shown)))))) in
    let finds = finds-alike (stored_eq key) (is_equal leaf_eq d) (λ k. diagram_of ds (shown k)) keys tests in
    record {
      any = finds.0 ∙ ap (list_any (is_equal leaf_eq d)) (sym each);
      position = finds.1 ∙ ap (λ (l : List D). place l d) (sym each);
    }

-- what an insertion of a stored node says of the diagrams
pub record Inserts (keys new : List StoredNode) (key : StoredNode) (number : ℕ) : Type 0 where
  pub table : IsUniqueTable (all_shown new)
  pub nodes : diagrams (all_shown new) ≡ with_node leaf_eq (diagrams (all_shown keys)) (diagram_of (diagrams (all_shown keys)) (shown key))
  pub number_is : number ≡ node_number leaf_eq (diagrams (all_shown new)) (diagram_of (diagrams (all_shown keys)) (shown key))

pub inserts : (keys new : List StoredNode) (key : StoredNode) (number : ℕ) → IsUniqueTable (all_shown keys) → HasKidsBelow (length (all_shown keys)) (shown key)
    → new ≡ (if list_any (stored_eq key) keys then keys else keys ++ key ∷ []) → number ≡ position_or_len (stored_eq key) keys → Inserts keys new key number
inserts keys new key number table h e p = go (list_any (stored_eq key) keys) refl
  where
    go : (b : Bool) → list_any (stored_eq key) keys ≡ b → Inserts keys new key number
    go true t =
        let ds = diagrams (all_shown keys) in
        let d = diagram_of ds (shown key) in
        let found = looks-up keys key table h in
        let n : keys ≡ new = sym (rw t at e) in
        let there = there-Contains ds d (sym found.any ∙ t) in
        subst (λ (l : List StoredNode). Inserts keys l key number) n (record {
          table = table;
          nodes = sym (with_node-there ds d there);
          number_is = p ∙ found.position ∙ sym (number-place ds d (place-in ds d there));
        })
    go false t =
        let nodes = all_shown keys in
        let ds = diagrams nodes in
        let d = diagram_of ds (shown key) in
        let found = looks-up keys key table h in
        let n : keys ++ key ∷ [] ≡ new = sym (rw t at e) in
        let fresh : IsNew ds d = sym found.any ∙ t in
        let more : all_shown (keys ++ key ∷ []) ≡ nodes ++ shown key ∷ [] = map-append shown keys (key ∷ []) in
        let read : diagrams (all_shown (keys ++ key ∷ [])) ≡ ds ++ d ∷ [] = ap diagrams more ∙ diagrams_after-push [] nodes (shown key) in
        subst (λ (l : List StoredNode). Inserts keys l key number) n (record {
          table = record {
            kids_first = subst (KidsFirst 0) (sym more) (KidsFirst-push 0 nodes (shown key) table.kids_first (HasKidsBelow-more (length nodes) (0 + length nodes) (shown key) (omega arith) h));
            apart = subst AreApart (sym read) (AreApart-push ds d table.apart fresh);
          };
          nodes = read ∙ sym (with_node-new ds d fresh);
          number_is = p ∙ found.position ∙ place-new ds d fresh ∙ sym (number-push ds d fresh) ∙ ap (λ (l : List D). node_number leaf_eq l d) (sym read);
        })

-- the nodes of a table are those of its diagrams
pub nodes-back : (nodes : List (Node Leaf)) → IsUniqueTable nodes → nodes ≡ map (node_of leaf_eq (diagrams nodes)) (diagrams nodes)
nodes-back nodes table =
    let ds = diagrams nodes in
    let long : length ds ≡ length nodes = length-diagrams_after [] nodes ∙ omega arith in
    let below : All (HasKidsBelow (length nodes)) nodes = KidsFirst-all nodes table.kids_first in
    let fixed : All (λ n. node_of leaf_eq ds (diagram_of ds n) ≡ n) nodes =
    All-weaker (HasKidsBelow (length nodes)) (λ n. node_of leaf_eq ds (diagram_of ds n) ≡ n) (λ n k. node-back ds n table.apart (subst (λ (m : ℕ). HasKidsBelow m n) (sym long) k)) nodes below in
    sym (ap (map (node_of leaf_eq ds)) (diagrams-each nodes table.kids_first) ∙ map-map (node_of leaf_eq ds) (diagram_of ds) nodes ∙ map_fixed (λ n. node_of leaf_eq ds (diagram_of ds n)) nodes fixed)

pub table-none : IsUniqueTable []
table-none = record { kids_first = tt; apart = λ k h. absurd (omega arith) }
