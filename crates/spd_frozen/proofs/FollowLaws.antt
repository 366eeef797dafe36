-- Following a state from a node of a list to a leaf.
use Rattle.std.proofs.Common.{◌≡◌, ℕ, zero, suc, ◌+◌, ◌<◌, List, [], ◌∷◌, length, map, get_or, refl, ap, sym, ◌∙◌, subst, arith, Some}
use Rattle.std.specs.Prelude.{All, slice_get, slice_index, Vec}
use Rattle.std.specs.declared.alloc.Global.{Global}
use Rattle.std.proofs.lemmas.List.{get_or-map, length-map}
use Rattle.std.proofs.lemmas.List.Elements.{All-weaker}
use Rattle.std.proofs.lemmas.Option.{slice_get-get_or}
use Rattle.spd_model.specs.Reduced.{subtrees_of, Node}
use Rattle.spd_nodes.specs.declared.leaf.Leaf.{Leaf}
use Rattle.spd_frozen.specs.declared.node.Node.{Node as StoredNode}
use Rattle.spd_frozen.specs.declared.node.Node.TheVariants as Stored
use Rattle.spd_frozen.specs.Nodes.{shown, all_shown}
use Rattle.spd_frozen.specs.Frozen.{IsAfter, IsNodeAt, IsFrozen, HasKid, diagram_of, diagrams, reached, reached_among}
use Rattle.spd_frozen.specs.inner.Unique.{HasKidsBelow, KidsFirst}
use Rattle.spd_frozen.proofs.Places.{D}
use Rattle.spd_frozen.proofs.Reading.{nothing, kid_at, diagrams-each}

-- kids stand first in a list that is a diagram
kids_first : (m : ℕ) (nodes : List (Node Leaf)) → ((i : ℕ) (n : Node Leaf) → slice_get nodes i ≡ Some n → HasKidsBelow (m + i) n) → KidsFirst m nodes
kids_first m [] h = tt
kids_first m (n ∷ nodes) h = (
  subst (λ (k : ℕ). HasKidsBelow k n) (omega arith) (h 0 n refl),
  kids_first (suc m) nodes (λ i x e. subst (λ (k : ℕ). HasKidsBelow k x) (omega arith) (h (suc i) x e)),
)

kids_below : (nodes : List (Node Leaf)) (i : ℕ) (n : Node Leaf) → IsNodeAt nodes i n → HasKidsBelow (0 + i) n
kids_below nodes i (Node.leaf x) h = tt
kids_below nodes i (Node.branch v kids) h = All-weaker (λ k. (k < i) × IsAfter v (slice_get nodes k)) (λ k. k < 0 + i) (λ k p. (let q : k < i = p.0 in omega arith)) kids h.1

pub frozen-kids_first : (nodes : List (Node Leaf)) → IsFrozen nodes → KidsFirst 0 nodes
frozen-kids_first nodes h = kids_first 0 nodes (λ i n e. kids_below nodes i n (h.each i n e))

-- a subtree by its place
pub reached_among-at : (s : List ℕ) (v : ℕ) (ds : List D) → v < length ds → reached_among s v (subtrees_of ds) ≡ reached s (get_or ds v nothing)
reached_among-at s v [] h = absurd (omega arith)
reached_among-at s zero (d ∷ ds) h = refl
reached_among-at s (suc v) (d ∷ ds) h = reached_among-at s v ds (omega arith)

-- the diagram of a node
pub diagram-at : (nodes : List (Node Leaf)) (i : ℕ) (n : Node Leaf) → KidsFirst 0 nodes → i < length nodes → get_or nodes i n ≡ n → kid_at (diagrams nodes) i ≡ diagram_of (diagrams nodes) n
diagram-at nodes i n h within e =
    ap (λ (l : List D). get_or l i nothing) (diagrams-each nodes h) ∙ get_or-map (diagram_of (diagrams nodes)) nodes i n nothing within ∙ ap (diagram_of (diagrams nodes)) e

-- what a stored node stands for, in the list of all
shown-at : (items : List StoredNode) (i : ℕ) (node n : StoredNode) → i < length items → node ≡ get_or items i node → node ≡ n → get_or (all_shown items) i (shown n) ≡ shown n
shown-at items i node n within e is = get_or-map shown items i node (shown n) within ∙ ap shown (sym e ∙ is)

pub at-leaf : (items : List StoredNode) (s : List ℕ) (i : ℕ) (node : StoredNode) (x : Leaf) → IsFrozen (all_shown items) → i < length items → node ≡ get_or items i node → node ≡ Stored.Leaf x
    → reached s (kid_at (diagrams (all_shown items)) i) ≡ x
at-leaf items s i node x h within e is =
    ap (reached s) (diagram-at (all_shown items) i (Node.leaf x) (frozen-kids_first (all_shown items) h) (omega (arith, length-map items shown)) (shown-at items i node (Stored.Leaf x) within e is))

-- a step from a branch to the kid for the state's value
pub record Steps (s : List ℕ) (nodes : List (Node Leaf)) (i var : ℕ) (kids : List ℕ) : Type 0 where
  pub var_in : var < length s
  pub kid_in : slice_index s var < length kids
  pub smaller : (k : ℕ) → k ≡ get_or kids (slice_index s var) k → k < i
  pub same : (k : ℕ) → k ≡ get_or kids (slice_index s var) k → reached s (kid_at (diagrams nodes) i) ≡ reached s (kid_at (diagrams nodes) k)

pub at-branch : (items : List StoredNode) (s : List ℕ) (i : ℕ) (node : StoredNode) (var : ℕ) (kids : Vec ℕ Global) → IsFrozen (all_shown items) → All (HasKid s) (all_shown items)
    → i < length items → node ≡ get_or items i node → node ≡ Stored.Branch var kids → Steps s (all_shown items) i var kids.items
at-branch items s i node var kids h has within e is =
    let nodes = all_shown items in
    let ds = diagrams nodes in
    let n : Node Leaf = Node.branch var kids.items in
    let in' : i < length nodes = omega (arith, length-map items shown) in
    let stands : get_or nodes i n ≡ n = shown-at items i node (Stored.Branch var kids) within e is in
    let kid : HasKid s n = subst (HasKid s) stands (has i n in') in
    let fits : IsNodeAt nodes i n = h.each i n (slice_get-get_or nodes i n in' ∙ ap Some stands) in
    let v = slice_index s var in
    record {
      var_in = kid.0;
      kid_in = kid.1;
      smaller = λ k q. (let both = fits.1 v k kid.1 in subst (λ (j : ℕ). j < i) (sym q) both.0);
      same = λ k q. ap (reached s) (diagram-at nodes i n (frozen-kids_first nodes h) in' stands)
          ∙ reached_among-at s v (map (kid_at ds) kids.items) (omega (arith, length-map kids.items (kid_at ds), kid.1))
          ∙ ap (reached s) (get_or-map (kid_at ds) kids.items v k nothing kid.1 ∙ ap (kid_at ds) (sym q));
    }
