-- What freezing keeps of a forest: entries with their nodes, in order of first completion.
use Rattle.std.specs.Prelude.{◌≡◌, ℕ, ◌<◌, ◌⊎◌, List, [], ◌∷◌, ◌++◌, length, map, All, Contains, true, slice_get, Some}
use Rattle.spd_cons_core.specs.declared.key.Entry.{Entry}
use Rattle.spd_model.specs.Reduced.{Diagram, Subtrees, none, Node, reduced, nodes_after, nodes_after_all, node_number}
use Rattle.spd_nodes.specs.declared.leaf.Leaf.{Leaf}
use Rattle.spd_nodes.specs.Levels.{slots}
use Rattle.spd_nodes.specs.Trees.{leaf_eq}
use Rattle.spd_nodes.specs.States.{plain_part, primed_part}
use Rattle.spd_nodes.specs.Shown.{Shown, IsWhole, meaning}
use Rattle.spd_frozen.specs.Frozen.{diagram_of, diagrams}
use Rattle.spd_frozen.specs.inner.Unique.{HasKidsBelow, HasSubtreesAmong, IsClosed, IsUniqueTable}

-- the reduced diagram of an entry's function over the slots
abbrev pub slot_diagram : Shown → Entry → Diagram Leaf
slot_diagram s r = reduced leaf_eq (slots s.sizes) (λ p. meaning s r (plain_part p) (primed_part p))

-- a known whole entry
abbrev pub IsRoot : Shown → Entry → Type 0
IsRoot s r = (s.knows r ≡ true) × IsWhole s r

-- entries in order, and the node of each one's diagram
pub record HoldsNodes (s : Shown) (refs : List Entry) (nodes : List (Node Leaf)) : Type 0 where
  pub roots : All (IsRoot s) refs
  pub read : diagrams nodes ≡ map (slot_diagram s) refs
  pub table : IsUniqueTable nodes
  pub closed : IsClosed (diagrams nodes)

-- the subtrees of a diagram's root
abbrev pub kids_of : Diagram Leaf → Subtrees Leaf
kids_of (Diagram.leaf x) = none
kids_of (Diagram.branch v es) = es

-- all nodes of a diagram were completed; the root has this number
pub record IsCompleted (s : Shown) (old : List (Node Leaf)) (refs : List Entry) (nodes : List (Node Leaf)) (d : Diagram Leaf) (number : ℕ) : Type 0 where
  pub holds : HoldsNodes s refs nodes
  pub nodes_are : diagrams nodes ≡ nodes_after leaf_eq (diagrams old) d
  pub number_is : number ≡ node_number leaf_eq (diagrams nodes) d

-- all nodes of a diagram but its root were completed; this is the root's node
pub record IsNext (s : Shown) (old : List (Node Leaf)) (refs : List Entry) (nodes : List (Node Leaf)) (d : Diagram Leaf) (node : Node Leaf) : Type 0 where
  pub holds : HoldsNodes s refs nodes
  pub nodes_are : diagrams nodes ≡ nodes_after_all leaf_eq (diagrams old) (kids_of d)
  pub below : HasKidsBelow (length nodes) node
  pub among : HasSubtreesAmong (diagrams nodes) d
  pub stands : diagram_of (diagrams nodes) node ≡ d

-- an entry and its node were put in the last place, or the entry was there; this is its place
abbrev pub AddsNode : List Entry → List Entry → List (Node Leaf) → List (Node Leaf) → Entry → Node Leaf → ℕ → Type 0
AddsNode refs new_refs nodes new_nodes r node place =
    ((new_refs ≡ refs) × (new_nodes ≡ nodes) × (slice_get refs place ≡ Some r)) ⊎ ((new_refs ≡ refs ++ r ∷ []) × (new_nodes ≡ nodes ++ node ∷ []) × (place ≡ length refs) × ¬ Contains refs r)
