-- Diagrams as lists of nodes: which lists are diagrams, what they come to at a state, and the list of a function.
use Rattle.std.specs.Prelude.{◌≡◌, ℕ, zero, suc, ◌-◌, ◌<◌, List, [], ◌∷◌, ◌++◌, length, map, pos, slice_index, slice_index_or, slice_get, Option, Some, None, All}
use Rattle.spd_model.specs.Reduced.{Diagram, Subtrees, none, also, subtrees_of, Node, listed, reduced}
use Rattle.spd_model.specs.States.{rank}
use Rattle.spd_nodes.specs.Trees.{leaf_eq}
use Rattle.spd_nodes.specs.declared.leaf.Leaf.{Leaf}
use Rattle.spd_nodes.specs.declared.leaf.Leaf.TheVariants.{Num}

-- the reduced diagram of a function of states, as a list of nodes in order of first completion
abbrev pub frozen_of : List ℕ → (List ℕ → Leaf) → List (Node Leaf)
frozen_of sizes f = listed leaf_eq (reduced leaf_eq sizes f)

-- what a table with one leaf for each state has at a state
abbrev pub entry_at : List ℕ → List Leaf → List ℕ → Leaf
entry_at sizes leaves s = slice_index_or leaves (rank sizes s) (Num (pos 0))

-- the variable of a node stands after this one; a leaf has none
abbrev pub IsAfter : ℕ → Option (Node Leaf) → Type 0
IsAfter var None = ⊥
IsAfter var (Some (Node.leaf x)) = Unit {0}
IsAfter var (Some (Node.branch w kids)) = var < w

-- a branch has a kid, each kid's number is smaller than its own, and each kid's variable stands after its own
abbrev pub IsNodeAt : List (Node Leaf) → ℕ → Node Leaf → Type 0
IsNodeAt nodes i (Node.leaf x) = Unit {0}
IsNodeAt nodes i (Node.branch var kids) = (0 < length kids) × All (λ k. (k < i) × IsAfter var (slice_get nodes k)) kids

-- a list of nodes is a diagram, whose root is the last one
pub record IsFrozen (nodes : List (Node Leaf)) : Type 0 where
  pub some : 0 < length nodes
  pub each : (i : ℕ) (node : Node Leaf) → slice_get nodes i ≡ Some node → IsNodeAt nodes i node

-- the diagram of a node, where the nodes before it are these diagrams
abbrev pub diagram_of : List (Diagram Leaf) → Node Leaf → Diagram Leaf
diagram_of before (Node.leaf x) = Diagram.leaf x
diagram_of before (Node.branch var kids) =
    Diagram.branch var (subtrees_of (map (λ k. slice_index_or before k (Diagram.leaf (Num (pos 0)))) kids))

-- the diagrams of all nodes of a list, in order, after those of `before`
abbrev pub diagrams_after : List (Diagram Leaf) → List (Node Leaf) → List (Diagram Leaf)
diagrams_after before [] = before
diagrams_after before (node ∷ nodes) = diagrams_after (before ++ diagram_of before node ∷ []) nodes

abbrev pub diagrams : List (Node Leaf) → List (Diagram Leaf)
diagrams nodes = diagrams_after [] nodes

-- the leaf of a diagram at a state
abbrev mutual
  pub reached : List ℕ → Diagram Leaf → Leaf
  reached s (Diagram.leaf x) = x
  reached s (Diagram.branch var ds) = reached_among s (slice_index s var) ds

  pub reached_among : List ℕ → ℕ → Subtrees Leaf → Leaf
  reached_among s v none = Num (pos 0)
  reached_among s zero (also d ds) = reached s d
  reached_among s (suc v) (also d ds) = reached_among s v ds

-- what a list of nodes has at a state: the leaf of its root
abbrev pub leaf_at : List (Node Leaf) → List ℕ → Leaf
leaf_at nodes s = reached s (slice_index_or (diagrams nodes) (length nodes - 1) (Diagram.leaf (Num (pos 0))))

-- a branch has a kid for the state's value of its variable
abbrev pub HasKid : List ℕ → Node Leaf → Type 0
HasKid s (Node.leaf x) = Unit {0}
HasKid s (Node.branch var kids) = (var < length s) × (slice_index s var < length kids)
