-- How a state is followed through a list of nodes.
use Rattle.std.specs.Prelude.{◌≡◌, ℕ, ◌<◌, List, pos, slice_index_or}
use Rattle.spd_model.specs.Reduced.{Diagram, Node}
use Rattle.spd_nodes.specs.declared.leaf.Leaf.{Leaf}
use Rattle.spd_nodes.specs.declared.leaf.Leaf.TheVariants.{Num}
use Rattle.spd_frozen.specs.declared.frozen.Step.{Step}
use Rattle.spd_frozen.specs.Frozen.{diagrams, reached}

-- the leaf at a state from a node on
abbrev pub leaf_from : List (Node Leaf) → List ℕ → ℕ → Leaf
leaf_from nodes s node = reached s (slice_index_or (diagrams nodes) node (Diagram.leaf (Num (pos 0))))

-- a step from a node: the node is this leaf, or this node before it leads to the same leaf
abbrev pub Leads : List (Node Leaf) → List ℕ → ℕ → Step → Type 0
Leads nodes s node (Step.Leaf leaf) = leaf_from nodes s node ≡ leaf
Leads nodes s node (Step.Kid kid) = (kid < node) × (leaf_from nodes s kid ≡ leaf_from nodes s node)
