-- The nodes of a list, as the definitions see them.
use Rattle.std.specs.Prelude.{List, map}
use Rattle.spd_model.specs.Reduced.{Node}
use Rattle.spd_nodes.specs.declared.leaf.Leaf.{Leaf}
use Rattle.spd_frozen.specs.declared.node.Node.{Node as StoredNode}
use Rattle.spd_frozen.specs.declared.node.Node.TheVariants as Stored

-- the node that a stored one stands for
abbrev pub shown : StoredNode → Node Leaf
shown (Stored.Leaf x) = Node.leaf x
shown (Stored.Branch var kids) = Node.branch var kids.items

abbrev pub all_shown : List StoredNode → List (Node Leaf)
all_shown nodes = map shown nodes
