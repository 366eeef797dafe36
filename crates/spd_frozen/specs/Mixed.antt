-- The nodes of a diagram over present and next values, and the list of a function.
use Rattle.std.specs.Prelude.{ℕ, List, map, false}
use Rattle.spd_model.specs.Reduced.{Node}
use Rattle.spd_nodes.specs.declared.leaf.Leaf.{Leaf}
use Rattle.spd_nodes.specs.Levels.{slots, slot_of}
use Rattle.spd_nodes.specs.States.{Function, plain_part, primed_part}
use Rattle.spd_frozen.specs.declared.mixed.MixedNode.{MixedNode as StoredNode}
use Rattle.spd_frozen.specs.declared.mixed.MixedNode.TheVariants as Stored
use Rattle.spd_frozen.specs.declared.node.Node.{Node as PlainNode}
use Rattle.spd_frozen.specs.declared.node.Node.TheVariants as Plain
use Rattle.spd_frozen.specs.Frozen.{frozen_of}

-- the node that a stored one stands for: a branch is on the slot of its variable
abbrev pub slotted : StoredNode → Node Leaf
slotted (Stored.Leaf x) = Node.leaf x
slotted (Stored.Branch var primed kids) = Node.branch (slot_of var primed) kids.items

abbrev pub all_slotted : List StoredNode → List (Node Leaf)
all_slotted nodes = map slotted nodes

-- the reduced diagram of a function of a present and a next state, as a list of nodes in order of first completion
abbrev pub mixed_of : List ℕ → Function → List (Node Leaf)
mixed_of sizes f = frozen_of (slots sizes) (λ p. f (plain_part p) (primed_part p))

-- a branch on a variable's present value
abbrev pub on_plain_slot : Node Leaf → Node Leaf
on_plain_slot (Node.leaf x) = Node.leaf x
on_plain_slot (Node.branch var kids) = Node.branch (slot_of var false) kids

-- a stored node with its branch on the same variable's present value
abbrev pub plain_of : StoredNode → PlainNode
plain_of (Stored.Leaf x) = Plain.Leaf x
plain_of (Stored.Branch var primed kids) = Plain.Branch var kids
