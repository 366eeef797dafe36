-- The function for which a list of nodes stands.
use Rattle.std.specs.Prelude.{List}
use Rattle.spd_model.specs.Reduced.{Node}
use Rattle.spd_nodes.specs.declared.leaf.Leaf.{Leaf}
use Rattle.spd_nodes.specs.States.{Function, point}
use Rattle.spd_frozen.specs.Frozen.{leaf_at}

-- of a list over the variables: a function of the present state
abbrev pub frozen_function : List (Node Leaf) → Function
frozen_function nodes s t = leaf_at nodes s

-- of a list over the slots
abbrev pub mixed_function : List (Node Leaf) → Function
mixed_function nodes s t = leaf_at nodes (point s t)
