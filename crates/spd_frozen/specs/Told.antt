-- What an iterate tells, as the definition of the result's text reads it.
use Rattle.std.specs.Prelude.{ℕ, map, ℤ, pos}
use Rattle.spd_model.specs.Reduced.{Node}
use Rattle.spd_model.specs.ResultText.{Iterate as Told}
use Rattle.spd_nodes.specs.declared.leaf.Leaf.{Leaf}
use Rattle.spd_nodes.specs.declared.leaf.Leaf.TheVariants.{Num, Pair, Act}
use Rattle.spd_frozen.specs.declared.iterate.Iterate.{Iterate}

-- a node with other leaves
abbrev pub with_leaf : {X Y : Type 0} → (X → Y) → Node X → Node Y
with_leaf change (Node.leaf x) = Node.leaf (change x)
with_leaf change (Node.branch var kids) = Node.branch var kids

-- the number of a leaf that is a number, and the action of one that is an action
abbrev pub number_of : Leaf → ℤ
number_of (Num x) = x
number_of (Pair x y) = pos 0
number_of (Act a) = pos 0

abbrev pub action_of : Leaf → ℕ
action_of (Num x) = 0
action_of (Pair x y) = 0
action_of (Act a) = a

-- what an iterate tells: the numbers of its value's leaves, and the actions of its policy's
abbrev pub told : Iterate → Told
told x = record {
  turn = x.turn;
  residual = x.residual.r;
  place = record { state = x.residual.at; side = x.residual.side; action = x.residual.action };
  error = x.error;
  value = map (with_leaf number_of) x.value;
  policy = map (with_leaf action_of) x.policy;
}
