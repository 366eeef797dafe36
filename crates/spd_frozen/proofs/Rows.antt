-- The list of a function's diagram, and its leaf at a state, computed on small tables by hand.
use Rattle.std.proofs.Common.{◌≡◌, ℕ, List, [], ◌∷◌, pos, map, refl}
use Rattle.spd_model.specs.Reduced.{Node}
use Rattle.spd_nodes.specs.declared.leaf.Leaf.{Leaf}
use Rattle.spd_nodes.specs.declared.leaf.Leaf.TheVariants.{Num, Act}
use Rattle.spd_frozen.specs.Frozen.{frozen_of, entry_at, leaf_at}

-- one variable of two values
one_variable : frozen_of (2 ∷ []) (entry_at (2 ∷ []) (Num (pos 1968750000) ∷ Num (pos 0) ∷ []))
    ≡ Node.leaf (Num (pos 1968750000)) ∷ Node.leaf (Num (pos 0)) ∷ Node.branch 0 (0 ∷ 1 ∷ []) ∷ []
one_variable = refl

-- three variables, the second of which has one value
abbrev three : List ℕ
three = 2 ∷ 1 ∷ 3 ∷ []

abbrev values : List Leaf
values = map Num (pos 1933333332 ∷ pos 1933333332 ∷ pos 759444445 ∷ pos 759444445 ∷ pos 172777778 ∷ pos 172777778 ∷ [])

abbrev value_nodes : List (Node Leaf)
value_nodes =
    Node.leaf (Num (pos 1933333332)) ∷ Node.leaf (Num (pos 759444445)) ∷ Node.branch 2 (0 ∷ 0 ∷ 1 ∷ []) ∷ Node.leaf (Num (pos 172777778)) ∷ Node.branch 2 (1 ∷ 3 ∷ 3 ∷ [])
    ∷ Node.branch 0 (2 ∷ 4 ∷ []) ∷ []

three_variables : frozen_of three (entry_at three values) ≡ value_nodes
three_variables = refl

a_policy : frozen_of three (entry_at three (map Act (1 ∷ 1 ∷ 1 ∷ 0 ∷ 0 ∷ 0 ∷ []))) ≡ Node.leaf (Act 1) ∷ Node.leaf (Act 0) ∷ Node.branch 0 (0 ∷ 1 ∷ []) ∷ []
a_policy = refl

a_state : leaf_at value_nodes (1 ∷ 0 ∷ 2 ∷ []) ≡ Num (pos 172777778)
a_state = refl
