-- The definitions on small diagrams: variables x and y with two values, present values alone.
use Rattle.std.proofs.Common.{◌≡◌, ◌==◌, false, cond, [], ◌∷◌, refl, pos}
use Rattle.spd_nodes.specs.declared.leaf.Leaf.TheVariants.{Num}
use Rattle.spd_nodes.specs.Refs.{node_count}
use Rattle.spd_nodes.specs.States.{Function, test_tree}
use Rattle.spd_nodes.specs.Trees.{Ends, Tests}
use Rattle.spd_restrict.specs.Chosen.{chosen, chosen_from, variable_value}
use Rattle.spd_restrict.specs.Primed.{primed}
use Rattle.spd_restrict.specs.Restricted.{restricted}

-- 1 where x has its first value, else 0; likewise y; and their sum
abbrev f : Function
f s t = cond (variable_value 0 false s t == 0) (Num (pos 1)) (Num (pos 0))

abbrev g : Function
g s t = cond (variable_value 1 false s t == 0) (Num (pos 1)) (Num (pos 0))

abbrev zero : Function
zero s t = Num (pos 0)

f-tree : test_tree (2 ∷ 2 ∷ []) f ≡ Tests 1 (Ends (Num (pos 1))) (Ends (Num (pos 0)))
f-tree = refl

-- primed it tests x's next value
f-primed : test_tree (2 ∷ 2 ∷ []) (primed f) ≡ Tests 0 (Ends (Num (pos 1))) (Ends (Num (pos 0)))
f-primed = refl

-- at x's first value it is 1
f-restricted : test_tree (2 ∷ 2 ∷ []) (restricted 0 false 0 f) ≡ Ends (Num (pos 1))
f-restricted = refl

-- g where x has its first value, else 0: four nodes
choice : node_count (test_tree (2 ∷ 2 ∷ []) (chosen 0 false (g ∷ zero ∷ []))) ≡ 4
choice = refl

-- of three kids of a variable with three values, from its second value on: elsewhere it is the last one
from-second : test_tree (3 ∷ []) (chosen_from 1 0 false ((λ s t. Num (pos 5)) ∷ (λ s t. Num (pos 6)) ∷ (λ s t. Num (pos 7)) ∷ []))
    ≡ Tests 2 (Ends (Num (pos 7))) (Tests 3 (Ends (Num (pos 6))) (Ends (Num (pos 7))))
from-second = refl
