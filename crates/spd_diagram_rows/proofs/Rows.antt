-- The definitions of levels, test trees and operations on small cases.
use Rattle.std.proofs.Common.{◌≡◌, ℕ, ◌+ℤ◌, ◌==◌, true, false, cond, List, [], ◌∷◌, refl, pos, negsuc}
use Rattle.spd_nodes.specs.declared.leaf.Leaf.TheVariants.{Num, Pair, Act}
use Rattle.spd_nodes.specs.Levels.{level_at, levels_of, slots}
use Rattle.spd_nodes.specs.Refs.{node_count}
use Rattle.spd_nodes.specs.States.{Function, point, test_tree, function_of}
use Rattle.spd_nodes.specs.Trees.{Tree, Ends, Tests}
use Rattle.spd_apply.specs.Leaves.{leaf_before}
use Rattle.spd_apply.specs.Operations.{num_of, first_greater, kept_of}
use Rattle.spd_apply.specs.Outcome.{at_each}
use Rattle.spd_apply.specs.Rounding.{floor_by, ceil_by}
use Rattle.spd_restrict.specs.Chosen.{variable_value}

-- variables of 2, 3 and 1 values: x' has level 0, x level 1, y' levels 2 and 3, y levels 4 and 5, z none
abbrev sizes : List ℕ
sizes = 2 ∷ 3 ∷ 1 ∷ []

levels : (level_at sizes 0 true 0 ≡ 0) × (level_at sizes 0 false 0 ≡ 1) × (level_at sizes 1 true 0 ≡ 2) × (level_at sizes 1 true 1 ≡ 3) × (level_at sizes 1 false 0 ≡ 4) × (level_at sizes 1 false 1 ≡ 5)
    × (levels_of (slots sizes) ≡ 6)
levels = (refl, refl, refl, refl, refl, refl, refl)

-- a point has each variable's next value before its present one
points : point (1 ∷ 2 ∷ 0 ∷ []) (0 ∷ 1 ∷ 0 ∷ []) ≡ 0 ∷ 1 ∷ 1 ∷ 2 ∷ 0 ∷ 0 ∷ []
points = refl

-- the indicators of two variables' first values: three nodes each, and six of their sum
abbrev x-first : Function
x-first s t = cond (variable_value 0 false s t == 0) (Num (pos 1)) (Num (pos 0))

abbrev y-first : Function
y-first s t = cond (variable_value 1 false s t == 0) (Num (pos 1)) (Num (pos 0))

x-nodes : node_count (test_tree (2 ∷ 2 ∷ []) x-first) ≡ 3
x-nodes = refl

sum-nodes : node_count (test_tree (2 ∷ 2 ∷ []) (at_each (num_of (λ a b. a +ℤ b)) x-first y-first)) ≡ 6
sum-nodes = refl

-- With three values, the test of value 1 alone and a tree that tests value 0 first agree at every value.
abbrev later : Tree
later = Tests 1 (Ends (Num (pos 5))) (Ends (Num (pos 6)))

abbrev whole : Tree
whole = Tests 0 (Ends (Num (pos 6))) later

three-values : (function_of (3 ∷ []) later (0 ∷ []) (0 ∷ []) ≡ function_of (3 ∷ []) whole (0 ∷ []) (0 ∷ []))
    × (function_of (3 ∷ []) later (0 ∷ []) (1 ∷ []) ≡ function_of (3 ∷ []) whole (0 ∷ []) (1 ∷ []))
    × (function_of (3 ∷ []) later (0 ∷ []) (2 ∷ []) ≡ function_of (3 ∷ []) whole (0 ∷ []) (2 ∷ []))
three-values = (refl, refl, refl)

-- a tie of two pairs goes to the left one
tie : first_greater (Pair (pos 1) (pos 10)) (Pair (pos 1) (pos 11)) ≡ Pair (pos 1) (pos 10)
tie = refl

-- a Pair keeps its second number, unless its first one is the number that is asked for
kept : (kept_of 7 (Pair (pos 7) (pos 1)) (Num (pos 9)) ≡ Pair (pos 7) (pos 9)) × (kept_of 7 (Pair (pos 8) (pos 1)) (Num (pos 9)) ≡ Pair (pos 8) (pos 1))
kept = (refl, refl)

-- -7 / 2 is -4 rounded down and -3 rounded up
rounded : (floor_by (pos 2) (Num (negsuc 6)) ≡ Num (negsuc 3)) × (ceil_by (pos 2) (Num (negsuc 6)) ≡ Num (negsuc 2))
rounded = (refl, refl)

-- Num before Pair before Act
order : (leaf_before (Num (pos 9)) (Pair (negsuc 0) (pos 4)) ≡ true) × (leaf_before (Pair (pos 1) (pos 4)) (Pair (pos 1) (pos 4)) ≡ false) × (leaf_before (Act 7) (Num (pos 0)) ≡ false)
order = (refl, refl, refl)
