-- Merging, computed on a variable with three values.
use Rattle.std.proofs.Common.{◌≡◌, ℕ, true, false, slice_index, slice_index_or, ℤ, pos, negsuc, List, [], ◌∷◌, map, refl}
use Rattle.spd_model.specs.States.{states}
use Rattle.spd_nodes.specs.declared.leaf.Leaf.{Leaf}
use Rattle.spd_nodes.specs.declared.leaf.Leaf.TheVariants.{Num, Pair}
use Rattle.spd_nodes.specs.States.{Function}
use Rattle.spd_ranges.specs.Merging.{at_most, groups_over, group_ranges, group_values, paired}
use Rattle.spd_ranges.specs.inner.Groups.{found_in, middle_leaf, told_by}

abbrev sizes : List ℕ
sizes = 3 ∷ []

-- a number for each value that the variable has
abbrev by_value : ℤ → ℤ → ℤ → Function
by_value x y z s t = Num (slice_index_or (x ∷ y ∷ z ∷ []) (slice_index s 0) (pos 0))

-- what a function has at each present state
abbrev leaves : Function → List Leaf
leaves f = map (λ s. f s s) (states sizes)

-- 0, 1 and 2 in tenths: a span of one joins the first two
abbrev steps : Function
steps = paired (by_value (pos 0) (pos 10) (pos 20)) (by_value (pos 0) (pos 10) (pos 20))

steps-ranges : leaves (group_ranges sizes (pos 10) steps) ≡ Pair (pos 0) (pos 10) ∷ Pair (pos 0) (pos 10) ∷ Pair (pos 20) (pos 20) ∷ []
steps-ranges = refl

steps-values : leaves (group_values sizes (pos 10) steps) ≡ Num (pos 5) ∷ Num (pos 5) ∷ Num (pos 20) ∷ []
steps-values = refl

-- twice the span joins all three
steps-all : leaves (group_values sizes (pos 20) steps) ≡ Num (pos 10) ∷ Num (pos 10) ∷ Num (pos 10) ∷ []
steps-all = refl

-- without a span each pair stays alone
steps-alone : leaves (group_ranges sizes (pos 0) steps) ≡ leaves steps
steps-alone = refl

-- a first pair wider than the span is a group alone, and the next two are one
abbrev wide : Function
wide = paired (by_value (pos 2) (pos 0) (pos 1)) (by_value (pos 2) (pos 5) (pos 1))

wide-ranges : leaves (group_ranges sizes (pos 1) wide) ≡ Pair (pos 1) (pos 2) ∷ Pair (pos 0) (pos 5) ∷ Pair (pos 1) (pos 2) ∷ []
wide-ranges = refl

-- the middle of -3 and 2 is rounded down
abbrev below : Function
below = paired (by_value (pos 8) (negsuc 2) (pos 8)) (by_value (pos 9) (pos 2) (pos 9))

below-values : leaves (group_values sizes (pos 5) below) ≡ Num (pos 8) ∷ Num (negsuc 0) ∷ Num (pos 8) ∷ []
below-values = refl

below-middle : middle_leaf (Pair (negsuc 2) (pos 2)) ≡ Num (negsuc 0)
below-middle = refl

-- one lower end may begin several groups, and a pair is found in its own
abbrev tied : Function
tied = paired (by_value (pos 0) (pos 0) (pos 0)) (by_value (pos 1) (pos 3) (pos 0))

tied-ranges : leaves (group_ranges sizes (pos 1) tied) ≡ Pair (pos 0) (pos 1) ∷ Pair (pos 0) (pos 3) ∷ Pair (pos 0) (pos 1) ∷ []
tied-ranges = refl

tied-found : map (found_in (map told_by (groups_over sizes (pos 1) tied))) (leaves tied) ≡ leaves (group_ranges sizes (pos 1) tied)
tied-found = refl

-- pairs that the next state alone tells apart count too
abbrev next : Function
next s t = steps t s

next-values : map (group_values sizes (pos 10) next (0 ∷ [])) (states sizes) ≡ Num (pos 5) ∷ Num (pos 5) ∷ Num (pos 20) ∷ []
next-values = refl

-- only numbers in order may be merged
in-order : (at_most (Num (pos 1)) (Num (pos 1)) ≡ true) × (at_most (Num (pos 1)) (Num (pos 0)) ≡ false) × (at_most (Pair (pos 0) (pos 0)) (Num (pos 1)) ≡ false)
in-order = (refl, refl, refl)
