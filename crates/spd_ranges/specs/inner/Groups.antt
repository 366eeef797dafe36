-- Groups of ranges in order, each told by its first range and its greatest upper end.
use Rattle.std.specs.Prelude.{◌≡◌, ℕ, Bool, false, ◌||◌, ◌&&◌, if◌then◌else◌, List, [], ◌∷◌, ℤ, pos, ◌+ℤ◌, int_le, int_lt}
use Rattle.std.specs.Ordering.{int_eq}
use Rattle.spd_scaled.specs.Scaled.{floor_div}
use Rattle.spd_model.specs.Ranges.{Range, is_before}
use Rattle.spd_model.specs.Ranges.{Group as Merged}
use Rattle.spd_model.specs.States.{IsState}
use Rattle.spd_nodes.specs.States.{Function}
use Rattle.spd_ranges.specs.Merging.{groups_over, range_leaf}
use Rattle.spd_nodes.specs.declared.leaf.Leaf.{Leaf}
use Rattle.spd_nodes.specs.declared.leaf.Leaf.TheVariants.{Num, Pair, Act}
use Rattle.spd_ranges.specs.declared.groups.Group.{Group}

-- the first range of a group
abbrev pub first_of : Group → Range
first_of g = record { low = g.low; high = g.first_high }

-- the group of one range
abbrev pub begun_by : Range → Group
begun_by p = record { low = p.low; first_high = p.high; high = p.high }

-- whether a group's first range stands before another one's
abbrev pub stands_before : Group → Group → Bool
stands_before g h = is_before (first_of g) (first_of h)

-- whether a group begins with a range or before it
abbrev pub begins_by : Range → Group → Bool
begins_by p g = int_lt g.low p.low || (int_eq g.low p.low && int_le g.first_high p.high)

-- the range of the last of some groups in order that begins with a range or before it, or else a leaf
abbrev pub last_begun : List Group → Range → Leaf → Leaf
last_begun [] p a = a
last_begun (g ∷ gs) p a = if begins_by p g then last_begun gs p (Pair g.low g.high) else a

-- that of a leaf that is a pair
abbrev pub found_in : List Group → Leaf → Leaf
found_in groups (Num a) = Num a
found_in groups (Pair a x) = last_begun groups (record { low = a; high = x }) (Pair a x)
found_in groups (Act a) = Act a

-- whether a leaf is a pair that is a range: its first number is at most its second one
abbrev pub is_range : Leaf → Bool
is_range (Num a) = false
is_range (Pair a x) = int_le a x
is_range (Act a) = false

-- the middle of a pair, rounded down
abbrev pub middle_leaf : Leaf → Leaf
middle_leaf (Num a) = Num a
middle_leaf (Pair a x) = Num (floor_div (a +ℤ x) (pos 2))
middle_leaf (Act a) = Act a

-- a group of the merge rule, told by its first range and its greatest upper end
abbrev pub told_by : Merged → Group
told_by g = elim g.members [ [] ↦ record { low = g.low; first_high = g.high; high = g.high } | p ∷ ps ↦ record { low = g.low; first_high = p.high; high = g.high } ]

-- some groups find the range of the group of each pair that a function has
pub record Finds (sizes : List ℕ) (span : ℤ) (pairs : Function) (groups : List Group) : Type 0 where
  pub at : (s t : List ℕ) → IsState sizes s → IsState sizes t → found_in groups (pairs s t) ≡ range_leaf (groups_over sizes span pairs) (pairs s t)
