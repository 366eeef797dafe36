-- The maps that divide, by a number above 0. Where a leaf is no Num, a map isn't defined, and its value here is the leaf.
use Rattle.std.specs.Prelude.{◌&&◌, Bool, false, ℤ, pos, int_lt, ◌*ℤ◌}
use Rattle.spd_scaled.specs.Scaled.{floor_div, ceil_div}
use Rattle.spd_nodes.specs.declared.leaf.Leaf.{Leaf}
use Rattle.spd_nodes.specs.declared.leaf.Leaf.TheVariants.{Num, Pair, Act}
use Rattle.spd_apply.specs.Operations.{in_i128}

-- whether a leaf is a Num and the divisor is above 0
abbrev pub by_fits : ℤ → Leaf → Bool
by_fits d (Num a) = int_lt (pos 0) d
by_fits d (Pair a x) = false
by_fits d (Act a) = false

-- a Num over a divisor, rounded down
abbrev pub floor_by : ℤ → Leaf → Leaf
floor_by d (Num a) = Num (floor_div a d)
floor_by d (Pair a x) = Pair a x
floor_by d (Act a) = Act a

-- a Num over a divisor, rounded up
abbrev pub ceil_by : ℤ → Leaf → Leaf
ceil_by d (Num a) = Num (ceil_div a d)
ceil_by d (Pair a x) = Pair a x
ceil_by d (Act a) = Act a

-- whether a leaf is a Num, the divisor is above 0 and the product is in range
abbrev pub times_fits : ℤ → ℤ → Leaf → Bool
times_fits g gd (Num a) = int_lt (pos 0) gd && in_i128 (g *ℤ a)
times_fits g gd (Pair a x) = false
times_fits g gd (Act a) = false

-- a Num times a number over a divisor, rounded down
abbrev pub times_floor : ℤ → ℤ → Leaf → Leaf
times_floor g gd (Num a) = Num (floor_div (g *ℤ a) gd)
times_floor g gd (Pair a x) = Pair a x
times_floor g gd (Act a) = Act a

-- a Num times a number over a divisor, rounded up
abbrev pub times_ceil : ℤ → ℤ → Leaf → Leaf
times_ceil g gd (Num a) = Num (ceil_div (g *ℤ a) gd)
times_ceil g gd (Pair a x) = Pair a x
times_ceil g gd (Act a) = Act a
