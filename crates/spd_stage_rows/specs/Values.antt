-- Leaves that are values.
use Rattle.std.specs.Prelude.{Bool, false, nat_le, unsigned_abs}
use Rattle.spd_nodes.specs.declared.leaf.Leaf.{Leaf}
use Rattle.spd_nodes.specs.declared.leaf.Leaf.TheVariants.{Num, Pair, Act}

-- whether a leaf is a number of at most (10^18 + 1) * 10^6 units of 10^-9 in magnitude
abbrev pub is_value : Leaf → Bool
is_value (Num x) = nat_le (unsigned_abs x) 1000000000000000001000000
is_value (Pair x y) = false
is_value (Act a) = false
