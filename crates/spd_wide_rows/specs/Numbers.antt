-- Leaves that are numbers of tests.
use Rattle.std.specs.Prelude.{Bool, false, nat_le, unsigned_abs}
use Rattle.spd_nodes.specs.declared.leaf.Leaf.{Leaf}
use Rattle.spd_nodes.specs.declared.leaf.Leaf.TheVariants.{Num, Pair, Act}

-- whether a leaf is a number of at most 512 in magnitude, as many as there are levels at most
abbrev pub is_test_number : Leaf → Bool
is_test_number (Num x) = nat_le (unsigned_abs x) 512
is_test_number (Pair x y) = false
is_test_number (Act a) = false
