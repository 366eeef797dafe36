-- Numbers of leaves, and how they are rounded.
use Rattle.std.specs.Prelude.{ℕ, List, ℤ, pos, ◌≤ℤ◌}
use Rattle.spd_scaled.specs.Scaled.{floor_div, ceil_div, IsWithin}
use Rattle.spd_model.specs.Backup.{Rounding}
use Rattle.spd_model.specs.States.{IsState}
use Rattle.spd_nodes.specs.declared.leaf.Leaf.{Leaf}
use Rattle.spd_nodes.specs.declared.leaf.Leaf.TheVariants.{Num, Pair, Act}
use Rattle.spd_nodes.specs.States.{Function}
use Rattle.spd_weigh.specs.declared.way.Way.{Way}
use Rattle.spd_weigh.specs.declared.way.Way.TheVariants as W

-- how a quotient is rounded
abbrev pub rounding_of : Way → Rounding
rounding_of W.Down = floor_div
rounding_of W.Up = ceil_div

-- the number of a leaf; a leaf of another kind counts as 0
abbrev pub number_of : Leaf → ℤ
number_of (Num x) = x
number_of (Pair x y) = pos 0
number_of (Act a) = pos 0

-- a leaf is a number of at least 0
abbrev pub IsWeight : Leaf → Type 0
IsWeight (Num x) = pos 0 ≤ℤ x
IsWeight (Pair x y) = ⊥
IsWeight (Act a) = ⊥

-- the greatest magnitude of a value: (10^18 + 1) * 10^6 units of 10^-9
abbrev pub greatest_value : ℤ
greatest_value = pos 1000000000000000001000000

-- a leaf is a number of at most that magnitude
abbrev pub IsValue : Leaf → Type 0
IsValue (Num x) = IsWithin greatest_value x
IsValue (Pair x y) = ⊥
IsValue (Act a) = ⊥

-- each leaf of a function is such a number
pub record HasValues (sizes : List ℕ) (f : Function) : Type 0 where
  pub at : (s t : List ℕ) → IsState sizes s → IsState sizes t → IsValue (f s t)
