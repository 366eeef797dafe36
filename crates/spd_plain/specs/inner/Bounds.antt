-- The bounds of a value as a range of the merge rule.
use Rattle.std.specs.Prelude.{pos, ◌^◌}
use Rattle.std.specs.declared.cmp.Ordering.{Ordering}
use Rattle.std.specs.Ordering.{int_cmp, ordering_then}
use Rattle.spd_scaled.specs.Scaled.{IsWithin}
use Rattle.spd_model.specs.Ranges.{Range}
use Rattle.spd_plain.specs.declared.ranges.Bounds.{Bounds}

-- the range between two bounds
abbrev pub range_of : Bounds → Range
range_of b = record { low = b.low; high = b.high }

-- the order of bounds: by the lower bound, then by the upper bound
abbrev pub bounds_cmp : Bounds → Bounds → Ordering
bounds_cmp a b = ordering_then (int_cmp a.low b.low) (int_cmp a.high b.high)

-- both bounds are at most 10^30 in magnitude
pub record AreSmallBounds (b : Bounds) : Type 0 where
  pub low : IsWithin (pos (10 ^ 30)) b.low
  pub high : IsWithin (pos (10 ^ 30)) b.high
