use Rattle.std.proofs.Common.{◌≡◌, true, All, map, take}
use Rattle.std.specs.BTreeSet.{contains}
use Rattle.spd_model.specs.Ranges.{in_order}
use Rattle.spd_plain.specs.inner.Bounds.{range_of, bounds_cmp, AreSmallBounds}
use Rattle.spd_plain.proofs.ranges.distinct_ranges.Given as goal

abbrev pub invariant-loop-range : goal.invariant-loop-range
invariant-loop-range l = record {
  items : map range_of l.distinct.keys ≡ in_order (map range_of (take l.range-index l.ranges));
  found : All (λ r. contains bounds_cmp l.distinct r ≡ true) (take l.range-index l.ranges);
  small : All AreSmallBounds l.ranges → All AreSmallBounds l.distinct.keys;
}
