use Rattle.std.proofs.Common.{◌≡◌, ◌≤◌, ◌-◌, ◌++◌, map, drop, length}
use Rattle.spd_model.specs.Ranges.{groups_of, value_in}
use Rattle.spd_plain.specs.inner.Bounds.{range_of, AreSmallBounds}
use Rattle.spd_plain.proofs.GroupSweep.{sweep}
use Rattle.spd_plain.proofs.ranges.group_values.Given as goal

abbrev pub invariant-loop-i : goal.invariant-loop-i
invariant-loop-i l = record {
  below : length l.values.items ≤ l.i;
  small : AreSmallBounds l.group;
  swept : l.values.items ++ sweep l.fn.span l.group.low l.group.high (l.i - length l.values.items) (drop l.i (map range_of l.distinct))
      ≡ map (value_in (groups_of l.fn.span (map range_of l.distinct))) (map range_of l.distinct);
}
