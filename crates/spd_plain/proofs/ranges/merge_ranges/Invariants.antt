use Rattle.std.proofs.Common.{◌≡◌, map, take}
use Rattle.spd_model.specs.Ranges.{in_order, groups_of, value_in}
use Rattle.spd_plain.specs.inner.Bounds.{range_of}
use Rattle.spd_plain.proofs.ranges.merge_ranges.Given as goal

abbrev pub invariant-loop-range : goal.invariant-loop-range
invariant-loop-range l = l.merged.items
    ≡ map (λ r. value_in (groups_of l.fn.span (in_order (map range_of l.ranges))) (range_of r)) (take l.range-index l.ranges)
