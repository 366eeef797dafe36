use Rattle.std.proofs.Common.{◌≡◌, ◌++◌, map, drop}
use Rattle.spd_model.specs.Ranges.{groups_of}
use Rattle.spd_ranges.specs.Merging.{range_at}
use Rattle.spd_ranges.specs.inner.Groups.{told_by}
use Rattle.spd_ranges.proofs.GroupLaws.{swept}
use Rattle.spd_ranges.proofs.groups.join_pairs.Given as goal

abbrev pub invariant-loop-pair : goal.invariant-loop-pair
invariant-loop-pair l = l.groups.items ++ swept l.fn.span l.group (map range_at (drop l.pair-index l.rest)) ≡ map told_by (groups_of l.fn.span (map range_at l.pairs))
