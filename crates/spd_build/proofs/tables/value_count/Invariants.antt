use Rattle.std.proofs.Common.{◌≡◌, ◌≤◌, ◌*◌, sum, take}
use Rattle.spd_build.proofs.tables.value_count.Given as goal

abbrev pub invariant-loop-size : goal.invariant-loop-size
invariant-loop-size l = record { sum_is : l.count ≡ sum (take l.size-index l.sizes); few : l.count ≤ 255 * l.size-index }
