use Rattle.std.proofs.Common.{◌+◌, ◌-◌, ◌*◌}
use Rattle.spd_frozen.proofs.thawing.+make.Given as goal

-- kids have smaller numbers than their parents, and a slot has at most 64 values
abbrev pub decreases-make : goal.decreases-make
decreases-make g l = 66 * l.number + 65

abbrev pub decreases-make_tests : goal.decreases-make_tests
decreases-make_tests g l = 66 * l.number + (64 - l.value)
