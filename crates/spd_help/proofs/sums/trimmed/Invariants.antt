use Rattle.std.proofs.Common.{length}
use Rattle.spd_help.proofs.sums.trimmed.Given as goal

abbrev pub decreases-loop-left : goal.decreases-loop-left
decreases-loop-left l = length l.left
