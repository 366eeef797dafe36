use Rattle.std.proofs.Common.{length}
use Rattle.spd_query.proofs.names.first_slot.Given as goal

abbrev pub decreases-loop-eight : goal.decreases-loop-eight
decreases-loop-eight l = length l.rest
