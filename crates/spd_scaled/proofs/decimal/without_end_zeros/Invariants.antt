use Rattle.std.proofs.Common.{◌≡◌, length}
use Rattle.spd_scaled.specs.DecimalReading.{without_end_zeros}
use Rattle.spd_scaled.proofs.decimal.without_end_zeros.Given as goal

abbrev pub invariant-loop-kept : goal.invariant-loop-kept
invariant-loop-kept l = without_end_zeros l.kept ≡ without_end_zeros l.digits

abbrev pub decreases-loop-kept : goal.decreases-loop-kept
decreases-loop-kept l = length l.kept
