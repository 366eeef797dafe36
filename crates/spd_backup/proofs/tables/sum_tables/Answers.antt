use Rattle.std.proofs.Common.{arith}
use Rattle.spd_backup.proofs.KeepingLaws.{each-none}
use Rattle.spd_backup.proofs.tables.sum_tables.Goals as goal

pub returns : goal.returns
returns c = λ way s. each-none way _ s c.loop-size.sums.items (omega arith) c.loop-size.invariant.empty
