use Rattle.spd_weigh.specs.declared.way.Way.TheVariants.{Down, Up}
use Rattle.spd_backup.proofs.KeepingLaws.{adds-none}
use Rattle.spd_backup.proofs.tables.Tables.new.Goals as goal

pub returns : goal.returns
returns c = λ discount s. record { next = tt; down = c.in_ok-down.ensures Down discount s; up = c.in_ok-up.ensures Up discount s; adds = adds-none s _ _ c.in_ok-adds.ensures }
