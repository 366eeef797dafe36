use Rattle.spd_weigh.proofs.CallerLemmas.{discounts-none}
use Rattle.spd_backup.proofs.tables.WayTables.new.Goals as goal

pub returns : goal.returns
returns c = λ way discount s. record { sums = c.in_ok-sums.ensures way s; discounts = discounts-none way discount s c.new-discounts.result c.new-discounts.ensures }
