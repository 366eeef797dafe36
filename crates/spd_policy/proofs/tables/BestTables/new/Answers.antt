use Rattle.spd_policy.proofs.BestLaws.{none-held}
use Rattle.spd_policy.proofs.tables.BestTables.new.Goals as goal

pub returns : goal.returns
returns c = λ s. none-held s _ c.new.ensures c.new-2.ensures
