use Rattle.spd_cons_core.proofs.Consequences.{filled_above_limit}
use Rattle.spd_cons_core.proofs.laws.ended_tables_are_full.Goals as goal

pub returns : goal.returns
returns c = λ m i sound. filled_above_limit m sound i
