use Rattle.spd_cons_core.proofs.Joins.{join_keeps}
use Rattle.spd_cons_core.proofs.laws.join_keeps.Goals as goal

pub returns : goal.returns
returns c = join_keeps
