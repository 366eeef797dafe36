use Rattle.spd_cons_core.proofs.Splits.{split_keeps}
use Rattle.spd_cons_core.proofs.laws.split_keeps.Goals as goal

pub returns : goal.returns
returns c = split_keeps
