use Rattle.spd_syntax.proofs.Unique.{written_once}
use Rattle.spd_syntax.proofs.laws.law_once.Goals as goal

pub returns : goal.returns
returns c = written_once
