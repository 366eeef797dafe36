use Rattle.spd_syntax.proofs.Accepted.{written_accepted}
use Rattle.spd_syntax.proofs.laws.law_accepted.Goals as goal

pub returns : goal.returns
returns c = written_accepted
