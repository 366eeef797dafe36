use Rattle.spd_bellman.proofs.StopLaws.{is_first_stop}
use Rattle.spd_bellman.proofs.law_stop.Goals as goal

pub returns : goal.returns
returns c = is_first_stop
