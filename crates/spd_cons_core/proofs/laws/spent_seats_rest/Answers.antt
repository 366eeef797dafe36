use Rattle.spd_cons_core.proofs.Transitions.{spent_rests}
use Rattle.spd_cons_core.proofs.laws.spent_seats_rest.Goals as goal

pub returns : goal.returns
returns c = spent_rests
