use Rattle.spd_cons_core.proofs.Transitions.{goes_on}
use Rattle.spd_cons_core.proofs.laws.searches_end.Goals as goal

pub returns : goal.returns
returns c = λ m seat call e sized sound. goes_on m sized sound seat call e
