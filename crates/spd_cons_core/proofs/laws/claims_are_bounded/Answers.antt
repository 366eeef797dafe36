use Rattle.spd_cons_core.proofs.Bounds.{claims_below}
use Rattle.spd_cons_core.proofs.laws.claims_are_bounded.Goals as goal

pub returns : goal.returns
returns c = claims_below
