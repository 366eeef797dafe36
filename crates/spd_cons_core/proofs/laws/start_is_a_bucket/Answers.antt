use Rattle.spd_cons_core.proofs.Starts.{start_below}
use Rattle.spd_cons_core.proofs.laws.start_is_a_bucket.Goals as goal

pub returns : goal.returns
returns c = start_below
