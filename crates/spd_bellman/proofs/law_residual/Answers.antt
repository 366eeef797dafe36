use Rattle.spd_bellman.proofs.Bounds.{residual_holds}
use Rattle.spd_bellman.proofs.law_residual.Goals as goal

pub returns : goal.returns
returns c = residual_holds
