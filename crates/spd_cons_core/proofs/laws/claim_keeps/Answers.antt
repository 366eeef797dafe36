use Rattle.spd_cons_core.proofs.Claims.{claim_keeps}
use Rattle.spd_cons_core.proofs.laws.claim_keeps.Goals as goal

pub returns : goal.returns
returns c = claim_keeps
