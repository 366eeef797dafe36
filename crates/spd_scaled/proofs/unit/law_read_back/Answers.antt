use Rattle.spd_scaled.proofs.ReadBack.{read_back}
use Rattle.spd_scaled.proofs.unit.law_read_back.Goals as goal

pub returns : goal.returns
returns c = read_back
