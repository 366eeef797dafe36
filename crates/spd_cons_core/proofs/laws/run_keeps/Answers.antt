use Rattle.spd_cons_core.proofs.Runs.{run_keeps}
use Rattle.spd_cons_core.proofs.laws.run_keeps.Goals as goal

pub returns : goal.returns
returns c = λ m events sized sound fit. run_keeps events m sized sound fit
