use Rattle.spd_cons_core.proofs.Exchanges.{exchange_bucket_keeps}
use Rattle.spd_cons_core.proofs.laws.exchange_bucket_keeps.Goals as goal

pub returns : goal.returns
returns c = exchange_bucket_keeps
