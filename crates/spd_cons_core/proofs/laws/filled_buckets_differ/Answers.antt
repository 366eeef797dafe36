use Rattle.spd_cons_core.proofs.Consequences.{different_keys}
use Rattle.spd_cons_core.proofs.laws.filled_buckets_differ.Goals as goal

pub returns : goal.returns
returns c = λ m a b d e key sound. different_keys m sound a b d e key
