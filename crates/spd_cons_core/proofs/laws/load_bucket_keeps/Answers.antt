use Rattle.spd_cons_core.proofs.LoadsBucket.{load_bucket_keeps}
use Rattle.spd_cons_core.proofs.laws.load_bucket_keeps.Goals as goal

pub returns : goal.returns
returns c = load_bucket_keeps
