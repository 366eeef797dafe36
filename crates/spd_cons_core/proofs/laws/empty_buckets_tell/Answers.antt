use Rattle.spd_cons_core.proofs.Unknown.{key_unpublished, key_unknown}
use Rattle.spd_cons_core.proofs.laws.empty_buckets_tell.Goals as goal

pub returns-clause-published : goal.returns-clause-published
returns-clause-published c = key_unpublished

pub returns-clause-known : goal.returns-clause-known
returns-clause-known c = key_unknown
