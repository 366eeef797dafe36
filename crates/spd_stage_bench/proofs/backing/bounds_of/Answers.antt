use Rattle.spd_stage_bench.proofs.PartsLaws.{parts-thawed, bounds-known}
use Rattle.spd_stage_bench.proofs.backing.bounds_of.Goals as goal

pub backup-requires-clause-thawed : goal.backup-requires-clause-thawed
backup-requires-clause-thawed g c = parts-thawed c.requires

pub returns-clause-lo : goal.returns-clause-lo
returns-clause-lo g c = (bounds-known c.requires c.in_ok-backup.ensures.made).0

pub returns-clause-hi : goal.returns-clause-hi
returns-clause-hi g c = (bounds-known c.requires c.in_ok-backup.ensures.made).1
