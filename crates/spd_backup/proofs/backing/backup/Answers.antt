use Rattle.std.proofs.Common.{length, ap, subst, refl}
use Rattle.spd_backup.specs.Keeping.{HoldAll}
use Rattle.spd_backup.proofs.BackLaws.{back-none}
use Rattle.spd_backup.proofs.backing.backup.Goals as goal

pub backup_with-requires : goal.backup_with-requires
backup_with-requires g c = record {
  thawed = c.requires.thawed;
  known = c.requires.known;
  whole = c.requires.whole;
  plain = c.requires.plain;
  values = c.requires.values;
  tables = subst (λ n. HoldAll n c.args.thawed.now.g (g.F.Forest.shows c.args.forest.now) c.in-Ok.tables) (ap length c.as_slice.ensures.value) (c.in-Ok.ensures c.args.thawed.now.g (g.F.Forest.shows c.args.forest.now));
}

pub returns-in-Err-clause-made : goal.returns-in-Err-clause-made
returns-in-Err-clause-made g c = λ m a v has is. back-none m a v (g.F.Forest.shows c.args.forest.now) c.layout.ensures.sound

pub returns-in-Err-clause-keeps : goal.returns-in-Err-clause-keeps
returns-in-Err-clause-keeps g c = refl

pub returns-in-Ok-clause-made : goal.returns-in-Ok-clause-made
returns-in-Ok-clause-made g c = c.backup_with.ensures.made

pub returns-in-Ok-clause-keeps : goal.returns-in-Ok-clause-keeps
returns-in-Ok-clause-keeps g c = c.backup_with.ensures.keeps
