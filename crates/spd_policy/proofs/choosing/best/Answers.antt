use Rattle.spd_policy.proofs.choosing.best.Goals as goal

pub best_with-requires : goal.best_with-requires
best_with-requires g c = record { bounds = c.requires.bounds; some = c.requires.some; few = c.requires.few; tables = c.new-tables.ensures (g.F.Forest.shows c.args.forest.now) }
