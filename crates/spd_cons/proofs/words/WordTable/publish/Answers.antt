use Rattle.std.proofs.Common.{◌+◌, ap}
use Rattle.spd_cons.specs.declared.view.Size.{Size}
use Rattle.spd_cons.proofs.Publishing.{publishes}
use Rattle.spd_cons.proofs.words.WordTable.publish.Goals as goal

pub returns-then-found-eq0-clause-publishes : goal.returns-then-found-eq0-clause-publishes
returns-then-found-eq0-clause-publishes c = publishes _ _ _ _ _ _ c.requires.at c.requires.spare (ap (λ (z : Size). z.limit + z.most) c.requires.own.1) c.requires.stored c.exchange-found.ensures.tells

pub returns-else-found-eq0-clause-publishes : goal.returns-else-found-eq0-clause-publishes
returns-else-found-eq0-clause-publishes c = publishes _ _ _ _ _ _ c.requires.at c.requires.spare (ap (λ (z : Size). z.limit + z.most) c.requires.own.1) c.requires.stored c.exchange-found.ensures.tells
