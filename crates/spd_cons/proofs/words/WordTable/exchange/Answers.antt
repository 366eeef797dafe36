use Rattle.std.proofs.Common.{rules}
use Rattle.spd_cons.proofs.Allowed.{exchange_allowed}
use Rattle.spd_cons.proofs.words.WordTable.exchange.Goals as goal

pub compare_exchange-requires : goal.compare_exchange-requires
compare_exchange-requires c = (search rules, search rules, exchange_allowed _ _ _ _ _ _ _ c.args.self.now.sized c.requires.own.1 c.requires.in_call c.requires.spare.0 c.requires.can c.requires.at c.requires.spare.1)
