use Rattle.std.proofs.Common.{rules}
use Rattle.spd_cons.proofs.Others.{look_allowed}
use Rattle.spd_cons.proofs.words.WordTable.look.Goals as goal

pub load-requires : goal.load-requires
load-requires c = (search rules, search rules, look_allowed _ _ _ _ c.requires.live)
