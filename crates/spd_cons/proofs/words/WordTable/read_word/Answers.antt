use Rattle.std.proofs.Common.{rules}
use Rattle.spd_cons.proofs.Others.{read_allowed}
use Rattle.spd_cons.proofs.words.WordTable.read_word.Goals as goal

pub load-requires : goal.load-requires
load-requires c = (search rules, search rules, read_allowed _ _ _ _ _ _ c.args.self.now.sized c.requires.own.1 c.requires.live)
