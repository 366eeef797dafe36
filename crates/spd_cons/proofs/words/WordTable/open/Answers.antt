use Rattle.std.proofs.Common.{arith}
use Rattle.std.proofs.lemmas.Grind.{common_steps}
use Rattle.spd_cons.proofs.Others.{opens}
use Rattle.spd_cons.proofs.words.WordTable.open.Goals as goal

pub of_words-requires : goal.of_words-requires
of_words-requires c = opens _ _ (grind (arith, common_steps)) c.requires.limit.0 c.requires.limit.1 c.requires.most.0 c.requires.most.1 c.requires.count
