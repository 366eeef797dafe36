use Rattle.std.proofs.Common.{rules}
use Rattle.spd_cons.proofs.Allowed.{content_allowed}
use Rattle.spd_cons.proofs.words.WordTable.load_word.Goals as goal

pub load-requires : goal.load-requires
load-requires c = (
  search rules,
  search rules,
  content_allowed _ _ _ _ _ _ _ _ c.args.self.now.sized c.requires.own.1 c.requires.in_call c.requires.can c.requires.right c.requires.five c.requires.found c.requires.below c.word_place-at.ensures.place,
)
