use Rattle.std.proofs.Common.{rules}
use Rattle.spd_cons.proofs.Allowed.{store_allowed}
use Rattle.spd_cons.proofs.words.WordTable.store_word.Goals as goal

pub store-requires : goal.store-requires
store-requires c = (
  search rules,
  search rules,
  store_allowed _ _ _ _ _ _ _ _ _ c.args.self.now.sized c.requires.own.1 c.requires.in_call c.requires.spare.0 c.requires.can c.requires.stored c.requires.five c.requires.spare.1 c.requires.below c.word_place-at.ensures.place c.requires.value,
)
