use Rattle.std.proofs.Common.{rules}
use Rattle.spd_cons.proofs.Others.{split_allowed}
use Rattle.spd_cons.proofs.words.WordTable.split_token.Goals as goal

pub split_seat-requires : goal.split_seat-requires
split_seat-requires c = (search rules, search rules, split_allowed _ _ _ c.requires.can)
