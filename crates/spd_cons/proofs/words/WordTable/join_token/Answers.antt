use Rattle.std.proofs.Common.{rules}
use Rattle.spd_cons.proofs.Others.{join_allowed}
use Rattle.spd_cons.proofs.words.WordTable.join_token.Goals as goal

pub join_seat-requires : goal.join_seat-requires
join_seat-requires c = (search rules, search rules, c.requires.own.2, search rules, join_allowed _ _ _ _ _ c.requires.live.0 c.requires.live.1 c.requires.rests.0 c.requires.rests.1)
