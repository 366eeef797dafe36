use Rattle.std.proofs.Common.{rules}
use Rattle.spd_cons.proofs.Allowed.{claim_allowed}
use Rattle.spd_cons.proofs.words.WordTable.claim.Goals as goal

pub fetch_add-requires : goal.fetch_add-requires
fetch_add-requires c = (search rules, search rules, claim_allowed _ _ _ _ _ c.args.self.now.sized c.requires.own.1 c.requires.can)
