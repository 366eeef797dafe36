use Rattle.std.proofs.Common.{rules}
use Rattle.spd_cons.proofs.Allowed.{load_bucket_allowed}
use Rattle.spd_cons.proofs.words.WordTable.load_bucket.Goals as goal

pub load-requires : goal.load-requires
load-requires g c = (search rules, search rules, load_bucket_allowed _ _ _ _ _ _ _ c.args.self.now.sized c.requires.own.1 c.requires.within c.requires.fits c.requires.can c.requires.at)
