use Rattle.std.proofs.Common.{◌+◌, ◌*◌}
use Rattle.spd_gather.specs.Lists.{rank_of}
use Rattle.spd_gather.proofs.make.+make.Given as goal

abbrev pub decreases-make_anew : goal.decreases-make_anew
decreases-make_anew g l = 2 * rank_of (g.F.Forest.shows l.forest.now) l.list.now

abbrev pub decreases-make_in : goal.decreases-make_in
decreases-make_in g l = 2 * rank_of (g.F.Forest.shows l.forest.now) l.list.now + 1
