use Rattle.std.proofs.Common.{◌+◌, ◌*◌}
use Rattle.spd_nodes.specs.Levels.{slots}
use Rattle.spd_apply.specs.Halves.{pair_rank}
use Rattle.spd_apply.specs.Rules.{below_rank}
use Rattle.spd_apply.proofs.make.+make.Given as goal

abbrev pub decreases-recall_or_make : goal.decreases-recall_or_make
decreases-recall_or_make g l =
    let shown = g.F.Forest.shows l.forest.now in
    3 * pair_rank (slots shown.sizes) (shown.tree l.f) (shown.tree l.g) + 2

abbrev pub decreases-make_anew : goal.decreases-make_anew
decreases-make_anew g l =
    let shown = g.F.Forest.shows l.forest.now in
    3 * pair_rank (slots shown.sizes) (shown.tree l.f.name) (shown.tree l.g.name) + 1

abbrev pub decreases-make_below : goal.decreases-make_below
decreases-make_below g l = 3 * below_rank (g.F.Forest.shows l.forest.now) l.below
