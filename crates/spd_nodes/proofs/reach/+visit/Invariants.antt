use Rattle.spd_nodes.specs.Levels.{slots}
use Rattle.spd_nodes.specs.Trees.{tree_rank}
use Rattle.spd_nodes.proofs.reach.+visit.Given as goal

-- the levels from the root on
abbrev pub decreases-visit : goal.decreases-visit
decreases-visit g l =
    let shown = g.F.Forest.shows l.forest.now in
    tree_rank (slots shown.sizes) (shown.tree l.r)
