use Rattle.spd_nodes.specs.Levels.{slots}
use Rattle.spd_nodes.specs.Trees.{tree_rank}
use Rattle.spd_search.proofs.looking.+leaf_in.Given as goal

-- the levels from the root on
abbrev pub decreases-leaf_in : goal.decreases-leaf_in
decreases-leaf_in g l =
    let shown = g.F.Forest.shows l.forest.now in
    tree_rank (slots shown.sizes) (shown.tree l.r)
