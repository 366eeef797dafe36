use Rattle.spd_nodes.specs.Levels.{slots}
use Rattle.spd_nodes.specs.Trees.{tree_rank}
use Rattle.spd_residual.proofs.leaves.+leaf_at.Given as goal

-- the levels from the root on
abbrev pub decreases-leaf_at : goal.decreases-leaf_at
decreases-leaf_at g l =
    let shown = g.F.Forest.shows l.forest.now in
    tree_rank (slots shown.sizes) (shown.tree l.r)
