use Rattle.spd_nodes.specs.Levels.{slots}
use Rattle.spd_nodes.specs.Trees.{tree_rank}
use Rattle.spd_backup.proofs.exact.+reaches_exact.Given as goal

-- the levels from the root on
abbrev pub decreases-reaches_exact : goal.decreases-reaches_exact
decreases-reaches_exact g l =
    let shown = g.F.Forest.shows l.forest.now in
    tree_rank (slots shown.sizes) (shown.tree l.r)
