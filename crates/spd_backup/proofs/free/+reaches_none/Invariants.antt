use Rattle.spd_nodes.specs.Levels.{slots}
use Rattle.spd_nodes.specs.Trees.{tree_rank}
use Rattle.spd_backup.proofs.free.+reaches_none.Given as goal

-- the levels from the root on
abbrev pub decreases-reaches_none : goal.decreases-reaches_none
decreases-reaches_none g l =
    let shown = g.F.Forest.shows l.forest.now in
    tree_rank (slots shown.sizes) (shown.tree l.r)
