use Rattle.std.proofs.Common.{◌≡◌, ◌+◌, ◌*◌}
use Rattle.spd_nodes.specs.Levels.{slots}
use Rattle.spd_nodes.specs.Trees.{tree_rank}
use Rattle.spd_frozen.specs.Mixed.{all_slotted}
use Rattle.spd_frozen.proofs.BranchLaws.{KidsDone}
use Rattle.spd_frozen.proofs.freezing.+complete.Given as goal

-- the levels from the root on
abbrev pub decreases-branch : goal.decreases-branch
decreases-branch g l =
    let shown = g.F.Forest.shows l.forest.now in
    2 * tree_rank (slots shown.sizes) (shown.tree l.r)

abbrev pub decreases-complete : goal.decreases-complete
decreases-complete g l =
    let shown = g.F.Forest.shows l.forest.now in
    2 * tree_rank (slots shown.sizes) (shown.tree l.r) + 1

abbrev pub invariant-branch-loop-test : goal.invariant-branch-loop-test
invariant-branch-loop-test g l = record {
  same : g.F.Forest.shows l.forest ≡ g.F.Forest.shows l.fn.forest;
  keeps : g.F.Forest.kept l.forest ≡ g.F.Forest.kept l.fn.forest;
  done : KidsDone (g.F.Forest.shows l.fn.forest) l.fn.r l.fn.level.0 l.end l.test l.rest (all_slotted l.fn.done.nodes.items) l.done.refs.keys (all_slotted l.done.nodes.items) l.kids.items;
}
