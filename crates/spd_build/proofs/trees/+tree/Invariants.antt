use Rattle.std.proofs.Common.{◌≡◌, ◌+◌, ◌*◌, [], max, fold, map, take, flat_map}
use Rattle.spd_model.specs.Trees.{nesting, read_tree}
use Rattle.spd_build.specs.Fitting.{StandForTrees}
use Rattle.spd_build.specs.Functions.{tree_functions}
use Rattle.spd_nodes.specs.Made.{HasMade}
use Rattle.spd_build.proofs.trees.+tree.Given as goal

-- how deep a tree nests, where the diagrams that it names count for nothing
abbrev pub decreases-tree_of : goal.decreases-tree_of
decreases-tree_of g l = 2 * read_tree nesting [] l.tree.now

abbrev pub decreases-trees_of : goal.decreases-trees_of
decreases-trees_of g l = 2 * fold max 0 (map (read_tree nesting []) l.trees.now) + 1

abbrev pub invariant-trees_of-loop-tree : goal.invariant-trees_of-loop-tree
invariant-trees_of-loop-tree g l = record {
  made : HasMade (g.F.Forest.shows l.fn.forest) (g.F.Forest.shows l.forest) (flat_map (tree_functions l.model) l.trees);
  stand : StandForTrees (g.F.Forest.shows l.forest) l.model (take l.tree-index l.trees) l.refs.items;
  keeps : g.F.Forest.kept l.forest ≡ g.F.Forest.kept l.fn.forest;
}
