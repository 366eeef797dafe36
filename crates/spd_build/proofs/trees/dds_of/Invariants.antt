use Rattle.std.proofs.Common.{◌≡◌, take, flat_map, length}
use Rattle.spd_build.specs.Fitting.{StandForTrees}
use Rattle.spd_build.specs.Functions.{tree_functions}
use Rattle.spd_nodes.specs.Made.{HasMade}
use Rattle.spd_build.proofs.trees.dds_of.Given as goal

abbrev pub invariant-loop-tree : goal.invariant-loop-tree
invariant-loop-tree g l = record {
  made : HasMade (g.F.Forest.shows l.fn.forest) (g.F.Forest.shows l.forest) (flat_map (tree_functions l.model) l.trees);
  stand : StandForTrees (g.F.Forest.shows l.forest) l.model (take l.tree-index l.trees) l.dds.items;
  count : length l.dds.items ≡ l.tree-index;
  keeps : g.F.Forest.kept l.forest ≡ g.F.Forest.kept l.fn.forest;
}
