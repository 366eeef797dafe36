use Rattle.std.proofs.Common.{◌≡◌, ◌+◌, ◌*◌, length, map}
use Rattle.spd_model.specs.Numbers.{numbers_below}
use Rattle.spd_model.specs.Reduced.{subtrees_of, nodes_after_all, node_number}
use Rattle.spd_model.specs.States.{state_count}
use Rattle.spd_nodes.specs.Trees.{leaf_eq}
use Rattle.spd_frozen.specs.Frozen.{diagrams}
use Rattle.spd_frozen.specs.inner.Unique.{sizes_of, subdiagram}
use Rattle.spd_frozen.proofs.table.+table.Given as goal

abbrev pub decreases-root : goal.decreases-root
decreases-root l = 2 * length l.vars.now

abbrev pub decreases-kids : goal.decreases-kids
decreases-kids l = 2 * length l.rest.now + 1

abbrev pub invariant-kids-loop-value : goal.invariant-kids-loop-value
invariant-kids-loop-value l = record {
  block : l.block ≡ state_count (sizes_of l.rest);
  nodes : diagrams l.table ≡ nodes_after_all leaf_eq (diagrams l.initial.table) (subtrees_of (map (subdiagram l.var l.size (sizes_of l.rest) l.leaves) (numbers_below l.value)));
  numbers : l.kids.items ≡ map (node_number leaf_eq (diagrams l.table)) (map (subdiagram l.var l.size (sizes_of l.rest) l.leaves) (numbers_below l.value));
}
