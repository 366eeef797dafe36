use Rattle.std.proofs.Common.{◌≡◌, ◌*◌, ◌++◌, List, drop}
use Rattle.spd_nodes.specs.Shown.{Shown}
use Rattle.spd_nodes.specs.Trees.{Tree}
use Rattle.spd_gather.specs.Lists.{trees_of, AreKnown}
use Rattle.spd_weigh.specs.Summed.{zero_tree, IsShorter}
use Rattle.spd_weigh.proofs.weighing.weighed_pairs.Given as goal

abbrev pub invariant-loop-v : goal.invariant-loop-v
invariant-loop-v l = record {
  known : (s : Shown) → AreKnown s l.fn.list → AreKnown s l.short.items;
  shorter : (s : Shown) → s.tree l.zero ≡ zero_tree → (us : List Tree) → IsShorter zero_tree (trees_of s (drop (2 * l.v) l.fn.list)) us → IsShorter zero_tree (trees_of s l.fn.list) (trees_of s l.short.items ++ us);
}
