use Rattle.std.proofs.Common.{All}
use Rattle.spd_nodes.specs.Shown.{Grows}
use Rattle.spd_bench.specs.Built.{IsKnownLeaf}
use Rattle.spd_bench.proofs.entries.children.Given as goal

abbrev pub invariant-loop-number : goal.invariant-loop-number
invariant-loop-number g l = record {
  grows : Grows (g.F.Forest.shows l.fn.forest) (g.F.Forest.shows l.forest);
  leaves : All (IsKnownLeaf (g.F.Forest.shows l.forest)) l.refs.items;
}
