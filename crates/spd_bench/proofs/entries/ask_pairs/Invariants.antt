use Rattle.std.proofs.Common.{All}
use Rattle.spd_nodes.specs.Shown.{Grows}
use Rattle.spd_bench.specs.Built.{IsKnownLeaf}
use Rattle.spd_bench.proofs.entries.ask_pairs.Given as goal

abbrev pub invariant-loop-one : goal.invariant-loop-one
invariant-loop-one g l = record {
  grows : Grows (g.F.Forest.shows l.fn.forest) (g.F.Forest.shows l.forest);
  leaves : All (IsKnownLeaf (g.F.Forest.shows l.forest)) l.leaves;
}
