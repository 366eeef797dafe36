use Rattle.std.proofs.Common.{◌*◌, ◌^◌}
use Rattle.spd_nodes.specs.Shown.{Grows}
use Rattle.spd_bench.specs.Built.{IsCount}
use Rattle.spd_bench.proofs.build.sum.Given as goal

abbrev pub invariant-loop-var : goal.invariant-loop-var
invariant-loop-var g l = record {
  grows : Grows (g.F.Forest.shows l.fn.forest) (g.F.Forest.shows l.forest);
  sum : IsCount (g.F.Forest.shows l.forest) (l.var * 2 ^ 16) 0 l.sum;
}
