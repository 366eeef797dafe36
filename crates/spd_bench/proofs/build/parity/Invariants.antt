use Rattle.std.proofs.Common.{◌^◌, ◌≤◌}
use Rattle.spd_nodes.specs.Shown.{Grows}
use Rattle.spd_bench.specs.Built.{IsCount}
use Rattle.spd_bench.proofs.build.parity.Given as goal

abbrev pub invariant-loop-var : goal.invariant-loop-var
invariant-loop-var g l = record {
  from_one : 1 ≤ l.var;
  grows : Grows (g.F.Forest.shows l.fn.forest) (g.F.Forest.shows l.forest);
  parity : IsCount (g.F.Forest.shows l.forest) (2 ^ 16) l.var l.parity;
  opposite : IsCount (g.F.Forest.shows l.forest) (2 ^ 16) l.var l.opposite;
}
