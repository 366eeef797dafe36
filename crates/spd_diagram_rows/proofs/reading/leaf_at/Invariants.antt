use Rattle.std.proofs.Common.{◌≡◌, true}
use Rattle.spd_diagram_rows.proofs.reading.leaf_at.Given as goal

abbrev pub invariant-loop : goal.invariant-loop
invariant-loop g l = record {
  known : (g.F.Forest.shows l.forest).knows l.at ≡ true;
  same : g.F.Forest.shows l.forest ≡ g.F.Forest.shows l.fn.forest;
}
