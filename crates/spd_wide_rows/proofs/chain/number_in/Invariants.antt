use Rattle.std.proofs.Common.{◌≡◌, true}
use Rattle.spd_wide_rows.proofs.chain.number_in.Given as goal

abbrev pub invariant-loop : goal.invariant-loop
invariant-loop g l = record {
  known : (g.F.Forest.shows l.forest).knows l.at ≡ true;
  same : g.F.Forest.shows l.forest ≡ g.F.Forest.shows l.fn.forest;
}
