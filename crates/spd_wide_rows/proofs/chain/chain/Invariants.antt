use Rattle.std.proofs.Common.{◌≡◌, true}
use Rattle.spd_nodes.specs.Shown.{Grows}
use Rattle.spd_wide_rows.proofs.chain.chain.Given as goal

abbrev pub invariant-loop-level : goal.invariant-loop-level
invariant-loop-level g l = record {
  grows : Grows (g.F.Forest.shows l.fn.forest) (g.F.Forest.shows l.forest);
  known : (g.F.Forest.shows l.forest).knows l.rest ≡ true;
}
