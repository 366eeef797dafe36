use Rattle.std.proofs.Common.{◌≡◌}
use Rattle.spd_backup.proofs.exact.is_exact_sum.Given as goal

abbrev pub invariant-loop-scale : goal.invariant-loop-scale
invariant-loop-scale g l = record {
  same : g.F.Forest.shows l.forest ≡ g.F.Forest.shows l.fn.forest;
  keeps : g.F.Forest.kept l.forest ≡ g.F.Forest.kept l.fn.forest;
}
