use Rattle.std.proofs.Common.{◌≡◌}
use Rattle.spd_wide_rows.proofs.chain.check_chain.Given as goal

abbrev pub invariant-loop-level : goal.invariant-loop-level
invariant-loop-level g l = g.F.Forest.shows l.forest ≡ g.F.Forest.shows l.fn.forest
