use Rattle.std.proofs.Common.{◌≡◌, true}
use Rattle.spd_diagram_rows.proofs.deep.chain.Given as goal

abbrev pub invariant-loop-level : goal.invariant-loop-level
invariant-loop-level g l = (g.F.Forest.shows l.forest).knows l.rest ≡ true
