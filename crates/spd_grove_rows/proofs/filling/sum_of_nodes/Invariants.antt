use Rattle.std.proofs.Common.{◌≡◌}
use Rattle.spd_nodes.specs.Shown.{Grows}
use Rattle.spd_grove_rows.proofs.filling.sum_of_nodes.Given as goal

abbrev pub invariant-loop-number : goal.invariant-loop-number
invariant-loop-number g l = Grows (g.F.Forest.shows l.initial.forest) (g.F.Forest.shows l.forest) × (g.F.Forest.kept l.forest ≡ g.F.Forest.kept l.initial.forest)
