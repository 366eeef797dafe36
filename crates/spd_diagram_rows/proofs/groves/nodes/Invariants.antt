use Rattle.std.proofs.Common.{◌≡◌}
use Rattle.spd_nodes.specs.Shown.{Grows}
use Rattle.spd_diagram_rows.proofs.groves.nodes.Given as goal

abbrev pub invariant-loop-pair : goal.invariant-loop-pair
invariant-loop-pair g l = Grows (g.F.Forest.shows l.initial.forest) (g.F.Forest.shows l.forest) × (g.F.Forest.kept l.forest ≡ g.F.Forest.kept l.initial.forest)
