use Rattle.std.proofs.Common.{◌≡◌}
use Rattle.spd_nodes.specs.Made.{HasMade}
use Rattle.spd_nodes.specs.Shown.{StandsFor}
use Rattle.spd_build.specs.Building.{HoldAdds, sum_functions}
use Rattle.spd_build.specs.Functions.{part_sum}
use Rattle.spd_build.proofs.rewards.sum_parts.Given as goal

abbrev pub invariant-loop-part : goal.invariant-loop-part
invariant-loop-part g l = record {
  made : HasMade (g.F.Forest.shows l.fn.forest) (g.F.Forest.shows l.forest) (sum_functions l.model l.parts);
  stands : StandsFor (g.F.Forest.shows l.forest) l.sum (part_sum l.model l.parts l.part-index);
  adds : HoldAdds (g.F.Forest.shows l.forest) l.adds;
  keeps : g.F.Forest.kept l.forest ≡ g.F.Forest.kept l.fn.forest;
}
