use Rattle.std.proofs.Common.{◌≡◌, map, take}
use Rattle.std.specs.List.{AllZip}
use Rattle.spd_nodes.specs.Made.{HasMade}
use Rattle.spd_nodes.specs.Shown.{StandsFor}
use Rattle.spd_backup.proofs.thawing.thaw_parts.Given as goal

abbrev pub invariant-loop-at : goal.invariant-loop-at
invariant-loop-at g l = record {
  made : HasMade (g.F.Forest.shows l.fn.forest) (g.F.Forest.shows l.forest) (map g.P.Listed.function l.parts);
  stand : AllZip (StandsFor (g.F.Forest.shows l.forest)) l.refs.items (take l.at (map g.P.Listed.function l.parts));
  keeps : g.F.Forest.kept l.forest ≡ g.F.Forest.kept l.fn.forest;
}
