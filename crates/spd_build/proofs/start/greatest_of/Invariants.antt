use Rattle.std.proofs.Common.{◌≡◌, ◌<◌, map}
use Rattle.std.specs.List.{AllZip}
use Rattle.spd_model.specs.Process.{Process}
use Rattle.spd_nodes.specs.Made.{HasMade}
use Rattle.spd_nodes.specs.Shown.{StandsFor}
use Rattle.spd_build.specs.Building.{HoldMaxima}
use Rattle.spd_build.specs.Functions.{reward, greatest_reward, start_functions}
use Rattle.spd_build.proofs.start.greatest_of.Given as goal

abbrev pub invariant-loop-number : goal.invariant-loop-number
invariant-loop-number g l = record {
  made : (m : Process) → AllZip (StandsFor (g.F.Forest.shows l.fn.forest)) l.rewards (map (reward m) m.actions)
      → HasMade (g.F.Forest.shows l.fn.forest) (g.F.Forest.shows l.forest) (start_functions m) × StandsFor (g.F.Forest.shows l.forest) l.greatest (greatest_reward m l.number);
  some : 0 < l.number;
  maxima : HoldMaxima (g.F.Forest.shows l.forest) l.maxima;
  keeps : g.F.Forest.kept l.forest ≡ g.F.Forest.kept l.fn.forest;
}
