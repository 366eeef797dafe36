-- A process's parts as diagrams.
use Rattle.std.specs.Prelude.{◌≡◌, map, None}
use Rattle.std.specs.List.{AllZip}
use Rattle.spd_model.specs.Process.{Process}
use Rattle.spd_model.specs.Chances.{first_wrong_sum, first_wide_reward}
use Rattle.spd_nodes.specs.Shown.{Shown, StandsFor}
use Rattle.spd_build.specs.declared.drawing.Drawn.{Drawn}
use Rattle.spd_build.specs.Functions.{all_weights, reward, start}

-- The diagrams of a process's parts: all its sums are one, no reward passes the limit, and each diagram stands for its part.
pub record IsDrawn (m : Process) (s : Shown) (d : Drawn) : Type 0 where
  pub sums : first_wrong_sum m ≡ None
  pub limits : first_wide_reward m ≡ None
  pub weights : AllZip (StandsFor s) d.weights.items (all_weights m)
  pub rewards : AllZip (StandsFor s) d.rewards.items (map (reward m) m.actions)
  pub start : StandsFor s d.start (start m)
