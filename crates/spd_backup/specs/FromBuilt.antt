-- A built process as diagrams of a forest.
use Rattle.std.specs.Prelude.{◌≡◌, List, ◌++◌, map, Result, IfOk}
use Rattle.std.specs.List.{AllZip}
use Rattle.spd_model.specs.Process.{Process}
use Rattle.spd_nodes.specs.declared.forest.StoreFault.{StoreFault}
use Rattle.spd_nodes.specs.Made.{MakesAll}
use Rattle.spd_nodes.specs.Shown.{Shown, StandsFor}
use Rattle.spd_nodes.specs.States.{Function}
use Rattle.spd_frozen.specs.Thawing.{frozen_function, mixed_function}
use Rattle.spd_build.specs.declared.built.Built.{Built}
use Rattle.spd_build.specs.Functions.{all_weights, reward}
use Rattle.spd_backup.specs.declared.thawed.Thawed.{Thawed}
use Rattle.spd_backup.specs.Thawing.{IsThawedOf}

-- the functions for which the lists of the weights stand, and those of the rewards
abbrev pub listed_weights : Built → List Function
listed_weights b = map mixed_function b.weights.items

abbrev pub listed_rewards : Built → List Function
listed_rewards b = map frozen_function b.rewards.items

-- The functions of thawing a built process, by which its nodes are counted: those of its weights, and those of its rewards.
abbrev pub thaw_functions : Built → List Function
thaw_functions b = listed_weights b ++ listed_rewards b

-- the same of the process that was built: its weights, and its rewards
abbrev pub process_functions : Process → List Function
process_functions m = all_weights m ++ map (reward m) m.actions

-- Diagrams stand for a built process: each for the function of its list, with the same variables and the same discount.
pub record IsThawedFrom (b : Built) (s : Shown) (x : Thawed) : Type 0 where
  pub weights : AllZip (StandsFor s) x.weights.items (listed_weights b)
  pub rewards : AllZip (StandsFor s) x.rewards.items (listed_rewards b)
  pub own : x.sizes.items ≡ b.sizes.items
  pub discount : x.g ≡ b.g

-- A call that thaws what a valid process was built into: it makes only nodes of the process's weights and rewards, and Ok gives the
-- process's parts.
pub record ThawsProcess (m : Process) (old new : Shown) (result : Result Thawed StoreFault) : Type 0 where
  pub made : MakesAll old new (process_functions m) result
  pub ok : IfOk result (IsThawedOf m new)
