-- What building ends with, as a function of the process, and the cause of each fault.
use Rattle.std.specs.Prelude.{◌≡◌, ℕ, List, map, ℤ, Some, None, Result, IfOk, IfErr}
use Rattle.spd_model.specs.Process.{Process}
use Rattle.spd_model.specs.Numbers.{greatest}
use Rattle.spd_model.specs.Reduced.{Node}
use Rattle.spd_model.specs.States.{sizes}
use Rattle.spd_model.specs.Chances.{reward_of, first_wrong_sum, first_wide_reward}
use Rattle.spd_nodes.specs.declared.leaf.Leaf.{Leaf}
use Rattle.spd_nodes.specs.declared.leaf.Leaf.TheVariants.{Num}
use Rattle.spd_nodes.specs.States.{test_trees}
use Rattle.spd_nodes.specs.Shown.{Shown, LacksOne}
use Rattle.spd_nodes.specs.Made.{HasMade}
use Rattle.spd_frozen.specs.Frozen.{frozen_of}
use Rattle.spd_frozen.specs.Mixed.{mixed_of}
use Rattle.spd_build.specs.declared.built.Built.{Built}
use Rattle.spd_build.specs.declared.built.BuildFault.{BuildFault}
use Rattle.spd_build.specs.declared.built.BuildFault.TheVariants as Fault
use Rattle.spd_build.specs.Functions.{all_weights, building_functions}

-- the list of nodes of a number by present state
abbrev pub frozen_numbers : Process → (List ℕ → ℤ) → List (Node Leaf)
frozen_numbers m f = frozen_of (sizes m) (λ s. Num (f s))

-- The parts of a process as lists of nodes: each is the reduced diagram of its function.
pub record IsBuilt (m : Process) (b : Built) : Type 0 where
  pub weights : b.weights.items ≡ map (mixed_of (sizes m)) (all_weights m)
  pub rewards : b.rewards.items ≡ map (λ a. frozen_numbers m (reward_of m a)) m.actions
  pub start : b.start ≡ frozen_numbers m (λ s. greatest (map (λ a. reward_of m a s) m.actions))
  pub sizes : b.sizes.items ≡ sizes m
  pub discount : b.g ≡ m.discount

-- The cause of a fault: the process's first wrong sum; where all sums are one, its first reward that passes the limit; that the forest
-- is full and lacks a node of the functions of building. Want of memory has no cause in the process.
abbrev pub BuildCause : Process → Shown → BuildFault → Type 0
BuildCause m s (Fault.Sum action var state sum) = first_wrong_sum m ≡ Some (record { action = action; var = var; state = state; sum = sum })
BuildCause m s (Fault.Range action state value) =
    (first_wrong_sum m ≡ None) × (first_wide_reward m ≡ Some (record { action = action; state = state; value = value }))
BuildCause m s Fault.Full = LacksOne s (test_trees s.sizes (building_functions m))
BuildCause m s Fault.Memory = Unit {0}

-- What a model built is: all its sums are one, no reward passes the limit, and these are its parts.
pub record IsBuiltWhole (m : Process) (b : Built) : Type 0 where
  pub sums : first_wrong_sum m ≡ None
  pub rewards : first_wide_reward m ≡ None
  pub parts : IsBuilt m b

-- A call that builds a process. Whatever it answers, the forest is sound afterwards, shows all that it showed, and published nodes of
-- the functions of building alone.
pub record Builds (m : Process) (old new : Shown) (result : Result Built BuildFault) : Type 0 where
  pub made : HasMade old new (building_functions m)
  pub ok : IfOk result (IsBuiltWhole m)
  pub fault : IfErr result (BuildCause m new)
