-- What building goes through: faults of its calls, what its memos hold, and the parts of it.
use Rattle.std.specs.Prelude.{List, [], ◌∷◌, ◌++◌, length, map, flat_map, ℤ, pos, ◌+ℤ◌, ◌-ℤ◌, ◌<◌, Result, IfErr}
use Rattle.std.specs.Int.{int_max}
use Rattle.std.specs.List.{AllZip}
use Rattle.spd_scaled.specs.Scaled.{floor_div}
use Rattle.spd_cons_core.specs.declared.key.Entry.{Entry}
use Rattle.spd_memo.specs.Kept.{KeptAnswers}
use Rattle.spd_model.specs.declared.tree.Tree.{Tree}
use Rattle.spd_model.specs.declared.process.Action.{Action}
use Rattle.spd_model.specs.Process.{Process}
use Rattle.spd_model.specs.Numbers.{numbers_below}
use Rattle.spd_nodes.specs.declared.forest.StoreFault.{StoreFault}
use Rattle.spd_nodes.specs.declared.forest.StoreFault.TheVariants as Store
use Rattle.spd_nodes.specs.States.{Function}
use Rattle.spd_nodes.specs.Shown.{Shown, StandsFor}
use Rattle.spd_nodes.specs.Made.{HasMade}
use Rattle.spd_apply.specs.Applied.{applied}
use Rattle.spd_apply.specs.Operations.{num_of}
use Rattle.spd_apply.specs.Rules.{HoldsAnswers}
use Rattle.spd_build.specs.declared.built.BuildFault.{BuildFault}
use Rattle.spd_build.specs.declared.built.BuildFault.TheVariants as Fault
use Rattle.spd_build.specs.Functions.{constant, part_sum, part_functions_at, reward, building_functions}
use Rattle.spd_build.specs.Built.{BuildCause}

-- the fault of building where a call of the forest failed
abbrev pub build_fault : StoreFault → BuildFault
build_fault Store.Full = Fault.Full
build_fault Store.Memory = Fault.Memory

-- ---- what memos hold: sums of numbers, net rewards, and the greater of two numbers

abbrev pub HoldAdds : Shown → KeptAnswers → Type 0
HoldAdds s memo = HoldsAnswers (applied (num_of (λ x y. x +ℤ y))) s memo

-- what is gained less what is paid, both in units of 10^-12, as a reward in units of 10^-9
abbrev pub net_reward : ℤ → ℤ → ℤ
net_reward gained paid = floor_div (gained -ℤ paid) (pos 1000)

abbrev pub HoldNets : Shown → KeptAnswers → Type 0
HoldNets s memo = HoldsAnswers (applied (num_of net_reward)) s memo

abbrev pub HoldMaxima : Shown → KeptAnswers → Type 0
HoldMaxima s memo = HoldsAnswers (applied (num_of int_max)) s memo

-- ---- rewards

-- the sum of all parts of a reward or of a cost, in units of 10^-12
abbrev pub all_parts : Process → List Tree → Function
all_parts m trees = part_sum m trees (length trees)

-- the functions of that sum: 0, and those of the parts in order
abbrev pub sum_functions : Process → List Tree → List Function
sum_functions m trees = constant (pos 0) ∷ flat_map (part_functions_at m trees) (numbers_below (length trees))

-- the functions of an action's reward, where the sum of the reward's parts is there
abbrev pub net_functions : Process → Action → List Function
net_functions m a = sum_functions m a.cost ++ reward m a ∷ []

-- ---- parts of building

-- A call that is a part of building: it published nodes of the functions of building alone, and its fault has a cause.
pub record BuildsPart {A : Type 0} (m : Process) (old new : Shown) (result : Result A BuildFault) : Type 0 where
  pub made : HasMade old new (building_functions m)
  pub fault : IfErr result (BuildCause m new)

-- diagrams of all actions' rewards, for some process with an action
pub record AreRewardsOfSome (s : Shown) (refs : List Entry) : Type 0 where
  pub process : Process
  pub some : 0 < length process.actions
  pub stand : AllZip (StandsFor s) refs (map (reward process) process.actions)
