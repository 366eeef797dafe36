-- The weights of all actions and variables: the functions that are made for them, and what a call that makes some of them says.
use Rattle.std.specs.Prelude.{◌≡◌, ℕ, not, List, ◌++◌, length, map, flat_map, take, find, Bool, true, Option, Some, None, Result, IfOk, IfErr}
use Rattle.std.specs.List.{AllZip}
use Rattle.std.specs.Ordering.{int_eq}
use Rattle.spd_cons_core.specs.declared.key.Entry.{Entry}
use Rattle.spd_model.specs.declared.process.Action.{Action}
use Rattle.spd_model.specs.Process.{Process}
use Rattle.spd_model.specs.Numbers.{numbers_below}
use Rattle.spd_model.specs.States.{sizes, states}
use Rattle.spd_model.specs.Chances.{Sum, one, sum_of, sums_of, sizes_after}
use Rattle.spd_nodes.specs.declared.leaf.Leaf.{Leaf}
use Rattle.spd_nodes.specs.declared.leaf.Leaf.TheVariants.{Num, Pair, Act}
use Rattle.spd_nodes.specs.States.{Function, test_trees}
use Rattle.spd_nodes.specs.Shown.{Shown, StandsFor, LacksOne}
use Rattle.spd_nodes.specs.Made.{HasMade}
use Rattle.spd_build.specs.declared.built.BuildFault.{BuildFault}
use Rattle.spd_build.specs.declared.built.BuildFault.TheVariants as Fault
use Rattle.spd_build.specs.Functions.{table_functions, weights_of}

-- whether a leaf isn't one, as a sum of probabilities
abbrev pub is_wrong : Leaf → Bool
is_wrong (Num x) = not (int_eq x one)
is_wrong (Pair x y) = true
is_wrong (Act a) = true

-- ---- the functions

-- those of all of an action's tables, and those of all actions' tables
abbrev pub action_functions : Process → Action → List Function
action_functions m a = flat_map (table_functions m a) (numbers_below (length m.vars))

abbrev pub all_table_functions : Process → List Function
all_table_functions m = flat_map (action_functions m) m.actions

-- all weights of an action
abbrev pub action_weights : Process → Action → List Function
action_weights m a = flat_map (weights_of m a) (numbers_below (length m.vars))

-- ---- the sums

-- the sums of a variable after an action of this number, and those of all variables after it
abbrev pub variable_sums : Process → ℕ × Action → ℕ → List Sum
variable_sums m a i =
    flat_map (λ s. map (λ rest. record { action = a.0; var = i; state = s; sum = sum_of m a.1 s i rest }) (states (sizes_after m i))) (states (sizes m))

abbrev pub action_sums : Process → ℕ × Action → List Sum
action_sums m a = flat_map (variable_sums m a) (numbers_below (length m.vars))

-- the first of some sums that isn't one
abbrev pub first_wrong : List Sum → Option Sum
first_wrong = find (λ (x : Sum). not (int_eq x.sum one))

-- ---- what a call says

-- The cause of a fault in some tables: the first of their sums that isn't one; that the forest is full and lacks a node of their
-- functions. Want of memory has no cause in the process, and no reward is looked at.
abbrev pub CauseIn : List Sum → List Function → Shown → BuildFault → Type 0
CauseIn sums nodes s (Fault.Sum action var state sum) = first_wrong sums ≡ Some (record { action = action; var = var; state = state; sum = sum })
CauseIn sums nodes s (Fault.Range action state value) = ⊥
CauseIn sums nodes s Fault.Full = LacksOne s (test_trees s.sizes nodes)
CauseIn sums nodes s Fault.Memory = Unit {0}

abbrev pub TableCause : Process → Shown → BuildFault → Type 0
TableCause m = CauseIn (sums_of m) (all_table_functions m)

-- entries that stand for some functions are followed by entries that stand for these ones
pub record StandAfter (old new : Shown) (refs more : List Entry) (fs : List Function) : Type 0 where
  pub each : (before : List Function) → AllZip (StandsFor old) refs before → AllZip (StandsFor new) more (before ++ fs)

-- A call that makes some weights, puts them after the entries of a list, and tests the sums of them. Whatever it answers, the forest is
-- sound afterwards, shows all that it showed, and published nodes of some functions alone. It answers Ok only where all sums are one.
pub record MakesWeights {A : Type 0} (of : List Sum) (nodes weights : List Function) (old new : Shown) (refs more : List Entry) (result : Result A BuildFault) : Type 0 where
  pub made : HasMade old new nodes
  pub stand : IfOk result (λ _. StandAfter old new refs more weights)
  pub sums : IfOk result (λ _. first_wrong of ≡ None)
  pub fault : IfErr result (CauseIn of nodes new)

-- The same for the first i of some tables, of which all sums are one.
pub record WeighsFirst {X : Type 0} (of : X → List Sum) (nodes weights : X → List Function) (xs : List X) (i : ℕ) (old new : Shown) (refs more : List Entry) : Type 0 where
  pub made : HasMade old new (flat_map nodes xs)
  pub stand : StandAfter old new refs more (flat_map weights (take i xs))
  pub sums : first_wrong (flat_map of (take i xs)) ≡ None
