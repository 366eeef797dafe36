-- What every model keeps: the limits, and that its names, numbers and trees fit together.
use Rattle.std.specs.Prelude.{ℕ, ◌-◌, ◌%◌, ◌^◌, ◌<◌, ◌≤◌, ◌≡◌, ◌≢◌, true, false, IsTrue, List, [], length, map, pos, ◌≤ℤ◌, unsigned_abs, slice_index, slice_index_or, sum_by, All, AllPairs, IfSome}
use Rattle.spd_model.specs.declared.tree.Tree.{Tree}
use Rattle.spd_model.specs.declared.process.Var.{Var}
use Rattle.spd_model.specs.declared.process.Action.{Action}
use Rattle.spd_model.specs.declared.process.Model.TheInside.{Inside}
use Rattle.spd_model.specs.Names.{is_name, is_value_name}
use Rattle.spd_model.specs.Process.{Process}
use Rattle.spd_model.specs.States.{sizes}
use Rattle.spd_model.specs.Trees.{Part, number, choice, missing, parts, parts_of, nesting, nesting_of, read_diagrams}

-- all of these names differ
abbrev pub AreDistinct : List (List ℕ) → Type 0
AreDistinct = AllPairs (λ x y. x ≢ y)

-- 1 to 64 values with distinct names
pub record HasValues (var : Var) : Type 0 where
  pub some : 0 < length var.values
  pub few : length var.values ≤ 64
  pub named : All (λ v. IsTrue (is_value_name v)) var.values
  pub distinct : AreDistinct var.values

-- A part fits a process: a number is at most 10^30 units, a branch is on one of its variables with one subtree for each
-- value, and no diagram is named that doesn't stand before.
abbrev pub Fits : Process → Part → Type 0
Fits m (number x) = unsigned_abs x ≤ 10 ^ 30
Fits m (choice var primed kids) = (var < length m.vars) × (kids ≡ slice_index (sizes m) var)
Fits m missing = ⊥

-- in a table of variable i no number is negative, and of next values only those of i and of later variables are followed
abbrev pub FitsTable : ℕ → Part → Type 0
FitsTable i (number x) = pos 0 ≤ℤ x
FitsTable i (choice var primed kids) = primed ≡ true → i ≤ var
FitsTable i missing = ⊥

-- in a reward or a cost each number is a whole number of 10^-9, and no next value is followed
abbrev pub FitsReward : Part → Type 0
FitsReward (number x) = unsigned_abs x % 1000 ≡ 0
FitsReward (choice var primed kids) = primed ≡ false
FitsReward missing = ⊥

-- a tree that fits a process and nests at most 300 deep
pub record IsTree (m : Process) (tree : Tree) : Type 0 where
  pub fits : All (Fits m) (parts_of m tree)
  pub nests : nesting_of m tree ≤ 300

-- a table of probabilities of variable i
pub record IsTable (m : Process) (i : ℕ) (tree : Tree) : Type 0 where
  pub form : IsTree m tree
  pub table : All (FitsTable i) (parts_of m tree)

-- a part of a reward or of a cost
pub record IsReward (m : Process) (tree : Tree) : Type 0 where
  pub form : IsTree m tree
  pub reward : All FitsReward (parts_of m tree)

-- the parts of a reward or of a cost
pub record AreRewards (m : Process) (trees : List Tree) : Type 0 where
  pub few : length trees ≤ 2097152
  pub each : All (IsReward m) trees

-- an action: its name, one table for each variable, the parts of its cost
pub record IsAction (m : Process) (a : Action) : Type 0 where
  pub named : IsTrue (is_name a.name)
  pub one_each : length a.tables ≡ length m.vars
  pub tables : (i : ℕ) (tree : Tree) → i < length m.vars → IsTable m i (slice_index_or a.tables i tree)
  pub cost : AreRewards m a.cost

-- what every model keeps
pub record IsLawful (m : Process) : Type 0 where
  pub some_vars : 0 < length m.vars
  pub few_vars : length m.vars ≤ 100
  pub vars_named : All (λ (x : Var). IsTrue (is_name x.name)) m.vars
  pub vars_distinct : AreDistinct (map (λ (x : Var). x.name) m.vars)
  pub values : All HasValues m.vars
  pub few_tests : sum_by (λ (x : Var). length x.values - 1) m.vars ≤ 256
  pub few_dds : length m.dds ≤ 4096
  pub dds_fit : All (All (Fits m)) (read_diagrams parts [] m.dds)
  pub dds_nest : All (λ n. n ≤ 300) (read_diagrams nesting [] m.dds)
  pub some_actions : 0 < length m.actions
  pub few_actions : length m.actions ≤ 64
  pub actions_distinct : AreDistinct (map (λ (a : Action). a.name) m.actions)
  pub actions : All (IsAction m) m.actions
  pub reward : AreRewards m m.reward
  pub discount : m.discount ≤ 999999
  pub tolerance_low : pos 0 ≤ℤ m.tolerance
  pub tolerance_high : m.tolerance ≤ℤ pos (10 ^ 30)
  pub horizon : IfSome m.horizon (λ steps. steps ≤ 1000)

abbrev pub process_of : Inside → Process
process_of m = record { vars = m.vars; dds = m.dds; actions = m.actions; reward = m.reward; discount = m.discount; tolerance = m.tolerance; horizon = m.horizon }

abbrev pub IsKept : Inside → Type 0
IsKept m = IsLawful (process_of m)
