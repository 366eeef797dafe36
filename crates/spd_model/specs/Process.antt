-- The process that a model stands for.
use Rattle.std.specs.Prelude.{ℕ, List, ℤ, Option}
use Rattle.spd_model.specs.declared.tree.Tree.{Tree}
use Rattle.spd_model.specs.declared.process.Var.{Var}
use Rattle.spd_model.specs.declared.process.Action.{Action}

-- A factored process: its variables, the trees of its named decision diagrams, its actions, the parts of its reward,
-- its discount in units of 10^-6, its tolerance in units of 10^-9, and its number of steps, where one is stated.
pub record Process : Type 0 where
  pub vars : List Var
  pub dds : List Tree
  pub actions : List Action
  pub reward : List Tree
  pub discount : ℕ
  pub tolerance : ℤ
  pub horizon : Option ℕ
