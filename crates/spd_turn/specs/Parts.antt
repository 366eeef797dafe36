-- A process and a value as diagrams, with which a turn begins.
use Rattle.std.specs.Prelude.{◌≡◌, ℕ, List, [], ◌∷◌, ◌++◌, ℤ, Result, IfOk}
use Rattle.spd_model.specs.Process.{Process}
use Rattle.spd_model.specs.Reduced.{Node}
use Rattle.spd_model.specs.States.{sizes}
use Rattle.spd_model.specs.Turns.{IsBounded}
use Rattle.spd_nodes.specs.declared.forest.StoreFault.{StoreFault}
use Rattle.spd_nodes.specs.declared.leaf.Leaf.{Leaf}
use Rattle.spd_nodes.specs.Made.{MakesAll}
use Rattle.spd_nodes.specs.Shown.{Shown, StandsFor}
use Rattle.spd_nodes.specs.States.{Function}
use Rattle.spd_build.specs.Built.{frozen_numbers}
use Rattle.spd_backup.specs.FromBuilt.{process_functions}
use Rattle.spd_turn.specs.declared.parts.TurnParts.{TurnParts}
use Rattle.spd_turn.specs.Jobs.{CanBackUp}
use Rattle.spd_turn.specs.Turn.{present_value}

-- the list of nodes of a value within limits
pub record IsValueList (m : Process) (value : List ℕ → ℤ) (nodes : List (Node Leaf)) : Type 0 where
  pub bounded : IsBounded (sizes m) value
  pub list : nodes ≡ frozen_numbers m value

-- that of some value
pub record IsSomeValue (m : Process) (nodes : List (Node Leaf)) : Type 0 where
  pub value : List ℕ → ℤ
  pub is : IsValueList m value nodes

-- the functions with which a turn begins: those of the process, and the value
abbrev pub carried_functions : Process → (List ℕ → ℤ) → List Function
carried_functions m value = process_functions m ++ present_value value ∷ []

-- the parts of a turn: what backing up the process's actions reads, where the value follows
pub record ArePartsOf (m : Process) (value : List ℕ → ℤ) (s : Shown) (p : TurnParts) : Type 0 where
  pub can : CanBackUp m value s p.thawed p.w
  pub stands : StandsFor s p.w (present_value value)

-- A call that makes these parts, and nodes of their functions alone.
pub record MakesParts (m : Process) (value : List ℕ → ℤ) (old new : Shown) (result : Result TurnParts StoreFault) : Type 0 where
  pub made : MakesAll old new (carried_functions m value) result
  pub ok : IfOk result (ArePartsOf m value new)
