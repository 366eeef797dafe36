-- Which diagrams and which iterates fit a model.
use Rattle.std.specs.Prelude.{◌≡◌, ℕ, ◌<◌, List, length, pos, slice_index, All}
use Rattle.spd_scaled.specs.Scaled.{IsWithin}
use Rattle.spd_model.specs.Process.{Process}
use Rattle.spd_model.specs.Reduced.{Node}
use Rattle.spd_model.specs.States.{sizes, IsState}
use Rattle.spd_model.specs.Turns.{value_limit}
use Rattle.spd_nodes.specs.declared.leaf.Leaf.{Leaf}
use Rattle.spd_nodes.specs.declared.leaf.Leaf.TheVariants.{Num, Pair, Act}
use Rattle.spd_frozen.specs.declared.iterate.Iterate.{Iterate}

-- a branch is on one of the variables and has one kid for each of its values
abbrev pub FitsNode : List ℕ → Node Leaf → Type 0
FitsNode sizes (Node.leaf x) = Unit {0}
FitsNode sizes (Node.branch var kids) = (var < length sizes) × (length kids ≡ slice_index sizes var)

-- a diagram fits variables with these numbers of values
abbrev pub FitsSizes : List ℕ → List (Node Leaf) → Type 0
FitsSizes sizes nodes = All (FitsNode sizes) nodes

-- each leaf of a diagram is such a one
abbrev pub HasLeaf : (Leaf → Type 0) → Node Leaf → Type 0
HasLeaf P (Node.leaf x) = P x
HasLeaf P (Node.branch var kids) = Unit {0}

abbrev pub HasLeaves : (Leaf → Type 0) → List (Node Leaf) → Type 0
HasLeaves P nodes = All (HasLeaf P) nodes

-- a leaf of a value: a number that no value of any turn passes
abbrev pub IsValue : Leaf → Type 0
IsValue (Num x) = IsWithin (pos value_limit) x
IsValue (Pair x y) = ⊥
IsValue (Act a) = ⊥

-- a leaf of a policy: one of so many actions
abbrev pub IsChoice : ℕ → Leaf → Type 0
IsChoice actions (Num x) = ⊥
IsChoice actions (Pair x y) = ⊥
IsChoice actions (Act a) = a < actions

-- an iterate fits a model: its diagrams and its state are over the model's variables, its value's leaves are values, its
-- policy's leaves and the residual's action are actions of the model
pub record FitsModel (m : Process) (x : Iterate) : Type 0 where
  pub value : FitsSizes (sizes m) x.value
  pub policy : FitsSizes (sizes m) x.policy
  pub values : HasLeaves IsValue x.value
  pub choices : HasLeaves (IsChoice (length m.actions)) x.policy
  pub state : IsState (sizes m) x.residual.at
  pub action : x.residual.action < length m.actions
