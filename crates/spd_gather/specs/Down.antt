-- Several trees at once, down from level to level.
use Rattle.std.specs.Prelude.{ℕ, ◌+◌, ◌<◌, ◌≤◌, List, [], ◌∷◌, map}
use Rattle.std.proofs.Common.{zero, suc}
use Rattle.spd_nodes.specs.declared.leaf.Leaf.{Leaf}
use Rattle.spd_nodes.specs.Levels.{levels_of, after}
use Rattle.spd_nodes.specs.Trees.{Tree, Ends, Tests, IsFrom, IsReduced, IsAtOrPast, join}
use Rattle.spd_apply.specs.Halves.{yes_at, no_at, IsNotBefore}

-- each of some trees is such a tree
abbrev pub Each : (Tree → Type 0) → List Tree → Type 0
Each P [] = Unit {0}
Each P (t ∷ ts) = P t × Each P ts

-- what is made of some trees
abbrev pub Making : Type 0
Making = List Tree → Tree

-- what is made of trees by going down so many levels, from a level on: at each, the test of what is made of the halves there
abbrev pub down : Making → ℕ → ℕ → Making
down bottom zero l ts = bottom ts
down bottom (suc n) l ts = join l (down bottom n (l + 1) (map (yes_at l) ts)) (down bottom n (l + 1) (map (no_at l) ts))

-- the leaf of a tree past all levels
abbrev pub last_leaf : Tree → Leaf
last_leaf (Ends a) = a
last_leaf (Tests l y n) = last_leaf n

-- an operation on the leaves of several trees
abbrev pub at_leaves : (List Leaf → Leaf) → Making
at_leaves op ts = Ends (op (map last_leaf ts))

-- the operation at each leaf, below so many levels
abbrev pub at_each_leaf : ℕ → (List Leaf → Leaf) → Making
at_each_leaf levels op ts = down (at_leaves op) levels 0 ts

-- a tree is reduced, and its root isn't before a level
abbrev pub Stands : List ℕ → ℕ → Tree → Type 0
Stands ds l t = IsReduced ds 0 t × IsNotBefore l t

-- a tree is reduced, and tests a level first or is past its slot
abbrev pub FitsAt : List ℕ → ℕ → Tree → Type 0
FitsAt ds l t = IsReduced ds 0 t × IsAtOrPast ds l t

-- No slot lies on both sides of the level `stop`, and of whole trees that aren't before it reduced whole ones are made.
pub record EndsAt (ds : List ℕ) (stop : ℕ) (bottom : Making) : Type 0 where
  pub levels : stop ≤ levels_of ds
  pub within : (l : ℕ) → l < levels_of ds → l < stop → after ds l ≤ stop
  pub reduced : (e : ℕ) (ts : List Tree) → e ≤ stop → Each (Stands ds stop) ts → Each (IsFrom ds 0 e) ts → IsReduced ds 0 (bottom ts) × IsFrom ds 0 e (bottom ts)
