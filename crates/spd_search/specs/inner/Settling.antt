-- Giving the variables their values, one after the other.
use Rattle.std.specs.Prelude.{◌≡◌, ℕ, ◌<◌, Bool, List, [], ◌∷◌, ◌++◌, length, slice_index, Some, None}
use Rattle.spd_nodes.specs.declared.leaf.Leaf.{Leaf}
use Rattle.spd_nodes.specs.Trees.{Tree}
use Rattle.spd_search.specs.inner.Looking.{leaf_under}

-- values of the first variables, each below its variable's number of values
abbrev pub AreFirst : List ℕ → List ℕ → Type 0
AreFirst sizes [] = Unit {0}
AreFirst [] (v ∷ first) = ⊥
AreFirst (d ∷ ds) (v ∷ first) = (v < d) × AreFirst ds first

-- One value more: the first one at which a tree has a leaf that is wanted, which is this one.
pub record Settles (sizes : List ℕ) (wants : Leaf → Bool) (tree : Tree) (old new : List ℕ) (leaf : Leaf) : Type 0 where
  pub value : ℕ
  pub values : new ≡ old ++ value ∷ []
  pub within : value < slice_index sizes (length old)
  pub here : leaf_under sizes wants new tree ≡ Some leaf
  pub before : (v : ℕ) → v < value → leaf_under sizes wants (old ++ v ∷ []) tree ≡ None
