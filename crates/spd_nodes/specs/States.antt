-- Functions of a present state `s` and a next state `t`, and their test trees.
use Rattle.std.specs.Prelude.{◌≡◌, ℕ, List, [], ◌∷◌, map}
use Rattle.spd_model.specs.States.{IsState}
use Rattle.spd_nodes.specs.declared.leaf.Leaf.{Leaf}
use Rattle.spd_nodes.specs.Levels.{IsPast, slots}
use Rattle.spd_nodes.specs.Trees.{Tree, value_at, tree_of}

-- a function of the present and the next state
abbrev pub Function : Type 0
Function = List ℕ → List ℕ → Leaf

-- the point of a present and a next state: the next value of each variable and then its present one
abbrev pub point : List ℕ → List ℕ → List ℕ
point [] t = []
point (x ∷ s) [] = []
point (x ∷ s) (y ∷ t) = y ∷ x ∷ point s t

-- the next state of a point
abbrev pub primed_part : List ℕ → List ℕ
primed_part [] = []
primed_part (y ∷ []) = y ∷ []
primed_part (y ∷ x ∷ p) = y ∷ primed_part p

-- the present state of a point
abbrev pub plain_part : List ℕ → List ℕ
plain_part [] = []
plain_part (y ∷ []) = []
plain_part (y ∷ x ∷ p) = x ∷ plain_part p

-- the test tree of a function, from level 0
abbrev pub test_tree : List ℕ → Function → Tree
test_tree sizes f = tree_of (slots sizes) 0 (λ p. f (plain_part p) (primed_part p))

-- the test trees of a list of functions
abbrev pub test_trees : List ℕ → List Function → List Tree
test_trees sizes fs = map (test_tree sizes) fs

-- the function for which a tree stands
abbrev pub function_of : List ℕ → Tree → Function
function_of sizes tree s t = value_at (slots sizes) 0 tree (point s t)

-- two functions agree at all states
pub record Agree (sizes : List ℕ) (f g : Function) : Type 0 where
  pub at : (s t : List ℕ) → IsState sizes s → IsState sizes t → f s t ≡ g s t

-- two functions agree at all states whose value of a level's variable and kind is at least the level's value
pub record AgreePast (sizes : List ℕ) (level : ℕ) (f g : Function) : Type 0 where
  pub at : (s t : List ℕ) → IsState sizes s → IsState sizes t → IsPast (slots sizes) level (point s t) → f s t ≡ g s t
