-- The test trees of the nodes of a list over slots, and what thawing keeps.
use Rattle.std.specs.Prelude.{◌≡◌, ℕ, ◌+◌, ◌-◌, List, [], ◌∷◌, length, map, take, pos, slice_index_or, slice_get, Option, Some}
use Rattle.spd_cons_core.specs.declared.key.Entry.{Entry}
use Rattle.spd_model.specs.Reduced.{Diagram, Subtrees, none, also, Node}
use Rattle.spd_nodes.specs.declared.leaf.Leaf.{Leaf}
use Rattle.spd_nodes.specs.declared.leaf.Leaf.TheVariants.{Num}
use Rattle.spd_nodes.specs.Levels.{levels_of, slots, slot_of}
use Rattle.spd_nodes.specs.Trees.{Tree, Ends, chain}
use Rattle.spd_nodes.specs.Shown.{Shown, KnowsAs}
use Rattle.spd_frozen.specs.declared.thawing.Root.{Root}
use Rattle.spd_frozen.specs.declared.thawing.Root.TheVariants as R
use Rattle.spd_frozen.specs.Frozen.{diagrams}

abbrev pub none_tree : Tree
none_tree = Ends (Num (pos 0))

-- the tests of a slot that begins at this level from a value on, where these trees follow its values
abbrev pub tests_from : List Tree → ℕ → ℕ → Tree
tests_from trees first value = chain (length trees - 1 - value) value (first + value) (λ j. slice_index_or trees j none_tree)

-- the test tree of a diagram over slots: a branch is the tests of its slot
abbrev mutual
  pub slot_tree : List ℕ → Diagram Leaf → Tree
  slot_tree ds (Diagram.leaf x) = Ends x
  slot_tree ds (Diagram.branch v es) = tests_from (slot_trees ds es) (levels_of (take v ds)) 0

  pub slot_trees : List ℕ → Subtrees Leaf → List Tree
  slot_trees ds none = []
  slot_trees ds (also e es) = slot_tree ds e ∷ slot_trees ds es

-- the test tree of a node of a list
abbrev pub node_tree : List ℕ → List (Node Leaf) → ℕ → Tree
node_tree ds nodes i = slot_tree ds (slice_index_or (diagrams nodes) i (Diagram.leaf (Num (pos 0))))

abbrev pub node_at : List (Node Leaf) → ℕ → Node Leaf
node_at nodes i = slice_index_or nodes i (Node.leaf (Num (pos 0)))

-- the kids of a node, none for a leaf, and the slot of a branch
abbrev pub node_kids : Node Leaf → List ℕ
node_kids (Node.leaf x) = []
node_kids (Node.branch v kids) = kids

abbrev pub node_slot : Node Leaf → ℕ
node_slot (Node.leaf x) = 0
node_slot (Node.branch v kids) = v

-- what stands at a node
abbrev pub IsRootOf : Node Leaf → Root → Type 0
IsRootOf node (R.Leaf a) = node ≡ Node.leaf a
IsRootOf node (R.Branch var primed) = node ≡ Node.branch (slot_of var primed) (node_kids node)

-- the trees that follow the values at a branch
abbrev pub kid_trees : List ℕ → List (Node Leaf) → ℕ → List Tree
kid_trees ds nodes i = map (node_tree ds nodes) (node_kids (node_at nodes i))

-- the entries that were made are known as their nodes' trees
pub record HasMade (s : Shown) (nodes : List (Node Leaf)) (made : List (Option Entry)) : Type 0 where
  pub long : length made ≡ length nodes
  pub known : (i : ℕ) (r : Entry) → slice_get made i ≡ Some (Some r) → KnowsAs s r (node_tree (slots s.sizes) nodes i)
