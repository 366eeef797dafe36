-- The reduced decision diagram of a function of states, and the list of its nodes.
use Rattle.std.specs.Prelude.{ℕ, suc, ◌++◌, Bool, true, false, ◌&&◌, ◌==◌, if◌then◌else◌, List, [], ◌∷◌, map, position, unwrap_or}
use Rattle.std.specs.List.{list_any, list_all}
use Rattle.spd_model.specs.Numbers.{numbers_below}

-- A diagram as a tree: a leaf, or a branch on a variable with one subtree for each of its values in order.
mutual
  pub data Diagram (X : Type 0) : Type 0 where
    leaf : X → Diagram X
    branch : ℕ → Subtrees X → Diagram X

  pub data Subtrees (X : Type 0) : Type 0 where
    none : Subtrees X
    also : Diagram X → Subtrees X → Subtrees X

abbrev pub subtrees_of : {X : Type 0} → List (Diagram X) → Subtrees X
subtrees_of [] = none
subtrees_of (d ∷ ds) = also d (subtrees_of ds)

-- whether two diagrams are equal, where `same` compares leaves
abbrev mutual
  pub is_equal : {X : Type 0} → (X → X → Bool) → Diagram X → Diagram X → Bool
  is_equal same (leaf x) (leaf y) = same x y
  is_equal same (leaf x) (branch w es) = false
  is_equal same (branch v ds) (leaf y) = false
  is_equal same (branch v ds) (branch w es) = v == w && are_equal same ds es

  pub are_equal : {X : Type 0} → (X → X → Bool) → Subtrees X → Subtrees X → Bool
  are_equal same none none = true
  are_equal same none (also e es) = false
  are_equal same (also d ds) none = false
  are_equal same (also d ds) (also e es) = is_equal same d e && are_equal same ds es

-- the branch on a variable with these subtrees, left out exactly where all of them are equal
abbrev pub choice_of : {X : Type 0} → (X → X → Bool) → ℕ → List (Diagram X) → Diagram X
choice_of same var [] = branch var none
choice_of same var (d ∷ ds) = if list_all (is_equal same d) ds then d else branch var (subtrees_of (d ∷ ds))

-- the reduced diagram of a function of the states of variables of these sizes, the first of which has the number `var`
abbrev pub reduced_from : {X : Type 0} → (X → X → Bool) → ℕ → List ℕ → (List ℕ → X) → Diagram X
reduced_from same var [] f = leaf (f [])
reduced_from same var (size ∷ sizes) f =
    choice_of same var (map (λ v. reduced_from same (suc var) sizes (λ s. f (v ∷ s))) (numbers_below size))

abbrev pub reduced : {X : Type 0} → (X → X → Bool) → List ℕ → (List ℕ → X) → Diagram X
reduced same sizes f = reduced_from same 0 sizes f

-- a list of distinct diagrams with one more at its end, unless it is there
abbrev pub with_node : {X : Type 0} → (X → X → Bool) → List (Diagram X) → Diagram X → List (Diagram X)
with_node same nodes d = if list_any (is_equal same d) nodes then nodes else nodes ++ d ∷ []

-- The distinct subtrees of a diagram after those of `before`, in order of first completion: the subtrees of a branch in order of
-- the values, then the branch.
abbrev mutual
  pub nodes_after : {X : Type 0} → (X → X → Bool) → List (Diagram X) → Diagram X → List (Diagram X)
  nodes_after same before (leaf x) = with_node same before (leaf x)
  nodes_after same before (branch var ds) = with_node same (nodes_after_all same before ds) (branch var ds)

  pub nodes_after_all : {X : Type 0} → (X → X → Bool) → List (Diagram X) → Subtrees X → List (Diagram X)
  nodes_after_all same before none = before
  nodes_after_all same before (also d ds) = nodes_after_all same (nodes_after same before d) ds

-- the distinct subtrees of a diagram in order of first completion: its root is the last
abbrev pub nodes_of : {X : Type 0} → (X → X → Bool) → Diagram X → List (Diagram X)
nodes_of same d = nodes_after same [] d

-- the number of a diagram among nodes that it is one of
abbrev pub node_number : {X : Type 0} → (X → X → Bool) → List (Diagram X) → Diagram X → ℕ
node_number same nodes d = unwrap_or (position (is_equal same d) nodes) 0

abbrev pub node_numbers : {X : Type 0} → (X → X → Bool) → List (Diagram X) → Subtrees X → List ℕ
node_numbers same nodes none = []
node_numbers same nodes (also d ds) = node_number same nodes d ∷ node_numbers same nodes ds

-- A node of a diagram that is written as a list: a leaf, or a branch on a variable with the numbers of its subtrees' nodes, one
-- for each value in order. Nodes are numbered from 0.
pub data Node (X : Type 0) : Type 0 where
  leaf : X → Node X
  branch : ℕ → List ℕ → Node X

abbrev pub node_of : {X : Type 0} → (X → X → Bool) → List (Diagram X) → Diagram X → Node X
node_of same nodes (leaf x) = Node.leaf x
node_of same nodes (branch var ds) = Node.branch var (node_numbers same nodes ds)

-- a diagram as a list of nodes: one for each of its distinct subtrees, in order of first completion
abbrev pub listed : {X : Type 0} → (X → X → Bool) → Diagram X → List (Node X)
listed same d = let nodes = nodes_of same d in map (node_of same nodes) nodes
