-- The unique table of a list of nodes, and what building a diagram adds to it.
use Rattle.std.specs.Prelude.{◌≡◌, ℕ, suc, ◌<◌, List, [], ◌∷◌, length, map, slice_index_or, pos, Result, IfOk, All, Contains, Vec}
use Rattle.spd_model.specs.declared.process.Var.{Var}
use Rattle.spd_model.specs.Reduced.{Diagram, Subtrees, none, also, subtrees_of, Node, with_node, nodes_after, nodes_after_all, node_number, reduced_from}
use Rattle.spd_nodes.specs.Trees.{leaf_eq}
use Rattle.spd_nodes.specs.declared.leaf.Leaf.{Leaf}
use Rattle.spd_nodes.specs.declared.leaf.Leaf.TheVariants.{Num}
use Rattle.spd_frozen.specs.Frozen.{diagrams, entry_at}

-- the kids of a node have numbers below this one
abbrev pub HasKidsBelow : ℕ → Node Leaf → Type 0
HasKidsBelow n (Node.leaf x) = Unit {0}
HasKidsBelow n (Node.branch var kids) = All (λ k. k < n) kids

-- kids stand before their parents, where the first of these nodes has the number n
abbrev pub KidsFirst : ℕ → List (Node Leaf) → Type 0
KidsFirst n [] = Unit {0}
KidsFirst n (node ∷ nodes) = HasKidsBelow n node × KidsFirst (suc n) nodes

-- each diagram stands once: its number is its place
abbrev pub AreApart : List (Diagram Leaf) → Type 0
AreApart ds = (k : ℕ) → k < length ds → node_number leaf_eq ds (slice_index_or ds k (Diagram.leaf (Num (pos 0)))) ≡ k

-- what a unique table keeps
pub record IsUniqueTable (nodes : List (Node Leaf)) : Type 0 where
  pub kids_first : KidsFirst 0 nodes
  pub apart : AreApart (diagrams nodes)

-- all of some subtrees are among these diagrams
abbrev pub AreAmong : List (Diagram Leaf) → Subtrees Leaf → Type 0
AreAmong ds none = Unit {0}
AreAmong ds (also e es) = Contains ds e × AreAmong ds es

abbrev pub HasSubtreesAmong : List (Diagram Leaf) → Diagram Leaf → Type 0
HasSubtreesAmong ds (Diagram.leaf x) = Unit {0}
HasSubtreesAmong ds (Diagram.branch var es) = AreAmong ds es

-- with each diagram its subtrees are there
abbrev pub IsClosed : List (Diagram Leaf) → Type 0
IsClosed ds = All (HasSubtreesAmong ds) ds

-- a diagram whose subtrees stand in a table was put in its last place, unless it was there; its number is answered
abbrev pub Completes : {E : Type 0} → Diagram Leaf → List (Node Leaf) → Result ℕ E → List (Node Leaf) → Type 0
Completes d old result new =
    IfOk result (λ number. (diagrams new ≡ with_node leaf_eq (diagrams old) d) × (number ≡ node_number leaf_eq (diagrams new) d))

-- all nodes of a diagram were completed; the number of its root is answered
abbrev pub Builds : {E : Type 0} → Diagram Leaf → List (Node Leaf) → Result ℕ E → List (Node Leaf) → Type 0
Builds d old result new =
    IfOk result (λ number. (diagrams new ≡ nodes_after leaf_eq (diagrams old) d) × (number ≡ node_number leaf_eq (diagrams new) d))

-- all nodes of some diagrams were completed one diagram after the other; the numbers of their roots are answered
abbrev pub BuildsAll : {E Z : Type 0} → List (Diagram Leaf) → List (Node Leaf) → Result (Vec ℕ Z) E → List (Node Leaf) → Type 0
BuildsAll ds old result new =
    IfOk result (λ numbers. (diagrams new ≡ nodes_after_all leaf_eq (diagrams old) (subtrees_of ds))
    × (numbers.items ≡ map (node_number leaf_eq (diagrams new)) ds))

-- the number of values of each of some variables
abbrev pub sizes_of : List Var → List ℕ
sizes_of vars = map (λ (x : Var). length x.values) vars

-- the reduced diagram that follows the value v of the variable `var` in a table over that variable and later ones
abbrev pub subdiagram : ℕ → ℕ → List ℕ → List Leaf → ℕ → Diagram Leaf
subdiagram var size sizes leaves v = reduced_from leaf_eq (suc var) sizes (λ s. entry_at (size ∷ sizes) leaves (v ∷ s))
