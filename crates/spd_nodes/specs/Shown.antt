-- What a forest shows to contracts.
use Rattle.std.specs.Prelude.{◌≡◌, ℕ, ◌≢◌, ◌⊎◌, ◌==◌, Bool, true, cond, List, [], ◌∷◌, Result, IfOk, IfErr}
use Rattle.spd_cons_core.specs.declared.key.Entry.{Entry}
use Rattle.spd_nodes.specs.declared.forest.View.{View}
use Rattle.spd_nodes.specs.declared.forest.View.TheVariants as V
use Rattle.spd_nodes.specs.declared.forest.StoreFault.{StoreFault}
use Rattle.spd_nodes.specs.declared.forest.StoreFault.TheVariants as F
use Rattle.spd_nodes.specs.Levels.{slots}
use Rattle.spd_nodes.specs.Limits.{IsLayout}
use Rattle.spd_nodes.specs.Trees.{Tree, Ends, Tests, IsReduced, IsNodeOf, IsFrom}
use Rattle.spd_nodes.specs.States.{Function, test_tree, test_trees, function_of, Agree}

-- A forest shows each variable's number of values; which entries it knows, and the test tree of each; which ones it
-- published; and whether it is full.
pub record Shown : Type 0 where
  pub sizes : List ℕ
  pub knows : Entry → Bool
  pub tree : Entry → Tree
  pub published : Entry → Bool
  pub full : Bool

-- The trees that a forest knows are reduced, each is known as one entry, and what it published it knows.
pub record IsSound (s : Shown) : Type 0 where
  pub layout : IsLayout s.sizes
  pub reduced : (r : Entry) → s.knows r ≡ true → IsReduced (slots s.sizes) 0 (s.tree r)
  pub once : (r q : Entry) → s.knows r ≡ true → s.knows q ≡ true → s.tree r ≡ s.tree q → r ≡ q
  pub listed : (r : Entry) → s.published r ≡ true → s.knows r ≡ true

-- All that a forest knew and published stays with its trees, a full one stays full, and its layout stays.
pub record Grows (s t : Shown) : Type 0 where
  pub sizes : t.sizes ≡ s.sizes
  pub knows : (r : Entry) → s.knows r ≡ true → t.knows r ≡ true
  pub trees : (r : Entry) → s.knows r ≡ true → t.tree r ≡ s.tree r
  pub published : (r : Entry) → s.published r ≡ true → t.published r ≡ true
  pub full : s.full ≡ true → t.full ≡ true

-- What it published since is nodes of these trees.
pub record MakesOnly (s t : Shown) (trees : List Tree) : Type 0 where
  pub only : (r : Entry) → t.published r ≡ true → (s.published r ≡ true) ⊎ IsNodeOf (t.tree r) trees

-- It is full, and some node of these trees isn't known.
pub record LacksOne (s : Shown) (trees : List Tree) : Type 0 where
  pub full : s.full ≡ true
  pub node : Tree
  pub is_node : IsNodeOf node trees
  pub unknown : (r : Entry) → s.knows r ≡ true → s.tree r ≢ node

-- What a fault says of the trees that a call makes: where it is Full, one of their nodes is missing. Memory is free.
abbrev pub Faults : StoreFault → Shown → List Tree → Type 0
Faults F.Full s trees = LacksOne s trees
Faults F.Memory s trees = Unit {0}

-- It knows a tree as an entry.
pub record KnowsAs (s : Shown) (r : Entry) (t : Tree) : Type 0 where
  pub knows : s.knows r ≡ true
  pub tree : s.tree r ≡ t

-- an entry whose root is a leaf or a test of a first value
abbrev pub IsWhole : Shown → Entry → Type 0
IsWhole s r = IsFrom (slots s.sizes) 0 0 (s.tree r)

-- the function for which an entry stands
abbrev pub meaning : Shown → Entry → Function
meaning s r = function_of s.sizes (s.tree r)

-- A whole entry is known and stands for a function: it has its value at all states, and its tree is the function's test tree.
pub record StandsFor (s : Shown) (r : Entry) (f : Function) : Type 0 where
  pub knows : s.knows r ≡ true
  pub whole : IsWhole s r
  pub value : Agree s.sizes (meaning s r) f
  pub tree : s.tree r ≡ test_tree s.sizes f

-- What it published since is nodes of these functions.
abbrev pub MakesNodesOf : Shown → Shown → List Function → Type 0
MakesNodesOf s t fs = MakesOnly s t (test_trees s.sizes fs)

-- What a fault says of the functions whose nodes a call makes.
abbrev pub FaultsAt : StoreFault → Shown → List Function → Type 0
FaultsAt e s fs = Faults e s (test_trees s.sizes fs)

-- A call that makes a tree. Whatever it answers, the forest is sound afterwards, shows all that it showed, and published
-- nodes of this tree alone. Ok names the tree's entry, and Full comes only where the forest is full and lacks one of its nodes.
pub record MakesTree (old new : Shown) (t : Tree) (result : Result Entry StoreFault) : Type 0 where
  pub sound : IsSound new
  pub grows : Grows old new
  pub ok : IfOk result (λ r. KnowsAs new r t)
  pub makes : MakesOnly old new (t ∷ [])
  pub fault : IfErr result (λ e. Faults e new (t ∷ []))

-- A call that makes the diagram of a function, and on its way the nodes of some functions. Whatever it answers, the forest is
-- sound afterwards, shows all that it showed, and published nodes of those functions alone. Ok names an entry that stands for
-- the function, and Full comes only where the forest is full and lacks one of those nodes.
pub record MakesAmong (old new : Shown) (f : Function) (nodes : List Function) (result : Result Entry StoreFault) : Type 0 where
  pub sound : IsSound new
  pub grows : Grows old new
  pub ok : IfOk result (λ r. StandsFor new r f)
  pub makes : MakesNodesOf old new nodes
  pub fault : IfErr result (λ e. FaultsAt e new nodes)

-- the same, on the way only nodes of the diagram itself
abbrev pub MakesDiagram : Shown → Shown → Function → Result Entry StoreFault → Type 0
MakesDiagram old new f result = MakesAmong old new f (f ∷ []) result

-- The root of an entry, with its children, which are known.
abbrev pub IsViewOf : Shown → Entry → View → Type 0
IsViewOf s r (V.Leaf a) = s.tree r ≡ Ends a
IsViewOf s r (V.Test l y n) = (s.tree r ≡ Tests l.0 (s.tree y) (s.tree n)) × (s.knows y ≡ true) × (s.knows n ≡ true)

-- the find-or-make calls of a test with these children: none where they are equal, else one
abbrev pub test_steps : Entry → Entry → ℕ
test_steps y n = cond (y.0 == n.0) 0 1
