-- What trees come to: the value of a tree at a state, its written parts, its nesting.
use Rattle.std.specs.Prelude.{ℕ, ◌+◌, max, ◌++◌, Bool, if◌then◌else◌, List, [], ◌∷◌, length, fold, flat_map, ℤ, pos, slice_index, slice_index_or}
use Rattle.spd_model.specs.declared.tree.Tree.{Tree, Leaf, Named, Branch', Row_of-Tree, end_of-Tree, more_of-Tree}
use Rattle.spd_model.specs.Process.{Process}

-- A way to read trees: what a leaf comes to; what a branch comes to, by its variable, whether it follows the next value, and
-- what its subtrees come to; and what stands for a decision diagram that isn't there.
pub record Reading (X : Type 0) : Type 0 where
  pub leaf : ℤ → X
  pub branch : ℕ → Bool → List X → X
  pub absent : X

abbrev mutual
  -- what a tree comes to, where the decision diagrams came to `diagrams`
  pub read_tree : {X : Type 0} → Reading X → List X → Tree → X
  read_tree way diagrams (Leaf x) = way.leaf x
  read_tree way diagrams (Named d) = slice_index_or diagrams d way.absent
  read_tree way diagrams (Branch' var primed shape kids) = way.branch var primed (read_kids way diagrams kids)

  pub read_kids : {X : Type 0} → Reading X → List X → {n : _} → Row_of-Tree n → List X
  read_kids way diagrams end_of-Tree = []
  read_kids way diagrams (more_of-Tree kid kids) = read_tree way diagrams kid ∷ read_kids way diagrams kids

-- what decision diagrams come to in file order: each one may name those before it
abbrev pub read_diagrams : {X : Type 0} → Reading X → List X → List Tree → List X
read_diagrams way before [] = before
read_diagrams way before (dd ∷ dds) = read_diagrams way (before ++ read_tree way before dd ∷ []) dds

-- what a tree of a process comes to
abbrev pub read_in : {X : Type 0} → Reading X → Process → Tree → X
read_in way m tree = read_tree way (read_diagrams way [] m.dds) tree

-- following the present state s at plain names and the next state t at primed names
abbrev pub following : List ℕ → List ℕ → Reading ℤ
following s t = record {
  leaf = λ x. x;
  branch = λ var primed kids. slice_index_or kids (slice_index (if primed then t else s) var) (pos 0);
  absent = pos 0;
}

-- The value of a tree: the leaf that is reached by following s at plain names and t at primed names, in units of 10^-12.
-- `(name)` stands for the tree of that decision diagram.
abbrev pub value_of : Process → Tree → List ℕ → List ℕ → ℤ
value_of m tree s t = read_in (following s t) m tree

-- a part of a tree as it is written: a number, a branch with its count of subtrees, or the name of a diagram that isn't there
pub data Part : Type 0 where
  number : ℤ → Part
  choice : ℕ → Bool → ℕ → Part
  missing : Part

abbrev pub parts : Reading (List Part)
parts = record {
  leaf = λ x. number x ∷ [];
  branch = λ var primed kids. choice var primed (length kids) ∷ flat_map (λ kid. kid) kids;
  absent = missing ∷ [];
}

-- all numbers and branches of a tree as written, with those of the diagrams that it names
abbrev pub parts_of : Process → Tree → List Part
parts_of m tree = read_in parts m tree

abbrev pub nesting : Reading ℕ
nesting = record {
  leaf = λ x. 1;
  branch = λ var primed kids. 1 + fold max 0 kids;
  absent = 0;
}

-- how deep a tree nests: a number is 1, a branch one more than its deepest subtree, `(name)` what that diagram is
abbrev pub nesting_of : Process → Tree → ℕ
nesting_of m tree = read_in nesting m tree
