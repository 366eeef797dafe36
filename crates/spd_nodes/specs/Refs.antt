-- The entries that are reached from one.
use Rattle.std.specs.Prelude.{◌≡◌, ℕ, ◌<◌, ◌==◌, ◌⊎◌, Bool, true, List, [], ◌∷◌, ◌++◌, length, slice_index_or, take, Contains}
use Rattle.std.specs.List.{IsDistinct}
use Rattle.std.specs.Set.{distinct_count}
use Rattle.spd_cons_core.specs.declared.key.Entry.{Entry}
use Rattle.spd_nodes.specs.Trees.{Tree, Ends, Tests, IsNode, subtrees_of, tree_eq}
use Rattle.spd_nodes.specs.Shown.{Shown}

-- whether two entries are the same
abbrev pub entry_eq : Entry → Entry → Bool
entry_eq a b = a.0 == b.0

-- an entry was in a list, or was put in its last place
abbrev pub AddsRef : List Entry → List Entry → Entry → Type 0
AddsRef old new r = ((new ≡ old) × Contains old r) ⊎ ((new ≡ old ++ r ∷ []) × ¬ Contains old r)

-- a list has an entry of a tree
pub record HasTree (s : Shown) (refs : List Entry) (x : Tree) : Type 0 where
  pub ref : Entry
  pub is_in : Contains refs ref
  pub tree : s.tree ref ≡ x

-- a list has an entry of each child of a tree's root
abbrev pub HasChildren : Shown → List Entry → Tree → Type 0
HasChildren s refs (Ends a) = Unit {0}
HasChildren s refs (Tests l y n) = HasTree s refs y × HasTree s refs n

-- the children of each entry of a list stand before it
abbrev pub ChildrenFirst : Shown → List Entry → Type 0
ChildrenFirst s refs = (i : ℕ) (q : Entry) → i < length refs → slice_index_or refs i q ≡ q → HasChildren s (take i refs) (s.tree q)

-- The entries of a list are known, none stands twice, children stand first, and with each tree all of its nodes are there.
pub record IsClosed (s : Shown) (refs : List Entry) : Type 0 where
  pub distinct : IsDistinct entry_eq refs
  pub known : (q : Entry) → Contains refs q → s.knows q ≡ true
  pub order : ChildrenFirst s refs
  pub nodes : (q : Entry) (x : Tree) → Contains refs q → IsNode x (s.tree q) → HasTree s refs x

-- A list that is closed gained an entry, and besides that only nodes of the entry's tree.
pub record Visits (s : Shown) (old new : List Entry) (r : Entry) : Type 0 where
  pub closed : IsClosed s new
  pub kept : (q : Entry) → Contains old q → Contains new q
  pub found : Contains new r
  pub only : (q : Entry) → Contains new q → Contains old q ⊎ IsNode (s.tree q) (s.tree r)

-- A list has an entry of each node of an entry's tree, none of them twice, children first, and no other entry.
pub record IsReached (s : Shown) (r : Entry) (refs : List Entry) : Type 0 where
  pub distinct : IsDistinct entry_eq refs
  pub known : (q : Entry) → Contains refs q → s.knows q ≡ true
  pub order : ChildrenFirst s refs
  pub nodes : (q : Entry) → Contains refs q → IsNode (s.tree q) (s.tree r)
  pub all : (x : Tree) → IsNode x (s.tree r) → HasTree s refs x

-- the number of distinct nodes of a tree, leaves included
abbrev pub node_count : Tree → ℕ
node_count t = distinct_count tree_eq (subtrees_of t)
