-- What a list of keys shows: the store for one thread.
use Rattle.std.specs.Prelude.{◌≡◌, ℕ, ◌<◌, ◌≤◌, nat_lt, nat_le, List, [], ◌∷◌, ◌++◌, length, slice_index_or, Result, Err, OnErr, ◌↔◌}
use Rattle.spd_cons_core.specs.declared.key.Entry.{Entry}
use Rattle.spd_cons_core.specs.declared.key.Key.{Key}
use Rattle.spd_cons_core.specs.declared.key.Key.TheVariants as K
use Rattle.spd_nodes.specs.declared.leaf.Leaf.{Leaf}
use Rattle.spd_nodes.specs.declared.leaf.Leaf.TheVariants as L
use Rattle.spd_nodes.specs.declared.forest.View.{View}
use Rattle.spd_nodes.specs.declared.forest.View.TheVariants as V
use Rattle.spd_nodes.specs.Keys.{IsAbsent}
use Rattle.spd_nodes.specs.Levels.{slots}
use Rattle.spd_nodes.specs.Limits.{IsLayout}
use Rattle.spd_nodes.specs.Trees.{Tree, Ends, Tests, IsReduced}
use Rattle.spd_nodes.specs.declared.forest.StoreFault.{StoreFault}
use Rattle.spd_nodes.specs.declared.forest.StoreFault.TheVariants as F
use Rattle.spd_nodes.specs.Shown.{Shown, MakesTree}

-- the tree at a place
abbrev pub tree_in : List Tree → ℕ → Tree
tree_in ts i = slice_index_or ts i (Ends (L.Act 0))

-- the tree of a key, whose children have these trees
abbrev pub tree_by : List Tree → Key → Tree
tree_by ts (K.Test l y n) = Tests l (tree_in ts y.0) (tree_in ts n.0)
tree_by ts (K.Num a) = Ends (L.Num a)
tree_by ts (K.Pair a b) = Ends (L.Pair a b)
tree_by ts (K.Act a) = Ends (L.Act a)

-- these trees, and then the trees of keys, each over the trees before it
abbrev pub trees_from : List Tree → List Key → List Tree
trees_from ts [] = ts
trees_from ts (k ∷ ks) = trees_from (ts ++ tree_by ts k ∷ []) ks

abbrev pub trees_of : List Key → List Tree
trees_of ks = trees_from [] ks

-- each variable's number of values, the keys in order of their entries, and how many there may be
pub record Held : Type 0 where
  pub sizes : List ℕ
  pub keys : List Key
  pub limit : ℕ

-- Entry i is the key at place i. All entries are known and published, and the store is full where `limit` stand.
abbrev pub shown : Held → Shown
shown h = record {
  sizes = h.sizes;
  knows = λ r. nat_lt r.0 (length h.keys);
  tree = λ r. tree_in (trees_of h.keys) r.0;
  published = λ r. nat_lt r.0 (length h.keys);
  full = nat_le h.limit (length h.keys);
}

-- the key of a leaf
abbrev pub leaf_key : Leaf → Key
leaf_key (L.Num a) = K.Num a
leaf_key (L.Pair a b) = K.Pair a b
leaf_key (L.Act a) = K.Act a

-- what a key is seen as
abbrev pub key_view : Key → View
key_view (K.Test l y n) = V.Test (record { 0 = l }) y n
key_view (K.Num a) = V.Leaf (L.Num a)
key_view (K.Pair a b) = V.Leaf (L.Pair a b)
key_view (K.Act a) = V.Leaf (L.Act a)

-- a key's children stand before this place
abbrev pub ChildrenBefore : ℕ → Key → Type 0
ChildrenBefore n (K.Test l y m) = (y.0 < n) × (m.0 < n)
ChildrenBefore n (K.Num a) = Unit {0}
ChildrenBefore n (K.Pair a b) = Unit {0}
ChildrenBefore n (K.Act a) = Unit {0}

-- limit entries stand, and the key isn't among them
pub record LeavesNoRoom (h : Held) (key : Key) : Type 0 where
  pub full : h.limit ≤ length h.keys
  pub absent : IsAbsent h.keys key

-- each key's tree is reduced, stands once, and is made of earlier ones
pub record IsStore (h : Held) : Type 0 where
  pub fits : length h.keys ≤ h.limit
  pub layout : IsLayout h.sizes
  pub below : (i : ℕ) → i < length h.keys → ChildrenBefore i (slice_index_or h.keys i (K.Act 0))
  pub reduced : (i : ℕ) → i < length h.keys → IsReduced (slots h.sizes) 0 (tree_in (trees_of h.keys) i)
  pub once : (i j : ℕ) → i < length h.keys → j < length h.keys → tree_in (trees_of h.keys) i ≡ tree_in (trees_of h.keys) j → i ≡ j

-- a key that may stand in the store
pub record KeyFits (h : Held) (key : Key) : Type 0 where
  pub below : ChildrenBefore (length h.keys) key
  pub reduced : IsReduced (slots h.sizes) 0 (tree_by (trees_of h.keys) key)

-- A call that looks for a key's tree and makes it where it isn't known: Full exactly where there is no room for it. It fails
-- only where the key stands nowhere, and then nothing changes.
pub record FindsOrAdds (old new : Held) (key : Key) (result : Result Entry StoreFault) : Type 0 where
  pub made : MakesTree (shown old) (shown new) (tree_by (trees_of old.keys) key) result
  pub limit : new.limit ≡ old.limit
  pub err : OnErr result (new ≡ old)
  pub absent : OnErr result (IsAbsent old.keys key)
  pub full : (result ≡ Err F.Full) ↔ LeavesNoRoom old key
