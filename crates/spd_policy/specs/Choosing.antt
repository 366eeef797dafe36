-- What the recursions over a list of bounds make of trees, and how they go on.
use Rattle.std.specs.Prelude.{◌≡◌, ℕ, ◌<◌, ◌≤◌, ◌⊎◌, List, [], ◌∷◌, length, map, fold, Contains}
use Rattle.std.specs.Int.{int_max}
use Rattle.std.specs.List.{All, position_or_len, slice_index_or}
use Rattle.spd_cons_core.specs.declared.key.Entry.{Entry}
use Rattle.spd_nodes.specs.declared.leaf.Leaf.{Leaf}
use Rattle.spd_nodes.specs.declared.leaf.Leaf.TheVariants.{Act}
use Rattle.spd_nodes.specs.Levels.{levels_of, slots}
use Rattle.spd_nodes.specs.Shown.{Shown}
use Rattle.spd_nodes.specs.Trees.{Tree, leaf_eq}
use Rattle.spd_apply.specs.Halves.{IsLeaf}
use Rattle.spd_apply.specs.Operations.{num_of}
use Rattle.spd_gather.specs.Down.{Each, at_each_leaf}
use Rattle.spd_gather.specs.Lists.{HoldsRows}
use Rattle.spd_gather.specs.Meeting.{Meet}
use Rattle.spd_gather.specs.Rows.{Row}
use Rattle.spd_policy.specs.declared.tables.BestTables.{BestTables}

-- the greatest of some leaves, where they are numbers
abbrev pub greatest_leaf : List Leaf → Leaf
greatest_leaf [] = Act 0
greatest_leaf (a ∷ ls) = fold (num_of int_max) a ls

-- the place of the first leaf after the head that is the head, as an action
abbrev pub place_leaf : List Leaf → Leaf
place_leaf [] = Act 0
place_leaf (a ∷ ls) = Act (position_or_len (leaf_eq a) ls)

-- the entries of a list are all the first one
abbrev pub AreOne : List Entry → Type 0
AreOne ks = All (λ k. k ≡ slice_index_or ks 0 k) ks

-- the second tree of a list is the first one
abbrev pub StartsAlike : List Tree → Type 0
StartsAlike [] = ⊥
StartsAlike (t ∷ []) = ⊥
StartsAlike (t ∷ u ∷ ts) = u ≡ t

-- Trees may be compared: there are 1 to 65, which are the bounds of all actions and their greatest, and they may meet.
pub record MayCompare (levels : ℕ) (sizes : List ℕ) (ts : List Tree) : Type 0 where
  pub same : levels ≡ levels_of (slots sizes)
  pub some : 0 < length ts
  pub few : length ts ≤ 65
  pub meet : Meet (slots sizes) 0 0 ts

-- the place is known: all trees are leaves, or the first bound is the greatest
abbrev pub IsDecided : List Tree → Type 0
IsDecided ts = Each IsLeaf ts ⊎ StartsAlike ts

-- A list may stand for another one: an operation gives the same of both, whatever the leaves of their entries are.
pub record IsLike (op : List Leaf → Leaf) (old new : List Entry) : Type 0 where
  pub same : (f : Entry → Leaf) → op (map f new) ≡ op (map f old)
  pub among : All (λ k. Contains old k) new
  pub long : length new ≡ length old

-- a table holds only greatest functions of lists
abbrev pub HoldsGreatest : Shown → List Row → Type 0
HoldsGreatest s rows = HoldsRows (at_each_leaf (levels_of (slots s.sizes)) greatest_leaf) s rows

-- a table holds only the places of the heads of lists
abbrev pub HoldsPlaces : Shown → List Row → Type 0
HoldsPlaces s rows = HoldsRows (at_each_leaf (levels_of (slots s.sizes)) place_leaf) s rows

-- both tables
pub record HoldBest (s : Shown) (t : BestTables) : Type 0 where
  pub greatest : HoldsGreatest s t.greatest
  pub places : HoldsPlaces s t.places
