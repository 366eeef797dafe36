-- Entries below which nothing was found.
use Rattle.std.specs.Prelude.{◌≡◌, ◌⊎◌, List, Contains, Option, None}
use Rattle.spd_cons_core.specs.declared.key.Entry.{Entry}
use Rattle.spd_nodes.specs.declared.leaf.Leaf.{Leaf}
use Rattle.spd_nodes.specs.Trees.{Tree}
use Rattle.spd_nodes.specs.Shown.{Shown}

-- looking finds nothing in the tree of any of these entries
pub record AreBarren (look : Tree → Option Leaf) (s : Shown) (refs : List Entry) : Type 0 where
  pub none : (q : Entry) → Contains refs q → look (s.tree q) ≡ None

-- a list of entries gained at most one, and that only where nothing was found in it
pub record NotesBarren (old new : List Entry) (r : Entry) (found : Option Leaf) : Type 0 where
  pub only : (q : Entry) → Contains new q → Contains old q ⊎ ((q ≡ r) × (found ≡ None))
