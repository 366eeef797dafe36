-- How an operation on several diagrams goes down: what it makes of a list of trees, said of lists below it.
use Rattle.std.specs.Prelude.{◌≡◌, ℕ, ◌<◌, List, true, map, length, All, Option, None, Some, Contains}
use Rattle.spd_cons_core.specs.declared.key.Entry.{Entry}
use Rattle.spd_nodes.specs.declared.layout.Level.{Level}
use Rattle.spd_nodes.specs.Levels.{levels_of, slots}
use Rattle.spd_nodes.specs.Trees.{Tree, join, CanTest}
use Rattle.spd_nodes.specs.Shown.{Shown, IsSound}
use Rattle.spd_apply.specs.Halves.{yes_at, no_at, IsLeaf}
use Rattle.spd_gather.specs.declared.halves.Sides.{Sides}
use Rattle.spd_gather.specs.declared.rule.ListPlan.{ListPlan}
use Rattle.spd_gather.specs.declared.rule.ListPlan.TheVariants as P
use Rattle.spd_gather.specs.Down.{Each, Making}
use Rattle.spd_gather.specs.Meeting.{list_rank, IsLowest}
use Rattle.spd_gather.specs.Rows.{Row}

-- the trees of entries
abbrev pub trees_of : Shown → List Entry → List Tree
trees_of s ks = map s.tree ks

-- all entries are known
abbrev pub AreKnown : Shown → List Entry → Type 0
AreKnown s ks = All (λ k. s.knows k ≡ true) ks

-- how many levels the trees of entries have at most
abbrev pub rank_of : Shown → List Entry → ℕ
rank_of s ks = list_rank (slots s.sizes) (trees_of s ks)

-- known entries that an operation may meet
pub record AreMet (may : List Tree → Type 0) (s : Shown) (ks : List Entry) : Type 0 where
  pub known : AreKnown s ks
  pub trees : may (trees_of s ks)

-- what is made is what is made of a list below
pub record GoesBelow (making : Making) (may : List Tree → Type 0) (s : Shown) (ks below : List Entry) : Type 0 where
  pub is : making (trees_of s ks) ≡ making (trees_of s below)
  pub goes : AreMet may s below
  pub smaller : rank_of s below < rank_of s ks

-- what is made is a test of what is made of two lists below, or one of these where both are equal
pub record GoesToTest (making : Making) (may : List Tree → Type 0) (s : Shown) (ks : List Entry) (level : ℕ) (yes no : List Entry) : Type 0 where
  pub level_in : level < levels_of (slots s.sizes)
  pub is : making (trees_of s ks) ≡ join level (making (trees_of s yes)) (making (trees_of s no))
  pub can_test : CanTest (slots s.sizes) level (making (trees_of s yes)) (making (trees_of s no))
  pub yes_goes : AreMet may s yes
  pub no_goes : AreMet may s no
  pub yes_smaller : rank_of s yes < rank_of s ks
  pub no_smaller : rank_of s no < rank_of s ks

-- a plan says what is made of a list, or that it is a list from which an operation goes no further
abbrev pub IsListPlan : Making → (List Tree → Type 0) → (List Tree → Type 0) → Shown → List Entry → ListPlan → Type 0
IsListPlan making may ends s ks P.Bottom = ends (trees_of s ks)
IsListPlan making may ends s ks (P.Below b) = GoesBelow making may s ks b.items
IsListPlan making may ends s ks (P.Test l y n) = GoesToTest making may s ks l.0 y.items n.items

-- an entry is what an operation makes of a list
pub record IsListAnswer (making : Making) (s : Shown) (ks : List Entry) (r : Entry) : Type 0 where
  pub known : AreKnown s ks
  pub answer : s.knows r ≡ true
  pub is : s.tree r ≡ making (trees_of s ks)

-- a table holds only answers of an operation, for entries that the forest knows
pub record HoldsRows (making : Making) (s : Shown) (rows : List Row) : Type 0 where
  pub each : (ks : List Entry) (r : Entry) → Contains rows (ks, r) → IsListAnswer making s ks r

-- known entries may be met, and the table holds only answers
pub record IsListReady (making : Making) (may : List Tree → Type 0) (s : Shown) (ks : List Entry) (rows : List Row) : Type 0 where
  pub sound : IsSound s
  pub met : AreMet may s ks
  pub table : HoldsRows making s rows

-- the lowest level that entries test first; none where all are leaves
abbrev pub IsLowOf : Shown → Option Level → List Entry → Type 0
IsLowOf s None ks = Each IsLeaf (trees_of s ks)
IsLowOf s (Some l) ks = IsLowest l.0 (trees_of s ks)

-- a level comes before the lowest one so far, if any
abbrev pub IsBefore : Level → Option Level → Type 0
IsBefore l None = Unit {0}
IsBefore l (Some k) = l.0 < k.0

-- a level is the lowest one so far
abbrev pub IsSame : Level → Option Level → Type 0
IsSame l None = ⊥
IsSame l (Some k) = l.0 ≡ k.0

-- entries are as many as some others, and where there is a level they are what a change there makes of these
abbrev pub AreAt : Shown → (ℕ → Tree → Tree) → Option Level → List Entry → List Entry → Type 0
AreAt s half None ks hs = length hs ≡ length ks
AreAt s half (Some l) ks hs = trees_of s hs ≡ map (half l.0) (trees_of s ks)

-- entries on both sides of their lowest level
pub record IsSplit (s : Shown) (ks : List Entry) (v : Sides) : Type 0 where
  pub low : IsLowOf s v.low ks
  pub known_yes : AreKnown s v.yes.items
  pub known_no : AreKnown s v.no.items
  pub yes : AreAt s yes_at v.low ks v.yes.items
  pub no : AreAt s no_at v.low ks v.no.items
