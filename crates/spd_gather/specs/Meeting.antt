-- Which lists of trees may be met, and their lowest level.
use Rattle.std.specs.Prelude.{ℕ, ◌<◌, ◌≤◌, ◌⊎◌, List, [], ◌∷◌, max}
use Rattle.spd_nodes.specs.Levels.{levels_of}
use Rattle.spd_nodes.specs.Trees.{Tree, IsFrom, IsAt, IsAtOrPast, tree_rank}
use Rattle.spd_apply.specs.Halves.{IsNotBefore}
use Rattle.spd_gather.specs.Down.{Each}

-- whole trees from a level on
pub record MeetWhole (ds : List ℕ) (ts : List Tree) : Type 0 where
  pub from : ℕ
  pub each : Each (IsFrom ds 0 from) ts

-- trees that test one level first or are past its slot; the level isn't one from `first` to below `end`
pub record MeetAt (ds : List ℕ) (first end : ℕ) (ts : List Tree) : Type 0 where
  pub level : ℕ
  pub within : level < levels_of ds
  pub outside : (level < first) ⊎ (end ≤ level)
  pub each : Each (IsAtOrPast ds level) ts

-- trees that may meet, and don't stand inside the levels from `first` to below `end`
abbrev pub Meet : List ℕ → ℕ → ℕ → List Tree → Type 0
Meet ds first end ts = MeetWhole ds ts ⊎ MeetAt ds first end ts

-- one of some trees tests a level first
abbrev pub OneAt : ℕ → List Tree → Type 0
OneAt l [] = ⊥
OneAt l (t ∷ ts) = IsAt l t ⊎ OneAt l ts

-- a level that one of some trees tests first, and none before it
pub record IsLowest (l : ℕ) (ts : List Tree) : Type 0 where
  pub none_before : Each (IsNotBefore l) ts
  pub one_at : OneAt l ts

-- how many levels some trees have at most
abbrev pub list_rank : List ℕ → List Tree → ℕ
list_rank ds [] = 0
list_rank ds (t ∷ ts) = max (tree_rank ds t) (list_rank ds ts)
