-- Where a rounding changes nothing.
use Rattle.std.specs.Prelude.{◌≡◌, ℕ, ◌<◌, ◌⊎◌, ◌*ℤ◌, List, length, slice_index_or, pos, IfSome, Contains, All}
use Rattle.spd_scaled.specs.Scaled.{floor_div, ceil_div}
use Rattle.spd_cons_core.specs.declared.key.Entry.{Entry}
use Rattle.spd_nodes.specs.declared.leaf.Leaf.{Leaf}
use Rattle.spd_nodes.specs.Shown.{Shown}
use Rattle.spd_nodes.specs.Trees.{Tree, Ends, Tests}
use Rattle.spd_weigh.specs.Leaves.{number_of}
use Rattle.spd_weigh.specs.declared.way.Way.TheVariants.{Down}
use Rattle.spd_backup.specs.declared.exact.Ratio.{Ratio}
use Rattle.spd_backup.specs.declared.tables.SumTables.{SumTables}
use Rattle.spd_backup.specs.Keeping.{IsSummed}

-- a ratio makes a whole number of a leaf: the same rounded down and up
pub record IsExact (r : Ratio) (a : Leaf) : Type 0 where
  pub some : 0 < r.by
  pub whole : floor_div (pos r.times *ℤ number_of a) (pos r.by) ≡ ceil_div (pos r.times *ℤ number_of a) (pos r.by)

-- so it does of each leaf of a tree
abbrev pub HasExactLeaves : Ratio → Tree → Type 0
HasExactLeaves r (Ends a) = IsExact r a
HasExactLeaves r (Tests l y n) = HasExactLeaves r y × HasExactLeaves r n

-- and of each entry of a list
pub record HaveExactLeaves (r : Ratio) (s : Shown) (refs : List Entry) : Type 0 where
  pub each : (q : Entry) → Contains refs q → HasExactLeaves r (s.tree q)

-- the numbers of a tree are multiples of a scale
abbrev pub AreMultiples : ℕ → Tree → Type 0
AreMultiples scale t = (scale ≡ 1) ⊎ HasExactLeaves (record { times = 1; by = scale }) t

-- A variable is summed out with no rounding: so many times each weight is a multiple of one, as a probability, and each value is a multiple
-- of so many.
pub record IsExactSum (s : Shown) (f : Entry) (weights : List Entry) : Type 0 where
  pub scale : ℕ
  pub weights_whole : All (λ w. HasExactLeaves (record { times = scale; by = 1000000000000 }) (s.tree w)) weights
  pub values : AreMultiples scale (s.tree f)

-- tables of the first variables, each with what was summed out last, rounded down
pub record HoldDown (s : Shown) (tables : List SumTables) : Type 0 where
  pub each : (var : ℕ) (d : SumTables) → var < length tables → IfSome (slice_index_or tables var d).last (IsSummed Down var s)
