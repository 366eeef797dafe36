-- What the tables of a backup hold.
use Rattle.std.specs.Prelude.{◌≡◌, ℕ, ◌<◌, List, true, length, map, slice_index_or, IfSome}
use Rattle.spd_cons_core.specs.declared.key.Entry.{Entry}
use Rattle.spd_nodes.specs.Shown.{Shown, StandsFor, meaning}
use Rattle.spd_gather.specs.Lists.{AreKnown}
use Rattle.spd_restrict.specs.Primed.{primed}
use Rattle.spd_weigh.specs.declared.way.Way.{Way}
use Rattle.spd_weigh.specs.declared.way.Way.TheVariants.{Down, Up}
use Rattle.spd_weigh.specs.Summed.{HoldsSums, HoldsDiscounts}
use Rattle.spd_weigh.specs.Weighing.{summed_out}
use Rattle.spd_build.specs.Building.{HoldAdds}
use Rattle.spd_backup.specs.declared.tables.LastSum.{LastSum}
use Rattle.spd_backup.specs.declared.tables.SumTables.{SumTables}
use Rattle.spd_backup.specs.declared.tables.Tables.{Tables}
use Rattle.spd_backup.specs.declared.tables.WayTables.{WayTables}

-- this diagram by these weights gave this one
pub record IsSumOf (of : Entry) (weights : List Entry) (sum : Entry) (made : LastSum) : Type 0 where
  pub of_is : made.of ≡ of
  pub weights_are : made.weights.items ≡ weights
  pub sum_is : made.sum ≡ sum

-- a variable summed out of a known diagram by known weights, rounded one way
pub record IsSummed (way : Way) (var : ℕ) (s : Shown) (made : LastSum) : Type 0 where
  pub known : s.knows made.of ≡ true
  pub weights_known : AreKnown s made.weights.items
  pub stands : StandsFor s made.sum (summed_out way var (map (meaning s) made.weights.items) (meaning s made.of))

-- the tables of one variable: what was summed out last, and answers of such sums alone
pub record HoldVariable (way : Way) (var : ℕ) (s : Shown) (t : SumTables) : Type 0 where
  pub last : IfSome t.last (IsSummed way var s)
  pub rows : HoldsSums way var s t.rows

-- tables for each of so many variables
pub record HoldEachSum (way : Way) (n : ℕ) (s : Shown) (tables : List SumTables) : Type 0 where
  pub count : length tables ≡ n
  pub each : (var : ℕ) (d : SumTables) → var < n → HoldVariable way var s (slice_index_or tables var d)

-- the tables of one way of rounding, for so many variables and a discount
pub record HoldWay (way : Way) (n discount : ℕ) (s : Shown) (t : WayTables) : Type 0 where
  pub sums : HoldEachSum way n s t.sums.items
  pub discounts : HoldsDiscounts way discount s t.discounts

-- a diagram, and that of its function at the next state
pub record IsPrimed (s : Shown) (f r : Entry) : Type 0 where
  pub known : s.knows f ≡ true
  pub stands : StandsFor s r (primed (meaning s f))

-- all tables, for so many variables and a discount: each holds answers of its operation alone
pub record HoldAll (n discount : ℕ) (s : Shown) (t : Tables) : Type 0 where
  pub next : IfSome t.next (λ p. IsPrimed s p.0 p.1)
  pub down : HoldWay Down n discount s t.down
  pub up : HoldWay Up n discount s t.up
  pub adds : HoldAdds s t.adds
