-- A turn in a table of its own.
use Rattle.std.specs.Prelude.{◌≡◌, ℕ, ◌+◌, ◌<◌, ◌≤◌, List, length, ℤ, true}
use Rattle.spd_cons_core.specs.declared.key.Entry.{Entry}
use Rattle.spd_cons.specs.Values.{SeatValue, TableValue}
use Rattle.spd_model.specs.Process.{Process}
use Rattle.spd_model.specs.States.{sizes}
use Rattle.spd_model.specs.Turns.{turn as table_of_turn}
use Rattle.spd_nodes.specs.declared.forest.StoreFault.{StoreFault}
use Rattle.spd_nodes.specs.declared.forest.StoreFault.TheVariants as F
use Rattle.spd_nodes.specs.KnownTrees.{shown_by}
use Rattle.spd_nodes.specs.Shown.{Shown}
use Rattle.spd_nodes.specs.States.{test_trees}
use Rattle.spd_nodes.specs.Trees.{IsNodeOf}
use Rattle.spd_backup.specs.declared.backing.Bounds.{Bounds}
use Rattle.spd_backup.specs.Expected.{IsMade}
use Rattle.spd_turn.specs.declared.trying.Attempt.{Attempt}
use Rattle.spd_turn.specs.Turn.{IsFinished, greatest_low, present_value, turn_count, turn_functions, value_of_turn}
use Rattle.spd_turn.specs.Waves.{AreBackedUp}

-- what a forest goes on to know of turn k: its value, both bounds of each action with all expectations on the way, and the greatest
-- lower bound
pub record KnowsTurn (m : Process) (span : ℤ) (k : ℕ) (s : Shown) : Type 0 where
  pub value : IsMade s (present_value (value_of_turn m span k))
  pub bounds : List Bounds
  pub backed : AreBackedUp m (value_of_turn m span k) s bounds m.actions
  pub low : IsMade s (greatest_low m span k)

-- the nodes of turn k
abbrev pub nodes_of_turn : Process → ℤ → ℕ → ℕ
nodes_of_turn m span k = turn_count m span (table_of_turn m span k)

-- A seat of a table, which stands for all seats of the table, one and one for each action, and knows turn k. What was published are
-- nodes of this turn alone, so no more than it has.
pub record HoldsTurn (m : Process) (span : ℤ) (k : ℕ) (table : TableValue) (s : SeatValue) : Type 0 where
  pub own : s.table ≡ table
  pub most : table.size.most ≡ length m.actions + 1
  pub stands : s.mind.stands ≡ length m.actions + 1
  pub splits : s.mind.splits ≡ 0
  pub knows : KnowsTurn m span k (shown_by (sizes m) s)
  pub only : (r : Entry) → (shown_by (sizes m) s).published r ≡ true → IsNodeOf ((shown_by (sizes m) s).tree r) (test_trees (sizes m) (turn_functions m span (table_of_turn m span k)))
  pub few : length s.mind.published ≤ nodes_of_turn m span k

-- turn k, with its table and its seat
pub record IsTurnIn (m : Process) (span : ℤ) (k : ℕ) (a : Attempt) : Type 0 where
  pub finished : IsFinished m span k a.finished
  pub holds : HoldsTurn m span k a.cons a.seat

-- what a fault says of a turn in a table with room for so many nodes: where it is Full, the turn has more nodes
abbrev pub IsTooSmall : Process → ℤ → ℕ → ℕ → StoreFault → Type 0
IsTooSmall m span k room F.Full = room < nodes_of_turn m span k
IsTooSmall m span k room F.Memory = Unit {0}
