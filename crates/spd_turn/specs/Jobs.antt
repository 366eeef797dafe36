-- The backup of one action as a job with a seat of its own.
use Rattle.std.specs.Prelude.{◌≡◌, ℕ, List, length, ℤ, slice_get, Result, Some, true}
use Rattle.spd_cons_core.specs.declared.key.Entry.{Entry}
use Rattle.spd_model.specs.declared.process.Action.{Action}
use Rattle.spd_model.specs.Process.{Process}
use Rattle.spd_nodes.specs.declared.forest.StoreFault.{StoreFault}
use Rattle.spd_nodes.specs.Grove.{GroveValue, shown_of, standing_of}
use Rattle.spd_nodes.specs.Shown.{Shown, IsWhole, meaning}
use Rattle.spd_restrict.specs.Primed.{TestsNoPrimed}
use Rattle.spd_weigh.specs.Leaves.{HasValues}
use Rattle.spd_backup.specs.declared.backing.Bounds.{Bounds}
use Rattle.spd_backup.specs.declared.tables.Tables.{Tables}
use Rattle.spd_backup.specs.declared.thawed.Thawed.{Thawed}
use Rattle.spd_backup.specs.Expected.{BacksUp}
use Rattle.spd_backup.specs.Keeping.{HoldAll}
use Rattle.spd_backup.specs.Thawing.{IsThawedOf, HasNumbers}

-- A forest has what backing up a process's actions reads: the process's parts, and a whole diagram of the value that follows, whose
-- numbers are in range and which tests no next value.
pub record CanBackUp (m : Process) (value : List ℕ → ℤ) (s : Shown) (x : Thawed) (w : Entry) : Type 0 where
  pub thawed : IsThawedOf m s x
  pub known : s.knows w ≡ true
  pub whole : IsWhole s w
  pub plain : TestsNoPrimed s.sizes (s.tree w)
  pub values : HasValues s.sizes (meaning s w)
  pub numbers : HasNumbers s w value

-- it has that of some process and some value
pub record IsBackupReady (s : Shown) (x : Thawed) (w : Entry) : Type 0 where
  pub process : Process
  pub value : List ℕ → ℤ
  pub can : CanBackUp process value s x w

-- what contracts see of a job
pub record JobValue : Type 0 where
  pub grove : GroveValue
  pub thawed : Thawed
  pub w : Entry
  pub action : ℕ
  pub tables : Tables
  pub outcome : Result Bounds StoreFault

-- what a job's own forest shows
abbrev pub job_shown : JobValue → Shown
job_shown j = shown_of j.grove

-- tables hold answers of a backup of these parts alone
abbrev pub HoldFor : Thawed → Shown → Tables → Type 0
HoldFor x s tables = HoldAll (length x.sizes.items) x.g s tables

-- A job may be run: its forest has what a backup reads, the process has an action of its number, and its tables hold answers alone.
pub record IsReadyJob (j : JobValue) : Type 0 where
  pub process : Process
  pub value : List ℕ → ℤ
  pub chosen : Action
  pub can : CanBackUp process value (job_shown j) j.thawed j.w
  pub offered : slice_get process.actions j.action ≡ Some chosen
  pub tables : HoldFor j.thawed (job_shown j) j.tables

-- A run backs up the job's action in the job's own forest, and changes nothing else of the job but its tables and its outcome.
pub record RunsBackup (a b : JobValue) : Type 0 where
  pub sizes_are : b.grove.sizes ≡ a.grove.sizes
  pub standing : standing_of b.grove ≡ standing_of a.grove
  pub thawed_is : b.thawed ≡ a.thawed
  pub value_is : b.w ≡ a.w
  pub action_is : b.action ≡ a.action
  pub backs : (m : Process) (chosen : Action) (value : List ℕ → ℤ) → CanBackUp m value (job_shown a) a.thawed a.w → slice_get m.actions a.action ≡ Some chosen
      → BacksUp m chosen value (job_shown a) (job_shown b) b.outcome

-- how many entries a job's own seat has published
abbrev pub made_by : JobValue → ℕ
made_by j = length j.grove.seat.mind.published
