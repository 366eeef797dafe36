-- The backups of all actions, one wave of jobs after another.
use Rattle.std.specs.Prelude.{◌≡◌, ℕ, ◌+◌, ◌≤◌, All, length, List, [], ◌∷◌, ◌++◌, flat_map, take, ℤ, slice_get, true, false, Option, Some, None, Result, Ok, Err, IfOk}
use Rattle.std.specs.List.{AllZip}
use Rattle.std.proofs.Common.{suc}
use Rattle.spd_cons_core.specs.declared.key.Entry.{Entry}
use Rattle.spd_cons.specs.Values.{TableValue}
use Rattle.spd_model.specs.declared.process.Action.{Action}
use Rattle.spd_model.specs.Process.{Process}
use Rattle.spd_nodes.specs.declared.forest.StoreFault.{StoreFault}
use Rattle.spd_nodes.specs.declared.forest.StoreFault.TheVariants as F
use Rattle.spd_nodes.specs.Grove.{GroveValue, KeepsTrees, shown_of, standing_of}
use Rattle.spd_nodes.specs.Made.{HasMade}
use Rattle.spd_nodes.specs.Shown.{Shown, Grows}
use Rattle.spd_nodes.specs.States.{Function, test_trees}
use Rattle.spd_nodes.specs.Trees.{IsNodeOf}
use Rattle.spd_backup.specs.declared.backing.Bounds.{Bounds}
use Rattle.spd_backup.specs.declared.tables.Tables.{Tables}
use Rattle.spd_backup.specs.declared.thawed.Thawed.{Thawed}
use Rattle.spd_backup.specs.Expected.{backup_functions, AreBounds}
use Rattle.spd_turn.specs.Jobs.{CanBackUp, HoldFor, JobValue, job_shown}

-- the functions of backing up all actions, by which their nodes are counted
abbrev pub all_backups : Process → (List ℕ → ℤ) → List Function
all_backups m value = flat_map (λ a. backup_functions m a value) m.actions

-- the bounds of some actions, in their order, with all expectations on the way
abbrev pub AreBackedUp : Process → (List ℕ → ℤ) → Shown → List Bounds → List Action → Type 0
AreBackedUp m value s bounds actions = AllZip (λ b a. AreBounds m a value s b) bounds actions

-- each of a list has a property, together with its place, counted from a first place
abbrev pub EachFrom : {A : Type 0} → (ℕ → A → Type 0) → ℕ → List A → Type 0
EachFrom P n [] = Unit {0}
EachFrom P n (x ∷ xs) = P n x × EachFrom P (suc n) xs

-- a seat that was split off another one of a table: it stands for itself, and can't be split
abbrev pub IsSplitOff : TableValue → GroveValue → Type 0
IsSplitOff table own = standing_of own ≡ record { table = table; stands = 1; splits = 0 }

-- The job of an action before its run: its forest shows the same trees as the one that it was split off, and has published nothing.
pub record IsDealt (table : TableValue) (s : Shown) (x : Thawed) (w : Entry) (i : ℕ) (j : JobValue) : Type 0 where
  pub sizes_are : j.grove.sizes ≡ s.sizes
  pub own : IsSplitOff table j.grove
  pub trees : KeepsTrees s (job_shown j)
  pub none : (r : Entry) → (job_shown j).published r ≡ false
  pub thawed_is : j.thawed ≡ x
  pub value_is : j.w ≡ w
  pub action_is : j.action ≡ i

-- A job has the outcome of an action's backup: the bounds, or a fault, which is Full only where its own forest is full. It published
-- nodes of the backup's functions alone.
pub record HasBackedUp (m : Process) (chosen : Action) (value : List ℕ → ℤ) (j : JobValue) : Type 0 where
  pub ok : IfOk j.outcome (λ b. AreBounds m chosen value (job_shown j) b)
  pub makes : (r : Entry) → (job_shown j).published r ≡ true → IsNodeOf ((job_shown j).tree r) (test_trees j.grove.sizes (backup_functions m chosen value))
  pub full : j.outcome ≡ Err F.Full → (job_shown j).full ≡ true

-- a job has its own seat of a table, for these variables
pub record IsJobOf (table : TableValue) (sizes : List ℕ) (j : JobValue) : Type 0 where
  pub sizes_are : j.grove.sizes ≡ sizes
  pub own : IsSplitOff table j.grove

-- the job of an action after its run
pub record HasRun (table : TableValue) (s : Shown) (x : Thawed) (w : Entry) (i : ℕ) (j : JobValue) : Type 0 where
  pub place : IsJobOf table s.sizes j
  pub thawed_is : j.thawed ≡ x
  pub backed : (m : Process) (chosen : Action) (value : List ℕ → ℤ) → CanBackUp m value s x w → slice_get m.actions i ≡ Some chosen → HasBackedUp m chosen value j

-- the first fault: an earlier one, else that of one more outcome
abbrev pub first_fault : Option StoreFault → Result Bounds StoreFault → Option StoreFault
first_fault (Some e) outcome = Some e
first_fault None (Ok b) = None
first_fault None (Err e) = Some e

-- the fault of the first job that has one, where none came before
abbrev pub fault_of : Option StoreFault → List JobValue → Option StoreFault
fault_of fault [] = fault
fault_of fault (j ∷ js) = fault_of (first_fault fault j.outcome) js

-- the fault that is told
abbrev pub fault_in : {A : Type 0} → Result A StoreFault → Option StoreFault
fault_in (Ok v) = None
fault_in (Err e) = Some e

-- bounds, with those of one more outcome where it has some
abbrev pub with_bounds : List Bounds → Result Bounds StoreFault → List Bounds
with_bounds bounds (Ok b) = bounds ++ b ∷ []
with_bounds bounds (Err e) = bounds

-- The first n actions are backed up: what was made since the start, their bounds where none failed, and a full forest where the first
-- fault is Full.
pub record HaveRun (m : Process) (value : List ℕ → ℤ) (start : Shown) (n : ℕ) (s : Shown) (bounds : List Bounds) (fault : Option StoreFault) : Type 0 where
  pub made : HasMade start s (all_backups m value)
  pub ok : fault ≡ None → AreBackedUp m value s bounds (take n m.actions)
  pub is_full : fault ≡ Some F.Full → s.full ≡ true

-- Some jobs' seats were joined into one: it stands for them too, and shows all that they showed. Their tables, which hold answers of
-- backups alone, and their bounds stand behind those that were there.
pub record Gathered (g : GroveValue) (lanes : List Tables) (bounds : List Bounds) (jobs : List JobValue) (g' : GroveValue) (lanes' : List Tables) (bounds' : List Bounds) (fault : Option StoreFault) : Type 0 where
  pub sizes_are : g'.sizes ≡ g.sizes
  pub standing : standing_of g' ≡ record { table = g.seat.table; stands = g.seat.mind.stands + length jobs; splits = g.seat.mind.splits }
  pub grows : Grows (shown_of g) (shown_of g')
  pub fault_is : fault ≡ fault_of None jobs
  pub lanes_count : length lanes' ≡ length lanes + length jobs
  pub bounds_count : length bounds' ≤ length bounds + length jobs
  pub hold : (x : Thawed) → All (HoldFor x (shown_of g)) lanes → All (λ j. j.thawed ≡ x) jobs → All (HoldFor x (shown_of g')) lanes'
  pub have : (m : Process) (value : List ℕ → ℤ) (start : Shown) (x : Thawed) (w : Entry) (first : ℕ) → EachFrom (HasRun g.seat.table (shown_of g) x w) first jobs → CanBackUp m value (shown_of g) x w
      → first + length jobs ≤ length m.actions → HaveRun m value start first (shown_of g) bounds None → HaveRun m value start (first + length jobs) (shown_of g') bounds' fault
