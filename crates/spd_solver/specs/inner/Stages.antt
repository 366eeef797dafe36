-- The stages of a command: what each gives, why it fails, and the status of each failure.
use Rattle.std.specs.Prelude.{ℕ, zero, suc, ◌<◌, ◌≤◌, ◌≡◌, ◌≢◌, true, List, [], ◌++◌, length, codes, ℤ, Option, Some, IfSome, Result, Ok, Err}
use Rattle.std.specs.Arc.{arc_value}
use Rattle.spd_edge.specs.Counts.{Rose}
use Rattle.spd_edge.specs.Direction.{Direction}
use Rattle.spd_edge.specs.declared.outside.Stage.TheVariants as Stage
use Rattle.spd_model.specs.declared.Why.{Why}
use Rattle.spd_model.specs.declared.process.Var.{Var}
use Rattle.spd_model.specs.Process.{Process}
use Rattle.spd_model.specs.Chances.{IsValid}
use Rattle.spd_model.specs.States.{sizes, IsState}
use Rattle.spd_model.specs.Turns.{stop_of}
use Rattle.spd_model.specs.ResultText.{action_name, var_name, value_name, result_of}
use Rattle.spd_bellman.specs.Bound.{IsNearOptimal}
use Rattle.spd_bellman.specs.TurnBound.{is_enough}
use Rattle.spd_plain.specs.declared.solve.PlainFault.{PlainFault}
use Rattle.spd_plain.specs.declared.solve.PlainFault.TheVariants as Fault
use Rattle.spd_frozen.specs.Fits.{FitsModel}
use Rattle.spd_frozen.specs.Told.{told}
use Rattle.spd_build.specs.declared.built.BuildFault.{BuildFault}
use Rattle.spd_build.specs.declared.built.BuildFault.TheVariants as Build
use Rattle.spd_turn.specs.declared.rooms.TurnFault.{TurnFault}
use Rattle.spd_turn.specs.declared.rooms.TurnFault.TheVariants as Turn
use Rattle.spd_turn.specs.Runs.{RunValue}
use Rattle.spd_solver.specs.declared.command.Job.{Job}
use Rattle.spd_solver.specs.declared.command.Way.{Way}
use Rattle.spd_solver.specs.declared.command.Way.TheVariants.{Diagrams}
use Rattle.spd_solver.specs.declared.status.Stage.TheVariants as Stages
use Rattle.spd_solver.specs.declared.solving.Solution.{Solution}
use Rattle.spd_model.specs.Options.{AreOptions}
use Rattle.spd_model.specs.declared.options.Options.{Options}
use Rattle.spd_solver.specs.declared.file.Unreadable.{Unreadable}
use Rattle.spd_syntax.specs.declared.unread.Unread.{Unread}
use Rattle.spd_solver.specs.declared.solving.Unsolved.{Unsolved}
use Rattle.spd_solver.specs.declared.status.Status.{Status}
use Rattle.spd_solver.specs.Command.{Command, solving, generating, solving_ring, checking, AskFor, IsUsage}
use Rattle.spd_solver.specs.Run.{Seen, Means, Completes, TellsRefusal}
use Rattle.spd_solver.specs.Kind.{kind_of}
use Rattle.spd_solver.specs.Solve.{state_text, value, TakesStates, RefusesProcess, HasMoreNodes}

-- ---- words

-- what a job is asked for by
abbrev pub command_for : Job → Command
command_for (Job.Solve way file options) = solving way file.now options
command_for (Job.Generate machines) = generating machines
command_for (Job.Ring machines options) = solving_ring machines options
command_for (Job.Check purpose file cert options) = checking purpose file.now cert.now options

-- the words ask for this command, and for nothing else
pub record Asks (words : List (List ℕ)) (command : Command) : Type 0 where
  pub asked : AskFor words command
  pub once : (other : Command) → AskFor words other → other ≡ command
  pub right : (word : ℕ) → IsUsage words word → ⊥

-- the numbers of a job lie within their limits, and its two files have two names
abbrev pub IsWithinItsLimits : Job → Type 0
IsWithinItsLimits (Job.Solve way file options) = AreOptions options
IsWithinItsLimits (Job.Generate machines) = (2 ≤ machines) × (machines ≤ 63)
IsWithinItsLimits (Job.Ring machines options) = (2 ≤ machines) × (machines ≤ 63) × AreOptions options
IsWithinItsLimits (Job.Check purpose file cert options) = AreOptions options × (file.now ≢ cert.now)

-- the words can't be run, from the word of this number on
pub record AskWrongly (words : List (List ℕ)) (word : ℕ) : Type 0 where
  pub wrong : IsUsage words word
  pub once : (other : ℕ) → IsUsage words other → other ≡ word
  pub nothing : (command : Command) → AskFor words command → ⊥

-- ---- files

-- why a file of at most `limit` bytes wasn't read
abbrev pub FailsToRead : Direction → Direction → List ℕ → ℕ → Unreadable → Type 0
FailsToRead before now name limit (Unreadable.Open n) =
    (n ≡ name) × Rose (before.faults name) (now.faults name) × (now.stage name ≡ Some Stage.Unopened)
FailsToRead before now name limit (Unreadable.Read n) =
    (n ≡ name) × Rose (before.faults name) (now.faults name) × (now.stage name ≡ Some Stage.Closed)
FailsToRead before now name limit (Unreadable.TooLong n) =
    (n ≡ name) × (now.faults ≡ before.faults) × IfSome (before.holds name) (λ bytes. limit < length bytes) × (now.stage name ≡ Some Stage.Closed)
FailsToRead before now name limit Unreadable.Memory = Unit {0}

abbrev pub unreadable_status : Unreadable → Status
unreadable_status (Unreadable.Open name) = Status.OpenFault name
unreadable_status (Unreadable.Read name) = Status.ReadFault name
unreadable_status (Unreadable.TooLong name) = Status.TooLong name
unreadable_status Unreadable.Memory = Status.Memory

-- ---- models

abbrev pub unread_status : Unread → Status
unread_status (Unread.Refused refusal) = Status.Refused refusal
unread_status Unread.Memory = Status.Memory

-- What the run of a process comes to: it is told of the turn at which the run stops, the value there is near optimal, and the run is
-- done where a turn up to the turn limit is enough. The way takes its number of states.
pub record IsSolution (way : Way) (m : Process) (options : Options) (x : Solution) : Type 0 where
  pub valid : IsValid m
  pub why : x.why ≡ (stop_of m options.turns options.span).why
  pub iterate : told (arc_value x.iterate) ≡ result_of m options.turns options.span
  pub near_optimal : IsNearOptimal m (value m options)
  pub enough : (k : ℕ) → is_enough m options.span k ≡ true → k ≤ options.turns → x.why ≡ Why.Done
  pub fits : FitsModel m (arc_value x.iterate)
  pub takes : TakesStates way m

-- a sum that isn't one, and a reward that passes the limit, with the names of what they are of
abbrev pub named_sum : Process → ℕ → ℕ → List ℕ → ℤ → Unsolved
named_sum m action var state sum = Unsolved.Sum (action_name m action) (var_name m var) (state_text m state) sum

abbrev pub named_reward : Process → ℕ → List ℕ → ℤ → Unsolved
named_reward m action state value = Unsolved.Range (action_name m action) (state_text m state) value

-- a fault of solving over tables, with the names of what is at fault
abbrev pub told_fault : Process → PlainFault → Unsolved
told_fault m (Fault.TooManyStates product) = Unsolved.TooManyStates product
told_fault m (Fault.Sum action var state sum) = named_sum m action var state sum
told_fault m (Fault.Range action state value) = named_reward m action state value
told_fault m Fault.Memory = Unsolved.Memory

-- the state of a fault of building is a state
abbrev pub IsPlacedFault : Process → BuildFault → Type 0
IsPlacedFault m (Build.Sum action var state sum) = IsState (sizes m) state
IsPlacedFault m (Build.Range action state value) = IsState (sizes m) state
IsPlacedFault m Build.Full = Unit {0}
IsPlacedFault m Build.Memory = Unit {0}

-- a fault of building with a node limit, the same
abbrev pub told_build_fault : Process → ℕ → BuildFault → Unsolved
told_build_fault m nodes (Build.Sum action var state sum) = named_sum m action var state sum
told_build_fault m nodes (Build.Range action state value) = named_reward m action state value
told_build_fault m nodes Build.Full = Unsolved.NodeLimit Stages.Building nodes
told_build_fault m nodes Build.Memory = Unsolved.Memory

-- a fault of a turn
abbrev pub told_turn_fault : TurnFault → Unsolved
told_turn_fault (Turn.NodeLimit turn limit) = Unsolved.NodeLimit (Stages.Turn turn) limit
told_turn_fault Turn.Memory = Unsolved.Memory

abbrev pub unsolved_status : Unsolved → Status
unsolved_status (Unsolved.TooManyStates product) = Status.TooManyStates product
unsolved_status (Unsolved.Sum action var state sum) = Status.Sum action var state sum
unsolved_status (Unsolved.Range action state value) = Status.Range action state value
unsolved_status (Unsolved.NodeLimit stage limit) = Status.NodeLimit stage limit
unsolved_status Unsolved.Memory = Status.Memory

-- why a process isn't solved; want of memory has no cause in the process
abbrev pub IsUnsolved : Way → Process → Options → Unsolved → Type 0
IsUnsolved way m options Unsolved.Memory = Unit {0}
IsUnsolved way m options (Unsolved.NodeLimit stage limit) = (way ≡ Diagrams) × (limit ≡ options.nodes) × HasMoreNodes m options stage
IsUnsolved way m options why = RefusesProcess way m (unsolved_status why)

-- a run of a process with these options
pub record IsOf (m : Process) (options : Options) (r : RunValue) : Type 0 where
  pub same : r.process ≡ m
  pub set : r.options ≡ options

-- where a run stands, it stops, for this cause
abbrev pub StopsFor : RunValue → Why → Type 0
StopsFor r why = stop_of r.process r.options.turns r.options.span ≡ record { turn = r.iterate.turn; why = why }

-- `variable=value`, and what parts the word of this number from the one before it
abbrev pub state_word : Var → ℕ → List ℕ
state_word var v = var.name ++ codes "=" ++ value_name var v

abbrev pub gap_before : ℕ → List ℕ
gap_before zero = []
gap_before (suc number) = codes " "

-- ---- ends

-- how a command ends once the result of its run is written
abbrev pub finished_status : Solution → Status
finished_status x = elim x.why [ Why.Done ↦ Status.Done | Why.Limit ↦ Status.TurnLimit (arc_value x.iterate).residual.r ]

-- how a command ended, whether it was finished or not
abbrev pub ending : Result Status Status → Status
ending (Ok status) = status
ending (Err status) = status

-- What a command answers by its status, of what was seen before and after.
pub record Answers (command : Command) (status : Status) (before now : Seen) : Type 0 where
  pub means : Means (kind_of status) command status before now
  pub completes : Completes (kind_of status) command before.inputs.holds
  pub tells : TellsRefusal (kind_of status) command before.inputs.holds status

-- what is seen of any place, which the command doesn't touch, and an output
abbrev pub seen_beside : {K : Type 0} → (K → Option (List ℕ)) → (K → ℕ) → Direction → K → Seen
seen_beside taken faults inputs out = record { inputs = inputs; taken = taken out; faults = faults out }
