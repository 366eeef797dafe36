-- What solving the process of a model file means, and why it is refused.
use Rattle.std.specs.Prelude.{ℕ, ◌<◌, ◌≤◌, ◌≡◌, true, false, List, length, ℤ, Some, None}
use Rattle.std.specs.List.{join_with_byte}
use Rattle.sha2.specs.Sha256.{sha256}
use Rattle.spd_model.specs.declared.Why.TheVariants as Why
use Rattle.spd_model.specs.Process.{Process}
use Rattle.spd_model.specs.States.{sizes, state_count}
use Rattle.spd_model.specs.Chances.{IsValid, Sum, first_wrong_sum, Reward, first_wide_reward}
use Rattle.spd_model.specs.Turns.{residual_of, rule_at, stop_of, stop_value}
use Rattle.spd_model.specs.ResultText.{action_name, var_name, state_words, result_text}
use Rattle.spd_plain.specs.Space.{state_limit, first_large_product}
use Rattle.spd_bellman.specs.Bound.{IsNearOptimal}
use Rattle.spd_bellman.specs.TurnBound.{is_enough}
use Rattle.spd_build.specs.Functions.{building_functions}
use Rattle.spd_turn.specs.Turn.{count_nodes}
use Rattle.spd_turn.specs.Attempts.{nodes_of_turn}
use Rattle.spd_model.specs.declared.options.Options.{Options}
use Rattle.spd_reader.specs.Reading.{IsRead, IsRefused}
use Rattle.spd_solver.specs.declared.command.Way.{Way}
use Rattle.spd_solver.specs.declared.command.Way.TheVariants.{Diagrams, Tables}
use Rattle.spd_solver.specs.declared.status.Stage.{Stage}
use Rattle.spd_solver.specs.declared.status.Stage.TheVariants.{Building, Turn, Check}
use Rattle.spd_solver.specs.declared.status.Status.{Status}
use Rattle.spd_solver.specs.declared.status.Status.TheVariants.{Done, TooLong, Refused, TooManyStates, Sum as WrongSum, Range as WideReward, TurnLimit, NodeLimit}

-- the most bytes that a model file may have
abbrev pub file_limit : ℕ
file_limit = 4194304

-- the bytes are a file of this process: no longer than a file may be, and read as the process
pub record IsFileOf (bytes : List ℕ) (m : Process) : Type 0 where
  pub short : length bytes ≤ file_limit
  pub reads : IsRead bytes m

-- ---- what is solved

-- the value at which the run of a process stops, by state, and its residual
abbrev pub value : Process → Options → List ℕ → ℤ
value m options = stop_value m options.turns options.span

abbrev pub residual : Process → Options → ℤ
residual m options = residual_of m (value m options)

-- The status tells why the run stopped: done where the stop rule holds at its turn; else it is the turn limit's, with the residual.
abbrev pub TellsStop : Process → Options → Status → Type 0
TellsStop m options Done = (stop_of m options.turns options.span).why ≡ Why.Done
TellsStop m options (TurnLimit r) = ((stop_of m options.turns options.span).why ≡ Why.Limit) × (r ≡ residual m options)
TellsStop m options _ = ⊥

-- The process of a file is solved: it is valid, the status tells why its run stopped, the text is that of the result, and the value
-- and the policy in that text are optimal up to the residual over one minus the discount: for every state, course of action and
-- number of steps. Where a turn up to the turn limit is enough, the run is done.
pub record IsSolved (bytes : List ℕ) (options : Options) (status : Status) (text : List ℕ) : Type 0 where
  pub process : Process
  pub file : IsFileOf bytes process
  pub valid : IsValid process
  pub stop : TellsStop process options status
  pub written : text ≡ result_text (sha256 bytes) process options.turns options.span
  pub near_optimal : IsNearOptimal process (value process options)
  pub enough : (k : ℕ) → is_enough process options.span k ≡ true → k ≤ options.turns → status ≡ Done

-- ---- what is refused

-- a process of no more states than tables are made of
abbrev pub HasFewStates : Process → Type 0
HasFewStates m = state_count (sizes m) ≤ state_limit

-- what a way asks of the number of states: tables are made of few states alone, diagrams of any number of them
abbrev pub TakesStates : Way → Process → Type 0
TakesStates Tables m = HasFewStates m
TakesStates Diagrams m = Unit {0}

-- a state in words, parted by spaces
abbrev pub state_text : Process → List ℕ → List ℕ
state_text m s = join_with_byte 32 (state_words m s)

-- the parts of a message on a sum, and of one on a reward, in words
pub record Tells (m : Process) (x : Sum) (action var state : List ℕ) (sum : ℤ) : Type 0 where
  pub action_is : action ≡ action_name m x.action
  pub var_is : var ≡ var_name m x.var
  pub state_is : state ≡ state_text m x.state
  pub sum_is : sum ≡ x.sum

pub record TellsReward (m : Process) (x : Reward) (action state : List ℕ) (value : ℤ) : Type 0 where
  pub action_is : action ≡ action_name m x.action
  pub state_is : state ≡ state_text m x.state
  pub value_is : value ≡ x.value

-- Why a process isn't solved, in this order: it has more states than tables are made of, where it is solved over them; its first sum of
-- probabilities that isn't one; its first reward that passes the limit.
abbrev pub RefusesProcess : Way → Process → Status → Type 0
RefusesProcess way m (TooManyStates product) = (way ≡ Tables) × (state_limit < state_count (sizes m)) × (first_large_product m ≡ Some product)
RefusesProcess way m (WrongSum action var state sum) =
    (x : Sum) × TakesStates way m × (first_wrong_sum m ≡ Some x) × Tells m x action var state sum × (IsValid m → ⊥)
RefusesProcess way m (WideReward action state reward) =
    (x : Reward) × TakesStates way m × (first_wrong_sum m ≡ None) × (first_wide_reward m ≡ Some x) × TellsReward m x action state reward
    × (IsValid m → ⊥)
RefusesProcess way m _ = ⊥

-- Why the file of this name isn't solved, in this order: it is too long, it is read as no process, its process isn't solved.
abbrev pub RefusesFile : Way → List ℕ → List ℕ → Status → Type 0
RefusesFile way file bytes (TooLong name) = (name ≡ file) × (file_limit < length bytes)
RefusesFile way file bytes (Refused refusal) = (length bytes ≤ file_limit) × IsRefused bytes refusal
RefusesFile way file bytes status = (m : Process) × IsFileOf bytes m × RefusesProcess way m status

-- ---- the node limit of diagrams

-- the nodes of building a process
abbrev pub nodes_of_building : Process → ℕ
nodes_of_building m = count_nodes (sizes m) (building_functions m)

-- The run of a process comes to turn k: the turn limit allows it, and the stop rule holds at no turn before.
pub record ComesTo (m : Process) (options : Options) (k : ℕ) : Type 0 where
  pub within : k ≤ options.turns
  pub before : (j : ℕ) → j < k → rule_at m options.span j ≡ false

-- A stage of solving has more nodes than the options allow. A turn is a stage of a valid process's run alone, which comes to it.
abbrev pub HasMoreNodes : Process → Options → Stage → Type 0
HasMoreNodes m options Building = options.nodes < nodes_of_building m
HasMoreNodes m options (Turn k) = IsValid m × ComesTo m options k × (options.nodes < nodes_of_turn m options.span k)
HasMoreNodes m options Check = ⊥

-- Why the node limit is told, on diagrams alone: the named stage of the file's process has more nodes than the options allow.
abbrev pub PassesLimit : Way → List ℕ → Options → Status → Type 0
PassesLimit way bytes options (NodeLimit stage limit) =
    (m : Process) × IsFileOf bytes m × (way ≡ Diagrams) × (limit ≡ options.nodes) × HasMoreNodes m options stage
PassesLimit way bytes options _ = ⊥

-- A process is within the limits of a way: tables are made of few states; on diagrams neither building nor a turn that the run comes to
-- has more nodes than the options allow.
abbrev pub IsWithinLimits : Way → Process → Options → Type 0
IsWithinLimits Tables m options = HasFewStates m
IsWithinLimits Diagrams m options =
    (nodes_of_building m ≤ options.nodes) × ((k : ℕ) → ComesTo m options k → nodes_of_turn m options.span k ≤ options.nodes)
