-- Turns in tables that have room enough, and runs of them.
use Rattle.std.specs.Prelude.{◌≡◌, ℕ, suc, ◌+◌, ◌<◌, ◌≤◌, true, false, List, ℤ, Result, Ok, Err}
use Rattle.spd_cons.specs.Values.{SeatValue, TableValue}
use Rattle.spd_model.specs.declared.Why.TheVariants.{Done, Limit}
use Rattle.spd_model.specs.declared.options.Options.{Options}
use Rattle.spd_model.specs.Process.{Process}
use Rattle.spd_model.specs.Chances.{IsValid}
use Rattle.spd_model.specs.Options.{AreOptions}
use Rattle.spd_model.specs.Reduced.{Node}
use Rattle.spd_model.specs.Turns.{rule_at}
use Rattle.spd_nodes.specs.declared.leaf.Leaf.{Leaf}
use Rattle.spd_frozen.specs.declared.iterate.Iterate.{Iterate}
use Rattle.spd_frozen.specs.Fits.{FitsModel}
use Rattle.spd_build.specs.declared.built.Built.{Built}
use Rattle.spd_build.specs.Built.{IsBuilt, frozen_numbers}
use Rattle.spd_turn.specs.declared.rooms.TurnFault.{TurnFault}
use Rattle.spd_turn.specs.declared.rooms.TurnFault.TheVariants as T
use Rattle.spd_turn.specs.declared.running.Advance.{Advance}
use Rattle.spd_turn.specs.declared.running.Advance.TheVariants as A
use Rattle.spd_turn.specs.Attempts.{HoldsTurn, nodes_of_turn}
use Rattle.spd_turn.specs.Turn.{IsTurnOf, value_of_turn}

-- The cause of a turn's fault: the node limit is told only where the turn has more nodes. Want of memory has no cause in the process.
abbrev pub IsFaultOf : Process → ℤ → ℕ → ℕ → TurnFault → Type 0
IsFaultOf m span nodes k (T.NodeLimit turn limit) = (turn ≡ k) × (limit ≡ nodes) × (nodes < nodes_of_turn m span k)
IsFaultOf m span nodes k T.Memory = Unit {0}

-- ---- a run

-- what contracts see of a run
pub record RunValue : Type 0 where
  pub process : Process
  pub built : Built
  pub options : Options
  pub iterate : Iterate
  pub next : List (Node Leaf)
  pub table : TableValue
  pub seat : SeatValue

-- A run of a valid process stands at a turn, in the table of this turn, which has no more room than the node limit. The stop rule holds at
-- no turn before.
pub record IsRun (r : RunValue) : Type 0 where
  pub valid : IsValid r.process
  pub built : IsBuilt r.process r.built
  pub options : AreOptions r.options
  pub told : IsTurnOf r.process r.options.span r.iterate.turn r.iterate
  pub fits : FitsModel r.process r.iterate
  pub next : r.next ≡ frozen_numbers r.process (value_of_turn r.process r.options.span (suc r.iterate.turn))
  pub within : r.iterate.turn ≤ r.options.turns
  pub before : (j : ℕ) → j < r.iterate.turn → rule_at r.process r.options.span j ≡ false
  pub holds : HoldsTurn r.process r.options.span r.iterate.turn r.table r.seat
  pub room : r.table.size.limit ≤ r.options.nodes

-- The run stands at a turn of the same process, with the same options.
pub record StandsAt (process : Process) (options : Options) (k : ℕ) (r : RunValue) : Type 0 where
  pub same : r.process ≡ process
  pub set : r.options ≡ options
  pub turn : r.iterate.turn ≡ k

-- What going on answers: the next turn, where the stop rule doesn't hold and the limit isn't reached; that the run stops, which changes
-- nothing: as done where the rule holds, else at the limit; or a fault of the next turn, where the run goes on to it, which changes nothing.
abbrev pub AnswersRun : RunValue → RunValue → Result Advance TurnFault → Type 0
AnswersRun old new (Ok A.Turned) =
    StandsAt old.process old.options (old.iterate.turn + 1) new × (rule_at old.process old.options.span old.iterate.turn ≡ false) × (old.iterate.turn < old.options.turns)
AnswersRun old new (Ok (A.Stopped Done)) = (new ≡ old) × (rule_at old.process old.options.span old.iterate.turn ≡ true)
AnswersRun old new (Ok (A.Stopped Limit)) =
    (new ≡ old) × (rule_at old.process old.options.span old.iterate.turn ≡ false) × (old.iterate.turn ≡ old.options.turns)
AnswersRun old new (Err e) =
    (new ≡ old) × (rule_at old.process old.options.span old.iterate.turn ≡ false) × (old.iterate.turn < old.options.turns)
    × IsFaultOf old.process old.options.span old.options.nodes (old.iterate.turn + 1) e
