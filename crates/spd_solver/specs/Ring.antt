-- What solving the process of a ring means.
use Rattle.std.specs.Prelude.{ℕ, ◌≤◌, ◌≡◌, true, List}
use Rattle.spd_model.specs.declared.options.Options.{Options}
use Rattle.spd_model.specs.Chances.{IsValid}
use Rattle.spd_model.specs.Turns.{stop_of}
use Rattle.spd_model.specs.ResultText.{result_of}
use Rattle.spd_bellman.specs.Bound.{IsNearOptimal}
use Rattle.spd_bellman.specs.TurnBound.{is_enough}
use Rattle.spd_text.specs.Summary.{summary_text}
use Rattle.spd_gen.specs.Ring.{ring_text}
use Rattle.spd_gen.specs.Process.{ring_process}
use Rattle.spd_solver.specs.declared.status.Status.{Status}
use Rattle.spd_solver.specs.declared.status.Status.TheVariants.{Done, NodeLimit}
use Rattle.spd_solver.specs.Solve.{IsFileOf, TellsStop, HasMoreNodes, value}

-- the summary of the result of a ring of so many machines: of the turn at which its run stops
abbrev pub ring_summary : ℕ → Options → List ℕ
ring_summary machines options =
    let m = ring_process machines in
    summary_text machines m (stop_of m options.turns options.span).why (result_of m options.turns options.span)

-- The process of a ring is solved: it is that of the ring's file and valid, the status tells why its run stopped, the text is the summary
-- of the result, and the value whose residual and nodes it tells is optimal up to that residual over one minus the discount, and so is its
-- policy. Where a turn up to the turn limit is enough, the run is done. Of the same file `solve` ends with the same status.
pub record IsRingSolved (machines : ℕ) (options : Options) (status : Status) (text : List ℕ) : Type 0 where
  pub file : IsFileOf (ring_text machines) (ring_process machines)
  pub valid : IsValid (ring_process machines)
  pub stop : TellsStop (ring_process machines) options status
  pub written : text ≡ ring_summary machines options
  pub near_optimal : IsNearOptimal (ring_process machines) (value (ring_process machines) options)
  pub enough : (k : ℕ) → is_enough (ring_process machines) options.span k ≡ true → k ≤ options.turns → status ≡ Done

-- Why the node limit is told of a ring: the named stage of its process has more nodes than the options allow.
abbrev pub RingPassesLimit : ℕ → Options → Status → Type 0
RingPassesLimit machines options (NodeLimit stage limit) = (limit ≡ options.nodes) × HasMoreNodes (ring_process machines) options stage
RingPassesLimit machines options _ = ⊥
