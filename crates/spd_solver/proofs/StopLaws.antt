-- A node limit that a run tells is of a turn to which the run comes.
use Rattle.std.proofs.Common.{ℕ, ◌+◌, ◌<◌, Err, refl, sym, subst, arith}
use Rattle.spd_model.specs.declared.options.Options.{Options}
use Rattle.spd_model.specs.Process.{Process}
use Rattle.spd_model.specs.Chances.{IsValid}
use Rattle.spd_turn.specs.declared.rooms.TurnFault.{TurnFault}
use Rattle.spd_turn.specs.declared.rooms.TurnFault.TheVariants as T
use Rattle.spd_turn.specs.Attempts.{nodes_of_turn}
use Rattle.spd_turn.specs.Runs.{RunValue, IsRun, IsFaultOf, AnswersRun}
use Rattle.spd_turn.proofs.CallerLemmas.{one-more}
use Rattle.spd_solver.specs.declared.command.Way.TheVariants.{Diagrams}
use Rattle.spd_solver.specs.Solve.{ComesTo}
use Rattle.spd_solver.specs.inner.Stages.{IsOf, IsUnsolved, told_turn_fault}

-- a fault of a turn to which the run comes
turn-fault : (m : Process) (options : Options) (k : ℕ) → IsValid m → ComesTo m options k → (e : TurnFault) → IsFaultOf m options.span options.nodes k e
    → IsUnsolved Diagrams m options (told_turn_fault e)
turn-fault m options k valid comes T.Memory h = tt
turn-fault m options k valid comes (T.NodeLimit turn limit) h =
    (refl, h.1, subst (λ n. IsValid m × ComesTo m options n × (options.nodes < nodes_of_turn m options.span n)) (sym h.0) (valid, comes, h.2))

-- of the first turn
pub start-fault : (m : Process) (options : Options) → IsValid m → (e : TurnFault) → IsFaultOf m options.span options.nodes 0 e → IsUnsolved Diagrams m options (told_turn_fault e)
start-fault m options valid = turn-fault m options 0 valid (record { within = omega arith; before = λ j less. absurd (omega (arith, less)) })

-- of the next one
pub answer-fault : (m : Process) (options : Options) (old new : RunValue) → IsOf m options old → IsRun old → (e : TurnFault) → AnswersRun old new (Err e)
    → IsUnsolved Diagrams m options (told_turn_fault e)
answer-fault m options old new is run e h =
    let comes : ComesTo old.process old.options (old.iterate.turn + 1) = record { within = omega (arith, h.2); before = one-more old run h.1 } in
    subst (λ n. IsUnsolved Diagrams n options (told_turn_fault e)) is.same
    (subst (λ o. IsUnsolved Diagrams old.process o (told_turn_fault e)) is.set (turn-fault old.process old.options (old.iterate.turn + 1) run.valid comes e h.3))
