-- What solving a ring comes to, for the command as a whole. Its file is read, as the process of the ring, and nothing of it is refused.
use Rattle.std.proofs.Common.{◌≡◌, ℕ, ◌≤◌, List, length, sym, ap, subst}
use Rattle.std.specs.Arc.{arc_value}
use Rattle.spd_edge.specs.Told.{Took, TookFront}
use Rattle.spd_edge.specs.Counts.{Rose}
use Rattle.spd_model.specs.declared.options.Options.{Options}
use Rattle.spd_model.specs.Process.{Process}
use Rattle.spd_model.specs.Chances.{IsValid}
use Rattle.spd_model.specs.ResultText.{Iterate}
use Rattle.spd_frozen.specs.declared.iterate.Iterate.{Iterate as Solved}
use Rattle.spd_frozen.specs.Told.{told}
use Rattle.spd_syntax.specs.declared.unread.Unread.{Unread}
use Rattle.spd_reader.specs.Reading.{IsRead, TellsRefusal as TellsFault}
use Rattle.spd_reader.proofs.CallerLemmas.{one_model, not_refused}
use Rattle.spd_text.specs.Summary.{summary_text}
use Rattle.spd_gen.specs.Ring.{ring_text}
use Rattle.spd_gen.specs.Process.{ring_process}
use Rattle.spd_solver.specs.declared.command.Way.TheVariants.{Diagrams}
use Rattle.spd_solver.specs.declared.solving.Solution.{Solution}
use Rattle.spd_solver.specs.declared.solving.Unsolved.{Unsolved}
use Rattle.spd_solver.specs.declared.status.Stage.{Stage}
use Rattle.spd_solver.specs.declared.status.Status.{Status}
use Rattle.spd_solver.specs.declared.status.Status.TheVariants as S
use Rattle.spd_solver.specs.Command.{solving_ring}
use Rattle.spd_solver.specs.Kind.{Kind, kind_of}
use Rattle.spd_solver.specs.Run.{Ends, Seen, ReadsCalmly, IsUnwritten, Means, Completes, TellsRefusal}
use Rattle.spd_solver.specs.Solve.{file_limit, HasMoreNodes}
use Rattle.spd_solver.specs.inner.Stages.{IsSolution, IsUnsolved, Answers, finished_status, unread_status, unsolved_status}
use Rattle.spd_solver.proofs.Causes.{stage-within}
use Rattle.spd_solver.proofs.RunLaws.{tells_stop, done_status, finished_whole}

module _ (machines : ℕ) (options : Options) (before now : Seen) where
  pub ring_memory : IsUnwritten before now → Answers (solving_ring machines options) S.Memory before now
  ring_memory unwritten = record { means = (tt, unwritten); completes = tt; tells = tt }

  -- what was read is the ring's file
  module _ (bytes : List ℕ) (made : bytes ≡ ring_text machines) (read : IsRead (ring_text machines) (ring_process machines)) where
    pub ring_unread : (why : Unread) → TellsFault bytes why → IsUnwritten before now → Answers (solving_ring machines options) (unread_status why) before now
    ring_unread (Unread.Refused fault) cause unwritten = absurd (not_refused (ring_text machines) (ring_process machines) fault read (subst (λ (file : List ℕ). TellsFault file (Unread.Refused fault)) made cause))
    ring_unread Unread.Memory cause unwritten = ring_memory unwritten

    -- and is read as its process
    pub ring_model : (m : Process) → IsRead bytes m → m ≡ ring_process machines
    ring_model m is = one_model (ring_text machines) m (ring_process machines) (subst (λ (file : List ℕ). IsRead file m) made is) read

  module _ (calm : now.inputs.faults ≡ before.inputs.faults) where
    -- a ring reads no file
    ring_calm : (s : Status) → ReadsCalmly (solving_ring machines options) s before now
    ring_calm s = record { closed = λ name reads. absurd reads; others = λ name reads not. absurd reads; calm = calm }

    ring_limited : (stage : Stage) (limit : ℕ) → limit ≡ options.nodes → HasMoreNodes (ring_process machines) options stage → IsUnwritten before now
        → Answers (solving_ring machines options) (S.NodeLimit stage limit) before now
    ring_limited stage limit is more unwritten = record {
      means = ((is, more), unwritten, ring_calm (S.NodeLimit stage limit));
      completes = λ within. stage-within options (ring_process machines) within stage more;
      tells = tells stage;
    }
      where
        tells : (s : Stage) → TellsRefusal (kind_of (S.NodeLimit s limit)) (solving_ring machines options) before.inputs.holds (S.NodeLimit s limit)
        tells Stage.Building = tt
        tells (Stage.Turn k) = λ status refused. absurd refused
        tells Stage.Check = λ status refused. absurd refused

    ring_unsolved_at : IsValid (ring_process machines) → (why : Unsolved) → IsUnsolved Diagrams (ring_process machines) options why → IsUnwritten before now
        → Answers (solving_ring machines options) (unsolved_status why) before now
    ring_unsolved_at valid (Unsolved.TooManyStates product) cause unwritten = absurd (cc cause.0)
    ring_unsolved_at valid (Unsolved.Sum action var state sum) cause unwritten = absurd (cause.4 valid)
    ring_unsolved_at valid (Unsolved.Range action state value) cause unwritten = absurd (cause.5 valid)
    ring_unsolved_at valid (Unsolved.NodeLimit stage limit) cause unwritten = ring_limited stage limit cause.1 cause.2 unwritten
    ring_unsolved_at valid Unsolved.Memory cause unwritten = ring_memory unwritten

    module _ (m : Process) (same : m ≡ ring_process machines) where
      pub ring_unsolved : IsValid (ring_process machines) → (why : Unsolved) → IsUnsolved Diagrams m options why → IsUnwritten before now → Answers (solving_ring machines options) (unsolved_status why) before now
      ring_unsolved valid why cause unwritten = ring_unsolved_at valid why (subst (λ (n : Process). IsUnsolved Diagrams n options why) same cause) unwritten

      module _ (short : length (ring_text machines) ≤ file_limit) (read : IsRead (ring_text machines) (ring_process machines)) (x : Solution) (h : IsSolution Diagrams m options x) where
        ring_ended : Ends (solving_ring machines options) before.inputs.holds (finished_status x) (summary_text machines m x.why (told (arc_value x.iterate)))
        ring_ended =
            let g = subst (λ (n : Process). IsSolution Diagrams n options x) same h in
            record {
              file = record { short = short; reads = read };
              valid = g.valid;
              stop = tells_stop (ring_process machines) options x.why (arc_value x.iterate).residual.r g.why (ap (λ (i : Iterate). i.residual) g.iterate);
              written = (λ i. summary_text machines (same i) (g.why i) (g.iterate i));
              near_optimal = g.near_optimal;
              enough = λ k enough within. done_status x.why (arc_value x.iterate).residual.r (g.enough k enough within);
            }

        module _ (y : Solved) (is : y ≡ arc_value x.iterate) where
          pub ring_cut : TookFront before.taken (summary_text machines m x.why (told y)) now.taken → Rose before.faults now.faults → Answers (solving_ring machines options) S.WriteFault before now
          ring_cut front rose = record {
            means = (
              summary_text machines m x.why (told (arc_value x.iterate)),
              finished_status x,
              ring_ended,
              subst (λ (z : Solved). TookFront before.taken (summary_text machines m x.why (told z)) now.taken) is front,
              rose,
              ring_calm S.WriteFault,
            );
            completes = tt;
            tells = λ s refused. absurd refused;
          }

          pub ring_whole : Took before.taken (summary_text machines m x.why (told y)) now.taken → now.faults ≡ before.faults → Answers (solving_ring machines options) (finished_status x) before now
          ring_whole took quiet =
              let kind = sym (finished_whole x.why (arc_value x.iterate).residual.r) in
              record {
                means = subst (λ (k : Kind). Means k (solving_ring machines options) (finished_status x) before now) kind (
                  summary_text machines m x.why (told (arc_value x.iterate)),
                  ring_ended,
                  subst (λ (z : Solved). Took before.taken (summary_text machines m x.why (told z)) now.taken) is took,
                  quiet,
                  ring_calm (finished_status x),
                );
                completes = subst (λ (k : Kind). Completes k (solving_ring machines options) before.inputs.holds) kind tt;
                tells = subst (λ (k : Kind). TellsRefusal k (solving_ring machines options) before.inputs.holds (finished_status x)) kind (λ s refused. absurd refused);
              }
