-- What the stages of a command come to, for the command as a whole.
use Rattle.std.proofs.Common.{◌≡◌, ◌↔◌, ℕ, ◌+◌, ◌<◌, ◌≤◌, List, length, ℤ, Option, Some, None, IfSome, Result, refl, sym, ap, subst, ◌∙◌, arith}
use Rattle.std.specs.Arc.{arc_value}
use Rattle.std.specs.Prelude.{replicate}
use Rattle.std.proofs.lemmas.List.{length-replicate}
use Rattle.std.proofs.lemmas.Option.{same_Some, none-some}
use Rattle.sha2.specs.Sha256.{sha256}
use Rattle.spd_edge.specs.Told.{Took, TookFront}
use Rattle.spd_edge.specs.Counts.{Rose}
use Rattle.spd_edge.specs.declared.outside.Stage.TheVariants as Stage
use Rattle.spd_model.specs.declared.Why.{Why}
use Rattle.spd_model.specs.declared.options.Options.{Options}
use Rattle.spd_model.specs.Process.{Process}
use Rattle.spd_model.specs.Turns.{stop_of}
use Rattle.spd_model.specs.ResultText.{Iterate, text_of}
use Rattle.spd_frozen.specs.declared.iterate.Iterate.{Iterate as Solved}
use Rattle.spd_frozen.specs.Told.{told}
use Rattle.spd_syntax.specs.declared.unread.Unread.{Unread}
use Rattle.spd_reader.specs.Reading.{IsRead, TellsRefusal as TellsFault}
use Rattle.spd_solver.specs.declared.command.Way.{Way}
use Rattle.spd_solver.specs.declared.file.Unreadable.{Unreadable}
use Rattle.spd_solver.specs.declared.solving.Solution.{Solution}
use Rattle.spd_solver.specs.declared.solving.Unsolved.{Unsolved}
use Rattle.spd_solver.specs.declared.status.Stage.{Stage}
use Rattle.spd_solver.specs.declared.status.Status.{Status}
use Rattle.spd_solver.specs.declared.status.Status.TheVariants as S
use Rattle.spd_solver.specs.Command.{Command, solving, AskFor, OnCommand, IsUsage}
use Rattle.spd_solver.specs.Kind.{Kind, whole, refusal, limited, kind_of}
use Rattle.spd_solver.specs.Run.{Ends, Refuses, Exceeds, HoldsAccepted, HoldsRefused, Seen, ReadsCalmly, IsUnwritten, Means, Completes, TellsRefusal}
use Rattle.spd_solver.specs.Solve.{residual, file_limit, IsFileOf, TellsStop, RefusesFile, PassesLimit}
use Rattle.spd_solver.specs.inner.Stages.{IsSolution, IsUnsolved, FailsToRead, Asks, AskWrongly, Answers, ending, finished_status, unreadable_status, unread_status, unsolved_status}
use Rattle.spd_solver.proofs.Causes.{file_once, file_right, accepted-right, accepted-within, turn-right}

-- there are bytes longer than this
some_longer : (n : ℕ) → (bytes : List ℕ) × (n < length bytes)
some_longer n = (replicate (n + 1) 0, rw (length-replicate) (omega arith))

-- bytes that are longer than this, and those that the place holds, where it tells them
pub long_bytes : (n : ℕ) (o : Option (List ℕ)) → IfSome o (λ bytes. n < length bytes) → (bytes : List ℕ) × IfSome o (λ held. bytes ≡ held) × (n < length bytes)
long_bytes n None long = let b = some_longer n in (b.0, tt, b.1)
long_bytes n (Some held) long = (held, refl, long)

-- what is said of the bytes that the place holds, where it tells them
pub told_of : (o : Option (List ℕ)) (bytes : List ℕ) (P : List ℕ → Type 0) → IfSome o P → o ≡ Some bytes → P bytes
told_of None bytes P p is = absurd (none-some bytes is)
told_of (Some held) bytes P p is = subst P (same_Some held bytes is) p

pub tells_stop : (m : Process) (options : Options) (why : Why) (r : ℤ) → why ≡ (stop_of m options.turns options.span).why → r ≡ residual m options
    → TellsStop m options (elim why [ Why.Done ↦ S.Done | Why.Limit ↦ S.TurnLimit r ])
tells_stop m options Why.Done r why is = sym why
tells_stop m options Why.Limit r why is = (sym why, is)

-- a run that is done ends so
pub done_status : (why : Why) (r : ℤ) → why ≡ Why.Done → elim why [ Why.Done ↦ S.Done | Why.Limit ↦ S.TurnLimit r ] ≡ S.Done
done_status why r is = ap (λ (w : Why). elim w [ Why.Done ↦ S.Done | Why.Limit ↦ S.TurnLimit r ]) is

-- a run that was finished ends with its whole text
pub finished_whole : (why : Why) (r : ℤ) → kind_of (elim why [ Why.Done ↦ S.Done | Why.Limit ↦ S.TurnLimit r ]) ≡ whole
finished_whole Why.Done r = refl
finished_whole Why.Limit r = refl

-- a file of this name was read, and nothing was written
pub record WasRead (file bytes : List ℕ) (before now : Seen) : Type 0 where
  pub held : IfSome (before.inputs.holds file) (λ held. bytes ≡ held)
  pub short : length bytes ≤ file_limit
  pub closed : now.inputs.stage file ≡ Some Stage.Closed
  pub calm : now.inputs.faults ≡ before.inputs.faults

pub was_read : (file items bytes : List ℕ) (before now : Seen) → bytes ≡ items → IfSome (before.inputs.holds file) (λ held. items ≡ held)
    → length items ≤ file_limit → now.inputs.stage file ≡ Some Stage.Closed → now.inputs.faults ≡ before.inputs.faults → WasRead file bytes before now
was_read file items bytes before now same held short closed calm =
    subst (λ (b : List ℕ). WasRead file b before now) (sym same) (record { held = held; short = short; closed = closed; calm = calm })

module _ (way : Way) (file : List ℕ) (options : Options) (before now : Seen) where
  reads_calmly : now.inputs.stage file ≡ Some Stage.Closed → now.inputs.faults ≡ before.inputs.faults → (s : Status) → ReadsCalmly (solving way file options) s before now
  reads_calmly closed calm s = record { closed = λ name is. ap now.inputs.stage is ∙ closed; others = λ name is not. absurd (not is); calm = calm }

  -- ---- what is refused

  -- a refusal that has its cause
  refused_answers : (s : Status) → kind_of s ≡ refusal → Refuses (solving way file options) before.inputs.holds s → IsUnwritten before now → ReadsCalmly (solving way file options) s before now
      → Answers (solving way file options) s before now
  refused_answers s kind cause unwritten calm =
      let told = λ (bytes : List ℕ) (is : before.inputs.holds file ≡ Some bytes).
      subst (λ (b : List ℕ). RefusesFile way file b s) (told_of (before.inputs.holds file) bytes (λ (b : List ℕ). cause.0 ≡ b) cause.1 is) cause.2 in
      record {
        means = subst (λ (k : Kind). Means k (solving way file options) s before now) (sym kind) (cause, unwritten, calm);
        completes = subst (λ (k : Kind). Completes k (solving way file options) before.inputs.holds) (sym kind)
            (λ accepted. accepted-right way file accepted.0 options accepted.1 accepted.3 accepted.4 accepted.5 s (told accepted.0 accepted.2));
        tells = subst (λ (k : Kind). TellsRefusal k (solving way file options) before.inputs.holds s) (sym kind)
            (λ other refused. file_once way file refused.0 s other (told refused.0 refused.1) refused.2);
      }

  -- ---- a node limit that is passed

  exceeded : (stage : Stage) (limit : ℕ) → Exceeds (solving way file options) before.inputs.holds (S.NodeLimit stage limit) → HoldsAccepted (solving way file options) before.inputs.holds → ⊥
  exceeded stage limit cause accepted =
      accepted-within way file accepted.0 options accepted.1 accepted.3 accepted.4 accepted.5 stage limit
      (subst (λ (b : List ℕ). PassesLimit way b options (S.NodeLimit stage limit)) (told_of (before.inputs.holds file) accepted.0 (λ (b : List ℕ). cause.0 ≡ b) cause.1 accepted.2) cause.2)

  limit_tells : (stage : Stage) (limit : ℕ) → Exceeds (solving way file options) before.inputs.holds (S.NodeLimit stage limit)
      → TellsRefusal limited (solving way file options) before.inputs.holds (S.NodeLimit stage limit)
  limit_tells Stage.Building limit cause = tt
  limit_tells Stage.Check limit cause = absurd cause.2.4
  limit_tells (Stage.Turn k) limit cause = λ other refused.
      absurd (turn-right way file refused.0 options k limit
      (subst (λ (b : List ℕ). PassesLimit way b options (S.NodeLimit (Stage.Turn k) limit)) (told_of (before.inputs.holds file) refused.0 (λ (b : List ℕ). cause.0 ≡ b) cause.1 refused.1) cause.2)
      other refused.2)

  -- a limit that has its cause
  limited_answers : (stage : Stage) (limit : ℕ) → Exceeds (solving way file options) before.inputs.holds (S.NodeLimit stage limit) → IsUnwritten before now → ReadsCalmly (solving way file options) (S.NodeLimit stage limit) before now
      → Answers (solving way file options) (S.NodeLimit stage limit) before now
  limited_answers stage limit cause unwritten calm = record {
    means = (cause, unwritten, calm);
    completes = exceeded stage limit cause;
    tells = limit_tells stage limit cause;
  }

  pub memory_answers : IsUnwritten before now → Answers (solving way file options) S.Memory before now
  memory_answers unwritten = record { means = (tt, unwritten); completes = tt; tells = tt }

  pub unreadable_answers : (why : Unreadable) → FailsToRead before.inputs now.inputs file file_limit why → IsUnwritten before now
      → Answers (solving way file options) (unreadable_status why) before now
  unreadable_answers (Unreadable.Open name) cause unwritten =
      let P = λ (n : List ℕ). (n ≡ file) × Rose (before.inputs.faults n) (now.inputs.faults n) × (now.inputs.stage n ≡ Some Stage.Unopened) in
      record { means = (subst P (sym cause.0) (refl, cause.1, cause.2), unwritten); completes = tt; tells = tt }
  unreadable_answers (Unreadable.Read name) cause unwritten =
      let P = λ (n : List ℕ). (n ≡ file) × Rose (before.inputs.faults n) (now.inputs.faults n) × (now.inputs.stage n ≡ Some Stage.Closed) in
      record { means = (subst P (sym cause.0) (refl, cause.1, cause.2), unwritten); completes = tt; tells = tt }
  unreadable_answers (Unreadable.TooLong name) cause unwritten =
      let long = long_bytes file_limit (before.inputs.holds file) cause.2 in
      refused_answers (S.TooLong name) refl (long.0, long.1, (cause.0, long.2)) unwritten (reads_calmly cause.3 cause.1 (S.TooLong name))
  unreadable_answers Unreadable.Memory cause unwritten = memory_answers unwritten

  module _ (bytes : List ℕ) (read : WasRead file bytes before now) where
    -- the file that was read is refused
    read_refused : (s : Status) → kind_of s ≡ refusal → RefusesFile way file bytes s → IsUnwritten before now → Answers (solving way file options) s before now
    read_refused s kind cause unwritten =
        refused_answers s kind (bytes, read.held, cause) unwritten (reads_calmly read.closed read.calm s)

    pub unread_answers : (why : Unread) → TellsFault bytes why → IsUnwritten before now → Answers (solving way file options) (unread_status why) before now
    unread_answers (Unread.Refused fault) cause unwritten = read_refused (S.Refused fault) refl (read.short, cause) unwritten
    unread_answers Unread.Memory cause unwritten = memory_answers unwritten

    module _ (m : Process) (is : IsRead bytes m) where
      file_is : IsFileOf bytes m
      file_is = record { short = read.short; reads = is }

      pub unsolved_answers : (why : Unsolved) → IsUnsolved way m options why → IsUnwritten before now → Answers (solving way file options) (unsolved_status why) before now
      unsolved_answers (Unsolved.TooManyStates product) cause unwritten = read_refused (S.TooManyStates product) refl (m, file_is, cause) unwritten
      unsolved_answers (Unsolved.Sum action var state sum) cause unwritten = read_refused (S.Sum action var state sum) refl (m, file_is, cause) unwritten
      unsolved_answers (Unsolved.Range action state value) cause unwritten = read_refused (S.Range action state value) refl (m, file_is, cause) unwritten
      unsolved_answers (Unsolved.NodeLimit stage limit) cause unwritten =
          limited_answers stage limit (bytes, read.held, (m, file_is, cause.0, cause.1, cause.2)) unwritten (reads_calmly read.closed read.calm (S.NodeLimit stage limit))
      unsolved_answers Unsolved.Memory cause unwritten = memory_answers unwritten

      -- ---- what is solved

      module _ (digest : List ℕ) (named : digest ≡ sha256 bytes) (x : Solution) (h : IsSolution way m options x) where
        ended : Ends (solving way file options) before.inputs.holds (finished_status x) (text_of digest m x.why (told (arc_value x.iterate)))
        ended = (
          bytes,
          read.held,
          record {
            process = m;
            file = file_is;
            valid = h.valid;
            stop = tells_stop m options x.why (arc_value x.iterate).residual.r h.why (ap (λ (i : Iterate). i.residual) h.iterate);
            written = (λ i. text_of (named i) m (h.why i) (h.iterate i));
            near_optimal = h.near_optimal;
            enough = λ k enough within. done_status x.why (arc_value x.iterate).residual.r (h.enough k enough within);
          },
        )

        -- a file that was solved isn't refused
        not_refused : (s : Status) → HoldsRefused (solving way file options) before.inputs.holds s → ⊥
        not_refused s refused =
            let same = told_of (before.inputs.holds file) refused.0 (λ (b : List ℕ). bytes ≡ b) read.held refused.1 in
            file_right way file bytes m file_is h.valid h.takes s (subst (λ (b : List ℕ). RefusesFile way file b s) (sym same) refused.2)

        -- what was written is the text of what the solution tells
        module _ (y : Solved) (same : y ≡ arc_value x.iterate) where
          pub cut_answers : TookFront before.taken (text_of digest m x.why (told y)) now.taken → Rose before.faults now.faults
              → Answers (solving way file options) S.WriteFault before now
          cut_answers front rose = record {
            means = (
              text_of digest m x.why (told (arc_value x.iterate)),
              finished_status x,
              ended,
              subst (λ (z : Solved). TookFront before.taken (text_of digest m x.why (told z)) now.taken) same front,
              rose,
              reads_calmly read.closed read.calm S.WriteFault,
            );
            completes = tt;
            tells = λ s refused. absurd (not_refused s refused);
          }

          pub whole_answers : Took before.taken (text_of digest m x.why (told y)) now.taken → now.faults ≡ before.faults
              → Answers (solving way file options) (finished_status x) before now
          whole_answers took calm =
              let kind = sym (finished_whole x.why (arc_value x.iterate).residual.r) in
              let written = subst (λ (z : Solved). Took before.taken (text_of digest m x.why (told z)) now.taken) same took in
              record {
                means = subst (λ (k : Kind). Means k (solving way file options) (finished_status x) before now) kind
                    (text_of digest m x.why (told (arc_value x.iterate)), ended, written, calm, reads_calmly read.closed read.calm (finished_status x));
                completes = subst (λ (k : Kind). Completes k (solving way file options) before.inputs.holds) kind tt;
                tells = subst (λ (k : Kind). TellsRefusal k (solving way file options) before.inputs.holds (finished_status x)) kind
                    (λ s refused. absurd (not_refused s refused));
              }

-- ---- for the words that were given

module _ (words : List (List ℕ)) (given : Command) (outcome : Result Status Status) (status : Status) (before now : Seen)
    (is : status ≡ ending outcome) (asks : Asks words given) (answers : Answers given (ending outcome) before now) where
  -- what is answered to the command that the words ask for
  answered : (command : Command) → AskFor words command → Answers command status before now
  answered command asked =
      subst (λ (other : Command). Answers other status before now) (sym (asks.once command asked))
      (subst (λ (s : Status). Answers given s before now) (sym is) answers)

  pub means : OnCommand words (λ command. Means (kind_of status) command status before now)
  means command asked = (answered command asked).means

  pub completes : OnCommand words (λ command. Completes (kind_of status) command before.inputs.holds)
  completes command asked = (answered command asked).completes

  pub tells : OnCommand words (λ command. TellsRefusal (kind_of status) command before.inputs.holds status)
  tells command asked = (answered command asked).tells

  pub headline : OnCommand words
      (λ command. kind_of status ≡ whole → (text : List ℕ) × Ends command before.inputs.holds status text × Took before.taken text now.taken)
  headline command asked whole_is =
      let finished = subst (λ (kind : Kind). Means kind command status before now) whole_is (means command asked) in
      (finished.0, finished.1, finished.2)

  -- a command that was run doesn't end for its words
  pub runs : (word : ℕ) → (status ≡ S.Usage word) ↔ IsUsage words word
  runs word = (
    λ wrong. absurd (subst (λ (s : Status). Means (kind_of s) given s before now) wrong (means given asks.asked)),
    λ wrong. absurd (asks.right word wrong),
  )

-- words that can't be run end for their word
pub wrong : (words : List (List ℕ)) (word : ℕ) → AskWrongly words word → (other : ℕ) → (S.Usage word ≡ S.Usage other) ↔ IsUsage words other
wrong words word asks other = (
  λ is. let same : word ≡ other = cc in subst (λ (w : ℕ). IsUsage words w) same asks.wrong,
  λ also. ap (λ (w : ℕ). S.Usage w) (sym (asks.once other also)),
)
