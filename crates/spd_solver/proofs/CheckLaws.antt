-- What the stages of a check come to, for the command as a whole.
use Rattle.std.proofs.Common.{◌≡◌, ℕ, ◌<◌, ◌≤◌, inl, inr, true, false, List, length, Some, None, Ok, IfSome, refl, sym, ap, subst, ◌∙◌}
use Rattle.sha2.specs.Sha256.{sha256}
use Rattle.spd_edge.specs.Counts.{Rose}
use Rattle.spd_edge.specs.Direction.{Direction}
use Rattle.spd_edge.specs.Told.{Took, TookFront}
use Rattle.spd_edge.specs.declared.outside.Stage.TheVariants as Stage
use Rattle.spd_model.specs.declared.options.Options.{Options}
use Rattle.spd_model.specs.Process.{Process}
use Rattle.spd_model.specs.Chances.{Sum, Reward}
use Rattle.spd_model.proofs.CallerLemmas.Validity.{wrong_sum-invalid, wide_reward-invalid}
use Rattle.spd_syntax.specs.declared.unread.Unread.{Unread}
use Rattle.spd_reader.specs.Reading.{TellsRefusal as TellsFault}
use Rattle.spd_check.specs.declared.text.Judgement.{Judgement}
use Rattle.spd_check.specs.declared.text.Unjudged.{Unjudged}
use Rattle.spd_check.specs.declared.text.Unjudged.TheVariants as U
use Rattle.spd_check.specs.declared.verdict.CheckFault.{CheckFault}
use Rattle.spd_check.specs.declared.verdict.CheckFault.TheVariants as C
use Rattle.spd_check.specs.declared.verdict.Verdict.{Verdict}
use Rattle.spd_check.specs.declared.verdict.Verdict.TheVariants as V
use Rattle.spd_check.specs.Certificates.{value_by, policy_by}
use Rattle.spd_check.specs.Faults.{IsFaultOf}
use Rattle.spd_check.specs.Texts.{IsJudged, IsUnjudged, NamesNoOther}
use Rattle.spd_cert.specs.declared.cert.Cert.{Cert}
use Rattle.spd_cert.specs.Reading.{judged}
use Rattle.spd_solver.specs.declared.checking.Given.{Given}
use Rattle.spd_solver.specs.declared.command.Purpose.{Purpose}
use Rattle.spd_solver.specs.declared.file.Unreadable.{Unreadable}
use Rattle.spd_solver.specs.declared.status.Stage.{Stage as NodeStage}
use Rattle.spd_solver.specs.declared.status.Stage.TheVariants as Stages
use Rattle.spd_solver.specs.declared.status.Status.{Status}
use Rattle.spd_solver.specs.declared.status.Status.TheVariants as S
use Rattle.spd_solver.specs.Command.{Command, checking}
use Rattle.spd_solver.specs.Kind.{Kind, kind_of, refusal, limited}
use Rattle.spd_solver.specs.Run.{Held, AreOf, IsHeld, Reads, HasOpened, HadRead, Ends, Seen, ReadsCalmly, IsUnwritten, Means, Completes, TellsRefusal}
use Rattle.spd_solver.specs.Solve.{file_limit, IsFileOf}
use Rattle.spd_solver.specs.Check.{cert_limit, IsCertOf, IsChecked, RefusesCheck, PassesCheckLimit}
use Rattle.spd_solver.specs.inner.Checks.{AreRead, told_check_fault, unjudged_status, verdict_status, verdict_text}
use Rattle.spd_solver.specs.inner.Stages.{FailsToRead, Answers, unreadable_status, unread_status, unsolved_status}
use Rattle.spd_solver.proofs.CheckCauses.{check_once, check_right, accepted-within}
use Rattle.spd_solver.proofs.RunLaws.{long_bytes, told_of}
use Rattle.spd_solver.proofs.VerdictLaws.{tells_verdict, done_yes, yes_done, verdict_whole}

-- bytes that were read are those that the place tells
same_held : (held : Held) (name a b : List ℕ) → AreOf held name a → IsHeld held name b → a ≡ b
same_held held name a b are is = told_of (held name) b (λ (t : List ℕ). a ≡ t) are is

held_same : (held : Held) (name a b : List ℕ) → IsHeld held name a → AreOf held name b → a ≡ b
held_same held name a b is are = sym (same_held held name b a are is)

module _ (purpose : Purpose) (file cert : List ℕ) (options : Options) (before now : Seen) where
  abbrev command : Command
  command = checking purpose file cert options

  -- ---- which files were opened

  -- both
  both_read : (s : Status) → ((name : List ℕ) → HasOpened command s name → Reads command name) → ((name : List ℕ) → Reads command name → HasOpened command s name)
      → now.inputs.stage file ≡ Some Stage.Closed → now.inputs.stage cert ≡ Some Stage.Closed → now.inputs.faults ≡ before.inputs.faults → ReadsCalmly command s before now
  both_read s from to file_closed cert_closed calm = record {
    closed = λ name opened. elim (from name opened) [ inl is ↦ ap now.inputs.stage is ∙ file_closed | inr is ↦ ap now.inputs.stage is ∙ cert_closed ];
    others = λ name reads not. absurd (not (to name reads));
    calm = calm;
  }

  -- the model file alone, where it is refused
  model_read : (s : Status) → ((name : List ℕ) → HasOpened command s name → name ≡ file) → ((name : List ℕ) → name ≡ file → HasOpened command s name)
      → now.inputs.stage file ≡ Some Stage.Closed → now.inputs.stage cert ≡ None → now.inputs.faults ≡ before.inputs.faults → ReadsCalmly command s before now
  model_read s from to closed none calm = record {
    closed = λ name opened. ap now.inputs.stage (from name opened) ∙ closed;
    others = λ name reads not. elim reads [ inl is ↦ absurd (not (to name is)) | inr is ↦ ap now.inputs.stage is ∙ none ];
    calm = calm;
  }

  long_from : (long : List ℕ) → long ≡ file → (name : List ℕ) → HasOpened command (S.TooLong long) name → name ≡ file
  long_from long same name (inl is) = is
  long_from long same name (inr is) = is ∙ same

  cert_from : (long : List ℕ) → long ≡ cert → (name : List ℕ) → HasOpened command (S.TooLong long) name → Reads command name
  cert_from long same name (inl is) = inl is
  cert_from long same name (inr is) = inr (is ∙ same)

  cert_to : (long : List ℕ) → long ≡ cert → (name : List ℕ) → Reads command name → HasOpened command (S.TooLong long) name
  cert_to long same name (inl is) = inl is
  cert_to long same name (inr is) = inr (is ∙ sym same)

  -- ---- what is refused

  -- a refusal that has its cause
  refused_answers : (s : Status) → kind_of s ≡ refusal → RefusesCheck (AreOf before.inputs.holds) file cert s → IsUnwritten before now → ReadsCalmly command s before now
      → Answers command s before now
  refused_answers s kind cause unwritten calm =
      let held = before.inputs.holds in
      record {
        means = subst (λ (k : Kind). Means k command s before now) (sym kind) (cause, unwritten, calm);
        completes = subst (λ (k : Kind). Completes k command held) (sym kind)
            (λ accepted. let x = accepted.4 in check_right (IsHeld held) (AreOf held) (held_same held) file cert accepted.0 accepted.1 x.process x.cert accepted.2 accepted.3 x.file_is x.cert_is x.valid s cause);
        tells = subst (λ (k : Kind). TellsRefusal k command held s) (sym kind)
            (λ other refused. check_once (AreOf held) (IsHeld held) (same_held held) file cert s other cause refused);
      }

  pub memory_answers : IsUnwritten before now → Answers command S.Memory before now
  memory_answers unwritten = record { means = (tt, unwritten); completes = tt; tells = tt }

  -- the model file wasn't read
  pub model_unreadable : (why : Unreadable) → FailsToRead before.inputs now.inputs file file_limit why → now.inputs.stage cert ≡ None → IsUnwritten before now
      → Answers command (unreadable_status why) before now
  model_unreadable (Unreadable.Open name) cause none unwritten =
      let P = λ (n : List ℕ). HadRead command n before now × Rose (before.inputs.faults n) (now.inputs.faults n) × (now.inputs.stage n ≡ Some Stage.Unopened) in
      record { means = (subst P (sym cause.0) (inl (refl, none), cause.1, cause.2), unwritten); completes = tt; tells = tt }
  model_unreadable (Unreadable.Read name) cause none unwritten =
      let P = λ (n : List ℕ). HadRead command n before now × Rose (before.inputs.faults n) (now.inputs.faults n) × (now.inputs.stage n ≡ Some Stage.Closed) in
      record { means = (subst P (sym cause.0) (inl (refl, none), cause.1, cause.2), unwritten); completes = tt; tells = tt }
  model_unreadable (Unreadable.TooLong name) cause none unwritten =
      let long = long_bytes file_limit (before.inputs.holds file) cause.2 in
      refused_answers (S.TooLong name) refl (long.0, long.1, inl (cause.0, long.2)) unwritten
      (model_read (S.TooLong name) (long_from name cause.0) (λ n is. inl is) cause.3 none cause.1)
  model_unreadable Unreadable.Memory cause none unwritten = memory_answers unwritten

  module _ (bytes : List ℕ) (held : AreOf before.inputs.holds file bytes) (file_closed : now.inputs.stage file ≡ Some Stage.Closed) where
    -- or is no model's
    pub model_unread : (why : Unread) → length bytes ≤ file_limit → TellsFault bytes why → now.inputs.stage cert ≡ None → now.inputs.faults ≡ before.inputs.faults
        → IsUnwritten before now → Answers command (unread_status why) before now
    model_unread (Unread.Refused fault) short cause none calm unwritten =
        refused_answers (S.Refused fault) refl (bytes, held, inl (short, cause)) unwritten
        (model_read (S.Refused fault) (λ n is. is) (λ n is. is) file_closed none calm)
    model_unread Unread.Memory short cause none calm unwritten = memory_answers unwritten

    module _ (m : Process) (is : IsFileOf bytes m) where
      -- the certificate wasn't read, behind a model file
      pub cert_unreadable : (middle : Direction) → middle.holds ≡ before.inputs.holds → middle.faults ≡ before.inputs.faults
          → (why : Unreadable) → FailsToRead middle now.inputs cert cert_limit why → IsUnwritten before now → Answers command (unreadable_status why) before now
      cert_unreadable middle holds faults (Unreadable.Open name) cause unwritten =
          let P = λ (n : List ℕ). HadRead command n before now × Rose (before.inputs.faults n) (now.inputs.faults n) × (now.inputs.stage n ≡ Some Stage.Unopened) in
          let rose = subst (λ (f : List ℕ → ℕ). Rose (f cert) (now.inputs.faults cert)) faults cause.1 in
          record { means = (subst P (sym cause.0) (inr (refl, file_closed, (bytes, m, held, is)), rose, cause.2), unwritten); completes = tt; tells = tt }
      cert_unreadable middle holds faults (Unreadable.Read name) cause unwritten =
          let P = λ (n : List ℕ). HadRead command n before now × Rose (before.inputs.faults n) (now.inputs.faults n) × (now.inputs.stage n ≡ Some Stage.Closed) in
          let rose = subst (λ (f : List ℕ → ℕ). Rose (f cert) (now.inputs.faults cert)) faults cause.1 in
          record { means = (subst P (sym cause.0) (inr (refl, file_closed, (bytes, m, held, is)), rose, cause.2), unwritten); completes = tt; tells = tt }
      cert_unreadable middle holds faults (Unreadable.TooLong name) cause unwritten =
          let there = subst (λ (h : Held). IfSome (h cert) (λ (b : List ℕ). cert_limit < length b)) holds cause.2 in
          let long = long_bytes cert_limit (before.inputs.holds cert) there in
          refused_answers (S.TooLong name) refl (bytes, held, inr (m, long.0, is, long.1, (cause.0, long.2))) unwritten
          (both_read (S.TooLong name) (cert_from name cause.0) (cert_to name cause.0) file_closed cause.3 (cause.1 ∙ faults))
      cert_unreadable middle holds faults Unreadable.Memory cause unwritten = memory_answers unwritten

      -- ---- both files were read

      module _ (text : List ℕ) (cert_held : AreOf before.inputs.holds cert text) (short : length text ≤ cert_limit) (cert_closed : now.inputs.stage cert ≡ Some Stage.Closed)
          (calm : now.inputs.faults ≡ before.inputs.faults) where
        -- the certificate is refused
        cert_refused : (s : Status) → kind_of s ≡ refusal → ((name : List ℕ) → HasOpened command s name → Reads command name) → ((name : List ℕ) → Reads command name → HasOpened command s name)
            → RefusesCheck (AreOf before.inputs.holds) file cert s → IsUnwritten before now → Answers command s before now
        cert_refused s kind from to cause unwritten = refused_answers s kind cause unwritten (both_read s from to file_closed cert_closed calm)

        limit_tells : (stage : NodeStage) (limit : ℕ) → PassesCheckLimit bytes text options (S.NodeLimit stage limit)
            → TellsRefusal limited command before.inputs.holds (S.NodeLimit stage limit)
        limit_tells Stages.Building limit cause = tt
        limit_tells (Stages.Turn k) limit cause = absurd cause.5
        limit_tells Stages.Check limit cause = λ other refused.
            let held_bytes = before.inputs.holds in
            absurd (check_right (AreOf held_bytes) (IsHeld held_bytes) (same_held held_bytes) file cert bytes text cause.0 cause.1 held cert_held cause.2 cause.3 cause.5.0 other refused)

        -- a stage has too many nodes
        limited_answers : (stage : NodeStage) (limit : ℕ) → PassesCheckLimit bytes text options (S.NodeLimit stage limit) → IsUnwritten before now
            → Answers command (S.NodeLimit stage limit) before now
        limited_answers stage limit cause unwritten =
            let holds = before.inputs.holds in
            record {
              means = ((bytes, text, held, cert_held, cause), unwritten, both_read (S.NodeLimit stage limit) (λ n reads. reads) (λ n reads. reads) file_closed cert_closed calm);
              completes = λ accepted.
                  let passes = subst (λ (t : List ℕ). PassesCheckLimit bytes t options (S.NodeLimit stage limit)) (same_held holds cert text accepted.1 cert_held accepted.3) cause in
                  accepted-within accepted.0 accepted.1 options accepted.4 stage limit
                  (subst (λ (b : List ℕ). PassesCheckLimit b accepted.1 options (S.NodeLimit stage limit)) (same_held holds file bytes accepted.0 held accepted.2) passes);
              tells = limit_tells stage limit cause;
            }

        module _ (own : NamesNoOther (sha256 bytes) text) (c : Cert) (reads : judged m text ≡ Ok c) where
          cert_is : IsCertOf bytes m text c
          cert_is = record { short = short; own = own; reads = reads }

          -- the certificate wasn't checked
          unchecked : (fault : CheckFault) → IsFaultOf m (value_by c.value) (policy_by c.policy) options.nodes fault → IsUnwritten before now
              → Answers command (unsolved_status (told_check_fault m fault)) before now
          unchecked (C.Sum action var state sum) cause unwritten =
              let x : Sum = record { action = action; var = var; state = state; sum = sum } in
              cert_refused _ refl (λ n reads. reads) (λ n reads. reads)
              (bytes, held, inr (m, text, is, cert_held, (c, cert_is, (x, tt, cause, record { action_is = refl; var_is = refl; state_is = refl; sum_is = refl }, wrong_sum-invalid m x cause)))) unwritten
          unchecked (C.Range action state value) cause unwritten =
              let x : Reward = record { action = action; state = state; value = value } in
              cert_refused _ refl (λ n reads. reads) (λ n reads. reads)
              (bytes, held, inr (m, text, is, cert_held, (c, cert_is, (x, tt, cause.0, cause.1, record { action_is = refl; state_is = refl; value_is = refl }, wide_reward-invalid m x cause.1)))) unwritten
          unchecked (C.NodeLimit true limit) cause unwritten = limited_answers Stages.Building limit (m, c, is, cert_is, cause.0, cause.1) unwritten
          unchecked (C.NodeLimit false limit) cause unwritten = limited_answers Stages.Check limit (m, c, is, cert_is, cause.0, (cause.1, cause.2)) unwritten
          unchecked C.Memory cause unwritten = memory_answers unwritten

        -- the text has no verdict
        unjudged : (why : Unjudged) → IsUnjudged m (sha256 bytes) text options.nodes why → IsUnwritten before now
            → Answers command (unjudged_status m (sha256 bytes) why) before now
        unjudged (U.OtherModel found) cause unwritten =
            cert_refused _ refl (λ n reads. reads) (λ n reads. reads)
            (bytes, held, inr (m, text, is, cert_held, (short, cause.0, cause.1, refl))) unwritten
        unjudged (U.Refused fault) cause unwritten =
            cert_refused _ refl (λ n reads. reads) (λ n reads. reads)
            (bytes, held, inr (m, text, is, cert_held, (short, cause.0, cause.1))) unwritten
        unjudged (U.Unchecked fault) cause unwritten = unchecked cause.0 cause.1.0 cause.1.1 fault cause.1.2 unwritten
        unjudged U.Memory cause unwritten = memory_answers unwritten

        pub unjudged_answers : (digest : List ℕ) → digest ≡ sha256 bytes → (why : Unjudged) → IsUnjudged m digest text options.nodes why → IsUnwritten before now
            → Answers command (unjudged_status m digest why) before now
        unjudged_answers digest named why cause unwritten =
            subst (λ (d : List ℕ). Answers command (unjudged_status m d why) before now) (sym named)
            (unjudged why (subst (λ (d : List ℕ). IsUnjudged m d text options.nodes why) named cause) unwritten)

        -- the text has a verdict
        module _ (x : Judgement) (h : IsJudged m (sha256 bytes) text x) where
          checked : IsChecked purpose bytes text (verdict_status x.verdict) (verdict_text purpose (sha256 bytes) m x.cert x.verdict)
          checked = record {
            process = m;
            cert = x.cert;
            file_is = is;
            valid = h.valid;
            cert_is = cert_is h.own x.cert h.reads;
            digest = h.named;
            verdict = tells_verdict purpose (sha256 bytes) m x.cert _ x.verdict h.verdict;
            exact = (λ done. h.exact.0 (done_yes x.verdict done), λ holds. yes_done x.verdict (h.exact.1 holds));
            above = λ done. h.above (done_yes x.verdict done);
            below = λ done. h.below (done_yes x.verdict done);
          }

          ended : Ends command before.inputs.holds (verdict_status x.verdict) (verdict_text purpose (sha256 bytes) m x.cert x.verdict)
          ended = (bytes, text, held, cert_held, checked)

          not_refused : (s : Status) → RefusesCheck (IsHeld before.inputs.holds) file cert s → ⊥
          not_refused =
              let holds = before.inputs.holds in
              check_right (AreOf holds) (IsHeld holds) (same_held holds) file cert bytes text m x.cert held cert_held is (cert_is h.own x.cert h.reads) h.valid

          verdict_calm : (v : Verdict) → ReadsCalmly command (verdict_status v) before now
          verdict_calm V.Yes = both_read S.Done (λ n reads. reads) (λ n reads. reads) file_closed cert_closed calm
          verdict_calm (V.No at side action) = both_read S.No (λ n reads. reads) (λ n reads. reads) file_closed cert_closed calm

          cut : TookFront before.taken (verdict_text purpose (sha256 bytes) m x.cert x.verdict) now.taken → Rose before.faults now.faults → Answers command S.WriteFault before now
          cut front rose = record {
            means = (
              verdict_text purpose (sha256 bytes) m x.cert x.verdict,
              verdict_status x.verdict,
              ended,
              front,
              rose,
              both_read S.WriteFault (λ n reads. reads) (λ n reads. reads) file_closed cert_closed calm,
            );
            completes = tt;
            tells = λ s refused. absurd (not_refused s refused);
          }

          written : Took before.taken (verdict_text purpose (sha256 bytes) m x.cert x.verdict) now.taken → now.faults ≡ before.faults
              → Answers command (verdict_status x.verdict) before now
          written took quiet =
              let kind = sym (verdict_whole x.verdict) in
              record {
                means = subst (λ (k : Kind). Means k command (verdict_status x.verdict) before now) kind
                    (verdict_text purpose (sha256 bytes) m x.cert x.verdict, ended, took, quiet, verdict_calm x.verdict);
                completes = subst (λ (k : Kind). Completes k command before.inputs.holds) kind tt;
                tells = subst (λ (k : Kind). TellsRefusal k command before.inputs.holds (verdict_status x.verdict)) kind (λ s refused. absurd (not_refused s refused));
              }

-- ---- by what was read

module _ (purpose : Purpose) (file cert : List ℕ) (options : Options) (before now : Seen) (given : Given) (read : AreRead file cert before.inputs now.inputs given) where
  pub given_unjudged : (why : Unjudged) → IsUnjudged given.model given.digest given.text.items options.nodes why → IsUnwritten before now
      → Answers (checking purpose file cert options) (unjudged_status given.model given.digest why) before now
  given_unjudged =
      unjudged_answers purpose file cert options before now read.bytes read.file_held read.file_closed given.model read.file_is given.text.items read.cert_held read.cert_short read.cert_closed read.calm
      given.digest read.digest

  module _ (x : Judgement) (h : IsJudged given.model given.digest given.text.items x) where
    abbrev told : List ℕ → List ℕ
    told digest = verdict_text purpose digest given.model x.cert x.verdict

    own : IsJudged given.model (sha256 read.bytes) given.text.items x
    own = subst (λ (d : List ℕ). IsJudged given.model d given.text.items x) read.digest h

    pub given_cut : TookFront before.taken (told given.digest) now.taken → Rose before.faults now.faults → Answers (checking purpose file cert options) S.WriteFault before now
    given_cut front rose =
        cut purpose file cert options before now read.bytes read.file_held read.file_closed given.model read.file_is given.text.items read.cert_held read.cert_short read.cert_closed read.calm x own
        (subst (λ (d : List ℕ). TookFront before.taken (told d) now.taken) read.digest front) rose

    pub given_written : Took before.taken (told given.digest) now.taken → now.faults ≡ before.faults → Answers (checking purpose file cert options) (verdict_status x.verdict) before now
    given_written took quiet =
        written purpose file cert options before now read.bytes read.file_held read.file_closed given.model read.file_is given.text.items read.cert_held read.cert_short read.cert_closed read.calm x own
        (subst (λ (d : List ℕ). Took before.taken (told d) now.taken) read.digest took) quiet
