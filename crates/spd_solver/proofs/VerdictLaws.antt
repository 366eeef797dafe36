-- What a verdict tells, and that the state that it names is a state.
use Rattle.std.proofs.Common.{◌≡◌, ℕ, Bool, true, false, if◌then◌else◌, List, find, Option, Some, None, ℤ, refl, sym, subst}
use Rattle.std.specs.Prelude.{option_map}
use Rattle.spd_model.specs.Process.{Process}
use Rattle.spd_model.specs.States.{sizes, states, IsState}
use Rattle.spd_model.specs.Turns.{Place}
use Rattle.spd_model.proofs.CallerLemmas.Finds.{All-find}
use Rattle.spd_model.proofs.CallerLemmas.StateOrder.{All-states}
use Rattle.spd_model.proofs.CallerLemmas.Validity.{wrong_sum-placed, wide_reward-placed}
use Rattle.spd_cert.specs.declared.cert.Cert.{Cert}
use Rattle.spd_check.specs.declared.text.Unjudged.{Unjudged}
use Rattle.spd_check.specs.declared.text.Unjudged.TheVariants as U
use Rattle.spd_check.specs.declared.verdict.CheckFault.{CheckFault}
use Rattle.spd_check.specs.declared.verdict.CheckFault.TheVariants as C
use Rattle.spd_check.specs.declared.verdict.Verdict.{Verdict}
use Rattle.spd_check.specs.declared.verdict.Verdict.TheVariants as V
use Rattle.spd_check.specs.Certificates.{fails_above, failure_at, first_failure, verdict_of}
use Rattle.spd_check.specs.Faults.{IsFaultOf}
use Rattle.spd_check.specs.Texts.{IsUnjudged}
use Rattle.spd_solver.specs.declared.command.Purpose.{Purpose}
use Rattle.spd_solver.specs.declared.status.Status.TheVariants as S
use Rattle.spd_solver.specs.Check.{TellsVerdict}
use Rattle.spd_solver.specs.Kind.{kind_of, whole}
use Rattle.spd_solver.specs.inner.Checks.{IsPlacedCheck, IsPlacedText, IsPlacedVerdict, verdict_status, verdict_text}

-- ---- states

either_state : (b : Bool) (x y : Place) (s : List ℕ) → x.state ≡ s → y.state ≡ s → (if b then x else y).state ≡ s
either_state true x y s h k = h
either_state false x y s h k = k

module _ (m : Process) (w : List ℕ → ℤ) (policy : List ℕ → ℕ) (r : ℤ) where
  placed_by : (p : List ℕ → Bool) (o : Option (List ℕ)) → find p (states (sizes m)) ≡ o → IsPlacedVerdict m (verdict_of (option_map (failure_at m w policy r) o))
  placed_by p None is = tt
  placed_by p (Some s) is =
      subst (IsState (sizes m)) (sym (either_state (fails_above m w r s) _ _ s refl refl))
      (All-find (IsState (sizes m)) p (states (sizes m)) s (All-states (IsState (sizes m)) (sizes m) (λ t state. state)) is)

  -- the state of a verdict is a state
  pub verdict_placed : (v : Verdict) → v ≡ verdict_of (first_failure m w policy r) → IsPlacedVerdict m v
  verdict_placed v is = subst (IsPlacedVerdict m) (sym is) (placed_by _ (find _ (states (sizes m))) refl)

fault_placed : (m : Process) (w : List ℕ → ℤ) (policy : List ℕ → ℕ) (nodes : ℕ) (fault : CheckFault) → IsFaultOf m w policy nodes fault → IsPlacedCheck m fault
fault_placed m w policy nodes (C.Sum action var state sum) cause = wrong_sum-placed m (record { action = action; var = var; state = state; sum = sum }) cause
fault_placed m w policy nodes (C.Range action state value) cause = wide_reward-placed m (record { action = action; state = state; value = value }) cause.1
fault_placed m w policy nodes (C.NodeLimit true limit) cause = tt
fault_placed m w policy nodes (C.NodeLimit false limit) cause = tt
fault_placed m w policy nodes C.Memory cause = tt

-- so is that of a fault, where a text has no verdict
pub text_placed : (m : Process) (digest text : List ℕ) (nodes : ℕ) (why : Unjudged) → IsUnjudged m digest text nodes why → IsPlacedText m why
text_placed m digest text nodes (U.OtherModel found) cause = tt
text_placed m digest text nodes (U.Refused refusal) cause = tt
text_placed m digest text nodes (U.Unchecked fault) cause = fault_placed m _ _ nodes fault cause.1.2
text_placed m digest text nodes U.Memory cause = tt

-- ---- ends

module _ (purpose : Purpose) (digest : List ℕ) (m : Process) (c : Cert) where
  told_by : (o : Option Place) → TellsVerdict purpose digest m c o (verdict_status (verdict_of o)) (verdict_text purpose digest m c (verdict_of o))
  told_by None = (refl, refl)
  told_by (Some p) = (refl, refl)

  -- the status and the text tell the verdict
  pub tells_verdict : (o : Option Place) (v : Verdict) → v ≡ verdict_of o → TellsVerdict purpose digest m c o (verdict_status v) (verdict_text purpose digest m c v)
  tells_verdict o v is =
      subst (λ (u : Verdict). TellsVerdict purpose digest m c o (verdict_status u) (verdict_text purpose digest m c u)) (sym is) (told_by o)

-- a check is done where its verdict is yes
pub done_yes : (v : Verdict) → verdict_status v ≡ S.Done → v ≡ V.Yes
done_yes V.Yes is = refl
done_yes (V.No at side action) is = absurd (cc is)

pub yes_done : (v : Verdict) → v ≡ V.Yes → verdict_status v ≡ S.Done
yes_done V.Yes is = refl
yes_done (V.No at side action) is = absurd (cc is)

pub verdict_whole : (v : Verdict) → kind_of (verdict_status v) ≡ whole
verdict_whole V.Yes = refl
verdict_whole (V.No at side action) = refl
