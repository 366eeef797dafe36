-- The stages of a check: what each gives, why it fails, and the status of each failure.
use Rattle.std.specs.Prelude.{ℕ, ◌≤◌, ◌≡◌, true, false, List, length, Option, Some}
use Rattle.sha2.specs.Sha256.{sha256}
use Rattle.spd_edge.specs.Direction.{Direction}
use Rattle.spd_edge.specs.declared.outside.Stage.TheVariants as Stage
use Rattle.spd_model.specs.Process.{Process}
use Rattle.spd_model.specs.States.{sizes, IsState}
use Rattle.spd_text.specs.Failure.{failure_line}
use Rattle.spd_cert.specs.declared.cert.Cert.{Cert}
use Rattle.spd_check.specs.declared.text.Unjudged.{Unjudged}
use Rattle.spd_check.specs.declared.text.Unjudged.TheVariants as U
use Rattle.spd_check.specs.declared.verdict.CheckFault.{CheckFault}
use Rattle.spd_check.specs.declared.verdict.CheckFault.TheVariants as C
use Rattle.spd_check.specs.declared.verdict.Verdict.{Verdict}
use Rattle.spd_check.specs.declared.verdict.Verdict.TheVariants.{Yes, No}
use Rattle.spd_check.specs.Texts.{IsUnjudged}
use Rattle.spd_solver.specs.declared.checking.Given.{Given}
use Rattle.spd_solver.specs.declared.command.Purpose.{Purpose}
use Rattle.spd_solver.specs.declared.solving.Unsolved.{Unsolved}
use Rattle.spd_solver.specs.declared.status.Stage.TheVariants as Stages
use Rattle.spd_solver.specs.declared.status.Status.{Status}
use Rattle.spd_solver.specs.Command.{Command}
use Rattle.spd_solver.specs.Run.{AreOf}
use Rattle.spd_solver.specs.Solve.{IsFileOf}
use Rattle.spd_solver.specs.Check.{cert_limit, text_of_yes}
use Rattle.spd_solver.specs.inner.Stages.{Answers, named_sum, named_reward, unsolved_status}

-- ---- files

-- A model file and then a certificate were read from files of these names, and closed again.
pub record AreRead (file cert : List ℕ) (before now : Direction) (given : Given) : Type 0 where
  pub bytes : List ℕ
  pub file_held : AreOf before.holds file bytes
  pub file_is : IsFileOf bytes given.model
  pub digest : given.digest ≡ sha256 bytes
  pub cert_held : AreOf before.holds cert given.text.items
  pub cert_short : length given.text.items ≤ cert_limit
  pub file_closed : now.stage file ≡ Some Stage.Closed
  pub cert_closed : now.stage cert ≡ Some Stage.Closed
  pub calm : now.faults ≡ before.faults

-- what a command answers where its output wasn't written to, whatever that took before
abbrev pub AnswersUnwritten : Command → Status → Direction → Direction → Type 0
AnswersUnwritten command status before now = (taken : Option (List ℕ)) (faults : ℕ)
    → Answers command status (record { inputs = before; taken = taken; faults = faults }) (record { inputs = now; taken = taken; faults = faults })

-- ---- verdicts

-- the state of a fault of a check is a state
abbrev pub IsPlacedCheck : Process → CheckFault → Type 0
IsPlacedCheck m (C.Sum action var state sum) = IsState (sizes m) state
IsPlacedCheck m (C.Range action state value) = IsState (sizes m) state
IsPlacedCheck m _ = Unit {0}

-- a fault of a check, with the names of what is at fault
abbrev pub told_check_fault : Process → CheckFault → Unsolved
told_check_fault m (C.Sum action var state sum) = named_sum m action var state sum
told_check_fault m (C.Range action state value) = named_reward m action state value
told_check_fault m (C.NodeLimit true limit) = Unsolved.NodeLimit Stages.Building limit
told_check_fault m (C.NodeLimit false limit) = Unsolved.NodeLimit Stages.Check limit
told_check_fault m C.Memory = Unsolved.Memory

-- the same of a text that has no verdict
abbrev pub IsPlacedText : Process → Unjudged → Type 0
IsPlacedText m (U.Unchecked fault) = IsPlacedCheck m fault
IsPlacedText m _ = Unit {0}

-- how a check ends of a text that has no verdict, beside the model file of this digest
abbrev pub unjudged_status : Process → List ℕ → Unjudged → Status
unjudged_status m digest (U.OtherModel found) = Status.OtherModel found digest
unjudged_status m digest (U.Refused refusal) = Status.CertRefused refusal
unjudged_status m digest (U.Unchecked fault) = unsolved_status (told_check_fault m fault)
unjudged_status m digest U.Memory = Status.Memory

-- the status is that of a text without a verdict
abbrev pub IsUnjudgedBy : Given → ℕ → Status → Type 0
IsUnjudgedBy given nodes status =
    (why : Unjudged) × IsUnjudged given.model given.digest given.text.items nodes why × (status ≡ unjudged_status given.model given.digest why)

-- the state at which a certificate fails is a state
abbrev pub IsPlacedVerdict : Process → Verdict → Type 0
IsPlacedVerdict m Yes = Unit {0}
IsPlacedVerdict m (No at side action) = IsState (sizes m) at

-- how a check ends by its verdict, and what is written
abbrev pub verdict_status : Verdict → Status
verdict_status Yes = Status.Done
verdict_status (No at side action) = Status.No

abbrev pub verdict_text : Purpose → List ℕ → Process → Cert → Verdict → List ℕ
verdict_text purpose digest m c Yes = text_of_yes purpose digest m c
verdict_text purpose digest m c (No at side action) = failure_line m (record { state = at; side = side; action = action })
