-- What a text comes to as a certificate of a process.
use Rattle.std.specs.Prelude.{ℕ, ◌≡◌, ◌≢◌, ◌↔◌, List, IfSome, Ok, Err}
use Rattle.spd_model.specs.Process.{Process}
use Rattle.spd_model.specs.Chances.{IsValid}
use Rattle.spd_bellman.specs.Bound.{IsBoundAbove, IsBoundBelow}
use Rattle.spd_bellman.specs.Certificate.{Holds}
use Rattle.spd_cert.specs.declared.cert.Cert.{Cert}
use Rattle.spd_cert.specs.Certificates.{FitsModel}
use Rattle.spd_cert.specs.Grammar.{NamesModel}
use Rattle.spd_cert.specs.Reading.{judged}
use Rattle.spd_check.specs.declared.text.Judgement.{Judgement}
use Rattle.spd_check.specs.declared.text.Unjudged.{Unjudged}
use Rattle.spd_check.specs.declared.text.Unjudged.TheVariants as U
use Rattle.spd_check.specs.declared.verdict.Verdict.TheVariants.{Yes}
use Rattle.spd_check.specs.Certificates.{first_failure, policy_by, value_by, verdict_of}
use Rattle.spd_check.specs.Faults.{IsFaultOf}

-- a text names no other model file than the one with this digest
abbrev pub NamesNoOther : List ℕ → List ℕ → Type 0
NamesNoOther digest text = (found : List ℕ) → NamesModel text found → found ≡ digest

-- Why a text has no verdict, in this order: it names another model's file, it is no certificate of the process, or its certificate isn't
-- checked. Want of memory has no cause in the text.
abbrev pub IsUnjudged : Process → List ℕ → List ℕ → ℕ → Unjudged → Type 0
IsUnjudged m digest text nodes (U.OtherModel found) = NamesModel text found × (found ≢ digest)
IsUnjudged m digest text nodes (U.Refused refusal) = NamesNoOther digest text × (judged m text ≡ Err refusal)
IsUnjudged m digest text nodes (U.Unchecked fault) =
    NamesNoOther digest text × ((c : Cert) × (judged m text ≡ Ok c) × IsFaultOf m (value_by c.value) (policy_by c.policy) nodes fault)
IsUnjudged m digest text nodes U.Memory = Unit {0}

-- What a text with a verdict is: a certificate of a valid process, which names no other model's file. The verdict is yes exactly where the
-- certificate holds, and then no course of action returns more than its value plus its residual over one minus the discount, and its policy no
-- less than the value minus as much.
pub record IsJudged (m : Process) (digest text : List ℕ) (x : Judgement) : Type 0 where
  pub own : NamesNoOther digest text
  pub reads : judged m text ≡ Ok x.cert
  pub named : IfSome x.cert.digest (λ told. told ≡ digest)
  pub fits : FitsModel m x.cert
  pub valid : IsValid m
  pub verdict : x.verdict ≡ verdict_of (first_failure m (value_by x.cert.value) (policy_by x.cert.policy) x.cert.residual)
  pub exact : (x.verdict ≡ Yes) ↔ Holds m (value_by x.cert.value) (policy_by x.cert.policy) x.cert.residual
  pub above : x.verdict ≡ Yes → IsBoundAbove m (value_by x.cert.value) x.cert.residual
  pub below : x.verdict ≡ Yes → IsBoundBelow m (value_by x.cert.value) (policy_by x.cert.policy) x.cert.residual
