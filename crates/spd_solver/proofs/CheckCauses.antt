-- The causes of a check's refusals: its files have at most one, and files that are as they should be have none.
use Rattle.std.proofs.Common.{◌≡◌, ℕ, ◌⊎◌, inl, inr, List, Ok, Err, Result, sym, ap, subst, ◌∙◌, arith}
use Rattle.spd_model.specs.declared.options.Options.{Options}
use Rattle.spd_model.specs.Process.{Process}
use Rattle.spd_model.specs.Chances.{IsValid}
use Rattle.spd_reader.proofs.CallerLemmas.{one_model, not_refused, one_refusal}
use Rattle.spd_cert.specs.declared.cert.Cert.{Cert}
use Rattle.spd_cert.specs.declared.refusal.CertRefusal.{CertRefusal}
use Rattle.spd_cert.specs.Reading.{judged}
use Rattle.spd_cert.proofs.CallerLemmas.{names-one}
use Rattle.spd_solver.specs.declared.command.Way.TheVariants.{Diagrams}
use Rattle.spd_solver.specs.declared.status.Stage.{Stage}
use Rattle.spd_solver.specs.declared.status.Status.{Status}
use Rattle.spd_solver.specs.declared.status.Status.TheVariants as S
use Rattle.spd_solver.specs.Solve.{IsFileOf, RefusesProcess}
use Rattle.spd_solver.specs.Check.{IsCertOf, RefusesModel, RefusesCert, RefusesCheck, HasMoreToCheck, PassesCheckLimit, IsCheckWithin, AreAccepted}
use Rattle.spd_solver.proofs.Causes.{process_once, process_right}

-- ---- what a text is judged to be

same_ok : (c d : Cert) (j : Result Cert CertRefusal) → j ≡ Ok c → j ≡ Ok d → c ≡ d
same_ok c d j h k = let e : Ok c ≡ Ok d = sym h ∙ k in cc

same_err : (r q : CertRefusal) (j : Result Cert CertRefusal) → j ≡ Err r → j ≡ Err q → r ≡ q
same_err r q j h k = let e : Err r ≡ Err q = sym h ∙ k in cc

ok_or_err : (c : Cert) (r : CertRefusal) (j : Result Cert CertRefusal) → j ≡ Ok c → j ≡ Err r → ⊥
ok_or_err c r j h k = let e : Ok c ≡ Err r = sym h ∙ k in cc

-- bytes are one certificate
pub same_cert : (file : List ℕ) (m : Process) (bytes : List ℕ) (c d : Cert) → IsCertOf file m bytes c → IsCertOf file m bytes d → c ≡ d
same_cert file m bytes c d h k = same_ok c d (judged m bytes) h.reads k.reads

-- ---- model files

module _ (name file : List ℕ) where
  -- a file is refused in one way
  model_once : (s t : Status) → RefusesModel name file s → RefusesModel name file t → s ≡ t
  model_once (S.TooLong long) (S.TooLong other) h k = ap (λ (n : List ℕ). S.TooLong n) (h.0 ∙ sym k.0)
  model_once (S.TooLong long) (S.Refused refusal) h k = absurd (omega (arith, h.1, k.0))
  model_once (S.TooLong long) _ h k = absurd k
  model_once (S.Refused refusal) (S.TooLong long) h k = absurd (omega (arith, h.0, k.1))
  model_once (S.Refused refusal) (S.Refused other) h k = ap S.Refused (one_refusal file refusal other h.1 k.1)
  model_once (S.Refused refusal) _ h k = absurd k
  model_once _ t h k = absurd h

  -- the file of a process isn't refused
  model_right : (m : Process) → IsFileOf file m → (s : Status) → RefusesModel name file s → ⊥
  model_right m is (S.TooLong long) h = omega (arith, is.short, h.1)
  model_right m is (S.Refused refusal) h = not_refused file m refusal is.reads h.1
  model_right m is _ h = h

-- ---- certificates

module _ (name file : List ℕ) (m : Process) (bytes : List ℕ) where
  module _ (c : Cert) (is : IsCertOf file m bytes c) where
    -- a certificate is refused as its process is
    of_cert : (s t : Status) → RefusesProcess Diagrams m s → RefusesCert name file m bytes t → s ≡ t
    of_cert s (S.TooLong long) h k = absurd (omega (arith, is.short, k.1))
    of_cert s (S.OtherModel found wanted) h k = absurd (k.2 (is.own found k.1))
    of_cert s (S.CertRefused refusal) h k = absurd (ok_or_err c refusal (judged m bytes) is.reads k.2)
    of_cert s t h k = process_once Diagrams m s t h k.2

    -- one of a valid process isn't refused
    cert_right : IsValid m → (s : Status) → RefusesCert name file m bytes s → ⊥
    cert_right valid (S.TooLong long) k = omega (arith, is.short, k.1)
    cert_right valid (S.OtherModel found wanted) k = k.2 (is.own found k.1)
    cert_right valid (S.CertRefused refusal) k = ok_or_err c refusal (judged m bytes) is.reads k.2
    cert_right valid s k = process_right Diagrams m valid tt s k.2

  -- bytes are refused in one way
  cert_once : (s t : Status) → RefusesCert name file m bytes s → RefusesCert name file m bytes t → s ≡ t
  cert_once (S.TooLong long) (S.TooLong other) h k = ap (λ (n : List ℕ). S.TooLong n) (h.0 ∙ sym k.0)
  cert_once (S.TooLong long) (S.OtherModel found wanted) h k = absurd (omega (arith, h.1, k.0))
  cert_once (S.TooLong long) (S.CertRefused refusal) h k = absurd (omega (arith, h.1, k.0))
  cert_once (S.TooLong long) t h k = absurd (omega (arith, h.1, k.1.short))
  cert_once (S.OtherModel found wanted) (S.TooLong long) h k = absurd (omega (arith, h.0, k.1))
  cert_once (S.OtherModel found wanted) (S.OtherModel other also) h k = λ i. S.OtherModel (names-one bytes found other h.1 k.1 i) ((h.3 ∙ sym k.3) i)
  cert_once (S.OtherModel found wanted) (S.CertRefused refusal) h k = absurd (h.2 (k.1 found h.1))
  cert_once (S.OtherModel found wanted) t h k = absurd (h.2 (k.1.own found h.1))
  cert_once (S.CertRefused refusal) (S.TooLong long) h k = absurd (omega (arith, h.0, k.1))
  cert_once (S.CertRefused refusal) (S.OtherModel found wanted) h k = absurd (k.2 (h.1 found k.1))
  cert_once (S.CertRefused refusal) (S.CertRefused other) h k = ap S.CertRefused (same_err refusal other (judged m bytes) h.2 k.2)
  cert_once (S.CertRefused refusal) t h k = absurd (ok_or_err k.0 refusal (judged m bytes) k.1.reads h.2)
  cert_once s t h k = of_cert h.0 h.1 s t h.2 k

-- ---- both files

-- what is refused, by the bytes of each name; A and B tell the same bytes
module _ (A B : List ℕ → List ℕ → Type 0) (agree : (name a b : List ℕ) → A name a → B name b → a ≡ b) (file_name cert_name : List ℕ) where
  -- the certificate is refused beside a model file
  abbrev Behind : (List ℕ → List ℕ → Type 0) → List ℕ → Status → Type 0
  Behind Are file s =
      RefusesModel file_name file s ⊎ ((m : Process) × (bytes : List ℕ) × IsFileOf file m × Are cert_name bytes × RefusesCert cert_name file m bytes s)

  behind_once : (s t : Status) (file : List ℕ) → Behind A file s → Behind B file t → s ≡ t
  behind_once s t file (inl x) (inl y) = model_once file_name file s t x y
  behind_once s t file (inl x) (inr y) = absurd (model_right file_name file y.0 y.2 s x)
  behind_once s t file (inr x) (inl y) = absurd (model_right file_name file x.0 x.2 t y)
  behind_once s t file (inr x) (inr y) =
      cert_once cert_name file x.0 x.1 s t x.4
      (subst (λ (b : List ℕ). RefusesCert cert_name file x.0 b t) (sym (agree cert_name x.1 y.1 x.3 y.3))
      (subst (λ (n : Process). RefusesCert cert_name file n y.1 t) (one_model file y.0 x.0 y.2.reads x.2.reads) y.4))

  -- both files are refused in one way
  pub check_once : (s t : Status) → RefusesCheck A file_name cert_name s → RefusesCheck B file_name cert_name t → s ≡ t
  check_once s t h k = behind_once s t h.0 h.2 (subst (λ (f : List ℕ). Behind B f t) (sym (agree file_name h.0 k.0 h.1 k.1)) k.2)

  -- a valid process's file and a certificate of it aren't refused
  module _ (file bytes : List ℕ) (m : Process) (c : Cert) (file_are : A file_name file) (cert_are : A cert_name bytes) (is : IsFileOf file m)
      (cert_is : IsCertOf file m bytes c) (valid : IsValid m) where
    behind_right : (s : Status) → Behind B file s → ⊥
    behind_right s (inl x) = model_right file_name file m is s x
    behind_right s (inr x) =
        cert_right cert_name file m bytes c cert_is valid s
        (subst (λ (b : List ℕ). RefusesCert cert_name file m b s) (sym (agree cert_name bytes x.1 cert_are x.3))
        (subst (λ (n : Process). RefusesCert cert_name file n x.1 s) (one_model file x.0 m x.2.reads is.reads) x.4))

    pub check_right : (s : Status) → RefusesCheck B file_name cert_name s → ⊥
    check_right s h = behind_right s (subst (λ (f : List ℕ). Behind B f s) (sym (agree file_name file h.0 file_are h.1)) h.2)

-- ---- the node limit

-- a check within the limit passes it at no stage
stage-within : (m : Process) (c : Cert) (options : Options) → IsCheckWithin m c options → (stage : Stage) → HasMoreToCheck m c options stage → ⊥
stage-within m c options within Stage.Building more = omega (arith, within.0, more)
stage-within m c options within (Stage.Turn k) more = more
stage-within m c options within Stage.Check more = omega (arith, within.1, more.1)

-- files that are as they should be pass no limit
pub accepted-within : (file bytes : List ℕ) (options : Options) → AreAccepted file bytes options → (stage : Stage) (limit : ℕ)
    → PassesCheckLimit file bytes options (S.NodeLimit stage limit) → ⊥
accepted-within file bytes options x stage limit h =
    let same = one_model file h.0 x.process h.2.reads x.file_is.reads in
    let also = same_cert file x.process bytes h.1 x.cert (subst (λ (n : Process). IsCertOf file n bytes h.1) same h.3) x.cert_is in
    stage-within x.process x.cert options x.within stage
    (subst (λ (d : Cert). HasMoreToCheck x.process d options stage) also (subst (λ (n : Process). HasMoreToCheck n h.1 options stage) same h.5))
