-- What checking a certificate of a model file means, and why it isn't checked.
use Rattle.std.specs.Prelude.{ℕ, ◌<◌, ◌≤◌, ◌≡◌, ◌≢◌, ◌↔◌, ◌⊎◌, List, ◌++◌, length, codes, Option, Some, None, IfSome, Ok, Err}
use Rattle.sha2.specs.Sha256.{sha256}
use Rattle.spd_model.specs.declared.options.Options.{Options}
use Rattle.spd_model.specs.Process.{Process}
use Rattle.spd_model.specs.Chances.{IsValid}
use Rattle.spd_model.specs.Turns.{Place}
use Rattle.spd_model.specs.ResultText.{text_of}
use Rattle.spd_bellman.specs.Bound.{IsBoundAbove, IsBoundBelow}
use Rattle.spd_bellman.specs.Certificate.{Holds}
use Rattle.spd_frozen.specs.Told.{told}
use Rattle.spd_text.specs.Failure.{failure_line}
use Rattle.spd_cert.specs.declared.cert.Cert.{Cert}
use Rattle.spd_cert.specs.Certificates.{iterate_of}
use Rattle.spd_cert.specs.Grammar.{NamesModel}
use Rattle.spd_cert.specs.Reading.{judged}
use Rattle.spd_check.specs.Certificates.{value_by, policy_by, first_failure}
use Rattle.spd_check.specs.Functions.{check_count}
use Rattle.spd_check.specs.Texts.{NamesNoOther}
use Rattle.spd_reader.specs.Reading.{IsRefused}
use Rattle.spd_solver.specs.declared.command.Purpose.{Purpose}
use Rattle.spd_solver.specs.declared.command.Purpose.TheVariants.{Judge, Upgrade}
use Rattle.spd_solver.specs.declared.command.Way.TheVariants.{Diagrams}
use Rattle.spd_solver.specs.declared.status.Stage.{Stage}
use Rattle.spd_solver.specs.declared.status.Stage.TheVariants.{Building, Turn, Check}
use Rattle.spd_solver.specs.declared.status.Status.{Status}
use Rattle.spd_solver.specs.declared.status.Status.TheVariants.{Done, TooLong, Refused, OtherModel, CertRefused, NodeLimit, No}
use Rattle.spd_solver.specs.Message.{newline}
use Rattle.spd_solver.specs.Solve.{file_limit, IsFileOf, RefusesProcess, nodes_of_building}

-- the most bytes that a certificate may have
abbrev pub cert_limit : ℕ
cert_limit = 268435456

-- The bytes are a certificate of the process of a file: no longer than a certificate may be, they name no other file than this, and they
-- are read as the certificate.
pub record IsCertOf (file : List ℕ) (m : Process) (bytes : List ℕ) (c : Cert) : Type 0 where
  pub short : length bytes ≤ cert_limit
  pub own : NamesNoOther (sha256 file) bytes
  pub reads : judged m bytes ≡ Ok c

-- ---- what is checked

-- the first state at which a certificate fails, with the side of its value and the action there
abbrev pub failure : Process → Cert → Option Place
failure m c = first_failure m (value_by c.value) (policy_by c.policy) c.residual

-- what is written of a certificate that holds: the line `yes`, or the certificate in its newest form, which names the file of this digest
abbrev pub text_of_yes : Purpose → List ℕ → Process → Cert → List ℕ
text_of_yes Judge digest m c = codes "yes" ++ newline
text_of_yes Upgrade digest m c = text_of digest m c.why (told (iterate_of c))

-- The status and the text of a check by where the certificate fails first. Where it fails nowhere the check is done; else it ends with No,
-- and the line `no` with that place.
abbrev pub TellsVerdict : Purpose → List ℕ → Process → Cert → Option Place → Status → List ℕ → Type 0
TellsVerdict purpose digest m c None status text = (status ≡ Done) × (text ≡ text_of_yes purpose digest m c)
TellsVerdict purpose digest m c (Some place) status text = (status ≡ No) × (text ≡ failure_line m place)

-- A certificate of a file's process is checked: the process is valid, a digest that the certificate tells is the file's, and the status and
-- the text tell the verdict. It is done exactly where the certificate holds. Then no course of action, of any number of steps and from any state,
-- returns more than the certificate's value plus its residual over one minus the discount, and its policy no less than that value minus as much.
pub record IsChecked (purpose : Purpose) (file bytes : List ℕ) (status : Status) (text : List ℕ) : Type 0 where
  pub process : Process
  pub cert : Cert
  pub file_is : IsFileOf file process
  pub valid : IsValid process
  pub cert_is : IsCertOf file process bytes cert
  pub digest : IfSome cert.digest (λ digest. digest ≡ sha256 file)
  pub verdict : TellsVerdict purpose (sha256 file) process cert (failure process cert) status text
  pub exact : (status ≡ Done) ↔ Holds process (value_by cert.value) (policy_by cert.policy) cert.residual
  pub above : status ≡ Done → IsBoundAbove process (value_by cert.value) cert.residual
  pub below : status ≡ Done → IsBoundBelow process (value_by cert.value) (policy_by cert.policy) cert.residual

-- ---- what is refused

-- Why the file of this name is no model's, in this order: it is too long, it is read as no process.
abbrev pub RefusesModel : List ℕ → List ℕ → Status → Type 0
RefusesModel name file (TooLong n) = (n ≡ name) × (file_limit < length file)
RefusesModel name file (Refused refusal) = (length file ≤ file_limit) × IsRefused file refusal
RefusesModel name file _ = ⊥

-- Why the certificate of this name isn't checked for a file and its process, in this order: it is too long, it names another file, it is no
-- certificate of the process, the process isn't valid.
abbrev pub RefusesCert : List ℕ → List ℕ → Process → List ℕ → Status → Type 0
RefusesCert name file m bytes (TooLong n) = (n ≡ name) × (cert_limit < length bytes)
RefusesCert name file m bytes (OtherModel found wanted) =
    (length bytes ≤ cert_limit) × NamesModel bytes found × (found ≢ sha256 file) × (wanted ≡ sha256 file)
RefusesCert name file m bytes (CertRefused refusal) = (length bytes ≤ cert_limit) × NamesNoOther (sha256 file) bytes × (judged m bytes ≡ Err refusal)
RefusesCert name file m bytes status = (c : Cert) × IsCertOf file m bytes c × RefusesProcess Diagrams m status

-- Why a check of the files of two names is refused, by the bytes of each name: the model file first, and then the certificate.
abbrev pub RefusesCheck : (List ℕ → List ℕ → Type 0) → List ℕ → List ℕ → Status → Type 0
RefusesCheck Are file_name cert_name status =
    (file : List ℕ) × Are file_name file
    × (RefusesModel file_name file status
    ⊎ ((m : Process) × (bytes : List ℕ) × IsFileOf file m × Are cert_name bytes × RefusesCert cert_name file m bytes status))

-- ---- the node limit

-- the nodes of checking a certificate
abbrev pub nodes_of_check : Process → Cert → ℕ
nodes_of_check m c = check_count m (value_by c.value) (policy_by c.policy)

-- A stage of a check has more nodes than the options allow. The check itself is a stage of a valid process alone.
abbrev pub HasMoreToCheck : Process → Cert → Options → Stage → Type 0
HasMoreToCheck m c options Building = options.nodes < nodes_of_building m
HasMoreToCheck m c options (Turn k) = ⊥
HasMoreToCheck m c options Check = IsValid m × (options.nodes < nodes_of_check m c)

-- Why the node limit is told of a check: the named stage of the file's process and the certificate has more nodes than the options allow.
abbrev pub PassesCheckLimit : List ℕ → List ℕ → Options → Status → Type 0
PassesCheckLimit file bytes options (NodeLimit stage limit) =
    (m : Process) × (c : Cert) × IsFileOf file m × IsCertOf file m bytes c × (limit ≡ options.nodes) × HasMoreToCheck m c options stage
PassesCheckLimit file bytes options _ = ⊥

-- a check is within the limit: neither building nor the check has more nodes than the options allow
abbrev pub IsCheckWithin : Process → Cert → Options → Type 0
IsCheckWithin m c options = (nodes_of_building m ≤ options.nodes) × (nodes_of_check m c ≤ options.nodes)

-- The files are as they should be: that of a valid process, and a certificate of it, of a check within the limit.
pub record AreAccepted (file bytes : List ℕ) (options : Options) : Type 0 where
  pub process : Process
  pub cert : Cert
  pub file_is : IsFileOf file process
  pub valid : IsValid process
  pub cert_is : IsCertOf file process bytes cert
  pub within : IsCheckWithin process cert options
