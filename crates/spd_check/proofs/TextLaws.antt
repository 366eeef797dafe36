-- Texts that name another model's file, and texts that aren't read.
use Rattle.std.proofs.Common.{◌≡◌, ℕ, List, Option, Some, None, Err, IfSome, refl, sym, ◌∙◌}
use Rattle.std.proofs.lemmas.Option.{same_Some, none-some}
use Rattle.spd_model.specs.Process.{Process}
use Rattle.spd_cert.specs.declared.cert.Cert.{Cert}
use Rattle.spd_cert.specs.declared.refusal.Uncert.{Uncert}
use Rattle.spd_cert.specs.declared.refusal.Uncert.TheVariants as C
use Rattle.spd_cert.specs.Grammar.{IsWritten, NamesModel}
use Rattle.spd_cert.specs.Reading.{judged, Tells}
use Rattle.spd_cert.proofs.CallerLemmas.{written-names}
use Rattle.spd_check.specs.Texts.{IsUnjudged, NamesNoOther}
use Rattle.spd_check.specs.inner.Reading.{unread_of}

pub names-none : (digest text : List ℕ) (o : Option (List ℕ)) → ((d : List ℕ) → NamesModel text d → o ≡ Some d) → o ≡ None → NamesNoOther digest text
names-none digest text o every none found names = absurd (none-some found (sym none ∙ every found names))

pub names-own : (digest text own : List ℕ) (o : Option (List ℕ)) → ((d : List ℕ) → NamesModel text d → o ≡ Some d) → o ≡ Some own → own ≡ digest → NamesNoOther digest text
names-own digest text own o every some same found names = sym (same_Some own found (sym some ∙ every found names)) ∙ same

pub not-read : (m : Process) (digest text : List ℕ) (nodes : ℕ) (why : Uncert) → NamesNoOther digest text → Tells (Err why) (judged m text) → IsUnjudged m digest text nodes (unread_of why)
not-read m digest text nodes (C.Refused refusal) own tells = (own, tells)
not-read m digest text nodes C.Memory own tells = tt

told-own : (told : Option (List ℕ)) (digest : List ℕ) → ((d : List ℕ) → told ≡ Some d → d ≡ digest) → IfSome told (λ d. d ≡ digest)
told-own None digest every = tt
told-own (Some d) digest every = every d refl

-- a certificate that a text is names no other file than the text does
pub cert-own : (m : Process) (digest text : List ℕ) (c : Cert) → NamesNoOther digest text → IsWritten m text c → IfSome c.digest (λ d. d ≡ digest)
cert-own m digest text c own written = told-own c.digest digest (λ d is. own d (written-names m text c d written is))
