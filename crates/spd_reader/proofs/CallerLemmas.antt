-- What callers' proofs cite of the reader: bytes are read as just one model, which is lawful, or refused for just one reason.
use Rattle.std.proofs.Common.{◌≡◌, ℕ, ◌≤◌, List, [], length, Option, Some, None, refl, sym, ap, subst, ◌∙◌, ◌⊎◌, inl, inr}
use Rattle.std.proofs.lemmas.Option.{same_Some, none-some}
use Rattle.spd_model.specs.Lawful.{IsLawful}
use Rattle.spd_model.specs.Process.{Process}
use Rattle.spd_syntax.specs.declared.file.File.{File}
use Rattle.spd_syntax.specs.declared.refusal.Refusal.{Refusal}
use Rattle.spd_syntax.specs.Files.{IsWritten}
use Rattle.spd_syntax.specs.Reading.{first_fault}
use Rattle.spd_syntax.proofs.CallerLemmas.{written_accepted, written_no_fault, written_once}
use Rattle.spd_reader.specs.Faults.{least}
use Rattle.spd_reader.specs.Models.{faults_of, model_of}
use Rattle.spd_reader.specs.Reading.{IsRead, IsRefused}
use Rattle.spd_reader.proofs.LeastLaws.{none_least}
use Rattle.spd_reader.proofs.Lawful.{lawful}

-- bytes are read as one model
pub one_model : (file : List ℕ) (m n : Process) → IsRead file m → IsRead file n → m ≡ n
one_model file m n h k = h.means ∙ ap (model_of file) (written_once file h.text k.text h.written k.written) ∙ sym k.means

no_fault_of_names : (file : List ℕ) (f : File) (r : Refusal) → faults_of file f ≡ [] → least None (faults_of file f) ≡ Some r → ⊥
unfolding least
no_fault_of_names file f r none is = none-some r (sym (ap (least None) none) ∙ is)

-- bytes that are read aren't refused
pub not_refused : (file : List ℕ) (m : Process) (r : Refusal) → IsRead file m → IsRefused file r → ⊥
not_refused file m r h (IsRefused.syntax is) = none-some r (sym (written_no_fault file h.text h.written) ∙ is)
not_refused file m r h (IsRefused.names text written is) =
    no_fault_of_names file h.text r h.named (ap (λ (f : File). least None (faults_of file f)) (written_once file h.text text h.written written) ∙ is)

-- bytes are refused for one reason
pub one_refusal : (file : List ℕ) (r s : Refusal) → IsRefused file r → IsRefused file s → r ≡ s
one_refusal file r s (IsRefused.syntax h) (IsRefused.syntax k) = same_Some r s (sym h ∙ k)
one_refusal file r s (IsRefused.syntax h) (IsRefused.names text written k) = absurd (none-some r (sym (written_no_fault file text written) ∙ h))
one_refusal file r s (IsRefused.names text written h) (IsRefused.syntax k) = absurd (none-some s (sym (written_no_fault file text written) ∙ k))
one_refusal file r s (IsRefused.names text written h) (IsRefused.names other also k) =
    same_Some r s (sym h ∙ ap (λ (f : File). least None (faults_of file f)) (written_once file text other written also) ∙ k)

-- bytes are read or refused
pub decided : (file : List ℕ) → ((m : Process) × IsRead file m) ⊎ ((r : Refusal) × IsRefused file r)
decided file = by_syntax (first_fault file) refl
  where
    by_names : (f : File) → IsWritten file f → (o : Option Refusal) → least None (faults_of file f) ≡ o → ((m : Process) × IsRead file m) ⊎ ((r : Refusal) × IsRefused file r)
    by_names f written None is = inl (model_of file f, record { text = f; written = written; named = none_least (faults_of file f) is; means = refl })
    by_names f written (Some r) is = inr (r, IsRefused.names f written is)

    by_syntax : (o : Option Refusal) → first_fault file ≡ o → ((m : Process) × IsRead file m) ⊎ ((r : Refusal) × IsRefused file r)
    by_syntax None is = let w = written_accepted file is in by_names w.0 w.1 (least None (faults_of file w.0)) refl
    by_syntax (Some r) is = inr (r, IsRefused.syntax is)

-- a model that is read is lawful
pub read_lawful : (file : List ℕ) (m : Process) → length file ≤ 4194304 → IsRead file m → IsLawful m
read_lawful file m short h = subst IsLawful (sym h.means) (lawful file h.text short h.written h.named)
