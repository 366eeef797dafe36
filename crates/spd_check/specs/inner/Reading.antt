-- What a text is on the way to its verdict.
use Rattle.std.specs.Prelude.{ℕ, ◌≢◌, List, Option, Some, None}
use Rattle.spd_cert.specs.declared.refusal.Uncert.{Uncert}
use Rattle.spd_cert.specs.declared.refusal.Uncert.TheVariants as C
use Rattle.spd_cert.specs.Grammar.{NamesModel}
use Rattle.spd_check.specs.declared.text.Unjudged.{Unjudged}
use Rattle.spd_check.specs.declared.text.Unjudged.TheVariants as U
use Rattle.spd_check.specs.Texts.{NamesNoOther}

-- the digest of another model's file that a text names, if it names one
abbrev pub OtherOf : List ℕ → List ℕ → Option (List ℕ) → Type 0
OtherOf digest text None = NamesNoOther digest text
OtherOf digest text (Some found) = NamesModel text found × (found ≢ digest)

-- why a text that couldn't be read has no verdict
abbrev pub unread_of : Uncert → Unjudged
unread_of (C.Refused refusal) = U.Refused refusal
unread_of C.Memory = U.Memory
