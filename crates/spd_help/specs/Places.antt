-- The place of a refusal.
use Rattle.std.specs.Prelude.{ℕ}
use Rattle.spd_cert.specs.declared.refusal.CertRefusal.{CertRefusal}
use Rattle.spd_cert.specs.declared.refusal.CertRefusal.TheVariants as cert
use Rattle.spd_syntax.specs.declared.refusal.Refusal.{Refusal}
use Rattle.spd_syntax.specs.declared.refusal.Refusal.TheVariants.{BadByte, Expected, Number, TooFine, TooLarge, Negative, TooMany, LeftOut, Unknown, Twice, MissingBranch, MissingVariable, Primed}

-- a byte of the file, counted from 0, or the file's length
abbrev pub place_of : Refusal → ℕ
place_of (BadByte at) = at
place_of (Expected at want) = at
place_of (Number at) = at
place_of (TooFine at) = at
place_of (TooLarge at) = at
place_of (Negative at) = at
place_of (TooMany at what) = at
place_of (LeftOut at) = at
place_of (Unknown at) = at
place_of (Twice at) = at
place_of (MissingBranch at) = at
place_of (MissingVariable at var) = at
place_of (Primed at) = at

-- that of a certificate's refusal
abbrev pub place_in_cert : CertRefusal → ℕ
place_in_cert (cert.BadByte at) = at
place_in_cert (cert.Expected at) = at
place_in_cert (cert.Unknown at) = at
place_in_cert (cert.Order at) = at
place_in_cert (cert.Number at) = at
place_in_cert (cert.End at) = at
