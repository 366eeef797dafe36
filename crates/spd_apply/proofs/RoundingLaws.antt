-- A number in the range of an `i128` fits it.
use Rattle.std.proofs.Common.{◌≡◌, ◌^◌, true, ℤ, pos, negsuc, FitsSigned}
use Rattle.std.proofs.lemmas.Bool.Decides.{Decides-ltb}
use borrow.Author.Rules.{sfits_of}
use mir.Syntax.{w128}
use Rattle.spd_apply.specs.Operations.{in_i128}

pub in_i128-fits : (z : ℤ) → in_i128 z ≡ true → FitsSigned w128 z
in_i128-fits (pos n) h = sfits_of ((Decides-ltb n (2 ^ 127)).0 h)
in_i128-fits (negsuc n) h = sfits_of ((Decides-ltb n (2 ^ 127)).0 h)
