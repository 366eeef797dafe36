use Rattle.std.proofs.Common.{◌≡◌, ◌∙◌, Option, Some, None, List, ℕ, sym}
use Rattle.std.specs.Prelude.{IfSome}
use Rattle.spd_scaled.specs.declared.decimal.Decimal.{Decimal}
use Rattle.spd_scaled.specs.Decimal.{Writes}
use Rattle.spd_scaled.specs.DecimalReading.{decimal_of}
use Rattle.spd_scaled.proofs.DecimalText.{decimal_of-writes, decimal_of-every}
use Rattle.spd_scaled.proofs.decimal.read_decimal.Goals as goal

writes : (text : List ℕ) (o : Option Decimal) → o ≡ decimal_of text → IfSome o (Writes text)
writes text None e = tt
writes text (Some d) e = decimal_of-writes text d (sym e)

pub returns-clause-writes : goal.returns-clause-writes
returns-clause-writes c = writes c.args.text.now c.number.result c.number.ensures

pub returns-clause-every : goal.returns-clause-every
returns-clause-every c d w = c.number.ensures ∙ decimal_of-every c.args.text.now d w
