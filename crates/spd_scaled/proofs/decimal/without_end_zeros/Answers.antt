use Rattle.std.proofs.Common.{◌∙◌, arith}
use Rattle.spd_scaled.proofs.DecimalParts.{without_end_zeros-front, without_end_zeros-whole, without_end_zeros-none}
use Rattle.spd_scaled.proofs.decimal.without_end_zeros.Goals as goal

pub loop-kept-preserved : goal.loop-kept-preserved
loop-kept-preserved c = without_end_zeros-front c.loop-kept.kept.now (omega arith) (omega arith) ∙ c.loop-kept.invariant

pub returns-in_default : goal.returns-in_default
returns-in_default c = without_end_zeros-none c.loop-kept.kept.now c.in_default.len_below ∙ c.loop-kept.invariant

pub returns-then-last-ne48 : goal.returns-then-last-ne48
returns-then-last-ne48 c = without_end_zeros-whole c.loop-kept.kept.now (omega arith) (omega arith) ∙ c.loop-kept.invariant
