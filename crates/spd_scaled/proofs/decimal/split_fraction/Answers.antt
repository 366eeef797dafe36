use Rattle.std.proofs.Common.{◌≡◌, get_or, refl, lit<, arith}
use Rattle.spd_scaled.proofs.DecimalParts.{fraction_at-some, fraction_at-other, first-none}
use Rattle.spd_scaled.proofs.decimal.split_fraction.Goals as goal

pub returns-in_default-clause-digits : goal.returns-in_default-clause-digits
returns-in_default-clause-digits c = rw (fraction_at-other c.args.text.now (first-none c.args.text.now 46 c.in_default.len_below (lit< tt))) refl

pub returns-in_default-clause-rest : goal.returns-in_default-clause-rest
returns-in_default-clause-rest c = rw (fraction_at-other c.args.text.now (first-none c.args.text.now 46 c.in_default.len_below (lit< tt))) refl

pub returns-then-first-ne46-clause-digits : goal.returns-then-first-ne46-clause-digits
returns-then-first-ne46-clause-digits c = rw (fraction_at-other c.args.text.now (omega arith)) refl

pub returns-then-first-ne46-clause-rest : goal.returns-then-first-ne46-clause-rest
returns-then-first-ne46-clause-rest c = rw (fraction_at-other c.args.text.now (omega arith)) refl

pub returns-clause-digits : goal.returns-clause-digits
returns-clause-digits c =
    let first : get_or c.args.text.now 0 0 ≡ 46 = omega arith in
    rw (fraction_at-some c.args.text.now c.in-len1-up.len_at_least, first) c.split_digits.ensures.digits

pub returns-clause-rest : goal.returns-clause-rest
returns-clause-rest c =
    let first : get_or c.args.text.now 0 0 ≡ 46 = omega arith in
    rw (fraction_at-some c.args.text.now c.in-len1-up.len_at_least, first) c.split_digits.ensures.rest
