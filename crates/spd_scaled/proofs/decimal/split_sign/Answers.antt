use Rattle.std.proofs.Common.{refl, lit<, arith}
use Rattle.spd_scaled.proofs.DecimalParts.{sign_at-some, sign_at-other, first-none}
use Rattle.spd_scaled.proofs.decimal.split_sign.Goals as goal

pub returns-in_default-clause-negative : goal.returns-in_default-clause-negative
returns-in_default-clause-negative c =
    let text = c.args.text.now in
    rw (sign_at-other text (first-none text 45 c.in_default.len_below (lit< tt)) (first-none text 43 c.in_default.len_below (lit< tt))) refl

pub returns-in_default-clause-rest : goal.returns-in_default-clause-rest
returns-in_default-clause-rest c =
    let text = c.args.text.now in
    rw (sign_at-other text (first-none text 45 c.in_default.len_below (lit< tt)) (first-none text 43 c.in_default.len_below (lit< tt))) refl

pub returns-in-45-clause-negative : goal.returns-in-45-clause-negative
returns-in-45-clause-negative c = rw (sign_at-some c.args.text.now c.in-len1-up.len_at_least, c.in-45.is) refl

pub returns-in-45-clause-rest : goal.returns-in-45-clause-rest
returns-in-45-clause-rest c = rw (sign_at-some c.args.text.now c.in-len1-up.len_at_least, c.in-45.is) refl

pub returns-in-43-clause-negative : goal.returns-in-43-clause-negative
returns-in-43-clause-negative c = rw (sign_at-some c.args.text.now c.in-len1-up.len_at_least, c.in-43.is) refl

pub returns-in-43-clause-rest : goal.returns-in-43-clause-rest
returns-in-43-clause-rest c = rw (sign_at-some c.args.text.now c.in-len1-up.len_at_least, c.in-43.is) refl

pub returns-in_default-first-clause-negative : goal.returns-in_default-first-clause-negative
returns-in_default-first-clause-negative c = rw (sign_at-other c.args.text.now (omega arith) (omega arith)) refl

pub returns-in_default-first-clause-rest : goal.returns-in_default-first-clause-rest
returns-in_default-first-clause-rest c = rw (sign_at-other c.args.text.now (omega arith) (omega arith)) refl
