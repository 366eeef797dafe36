use Rattle.std.proofs.Common.{◌≡◌, ◌||◌, true, false, eqb, get_or, refl, sym, arith}
use Rattle.std.proofs.lemmas.Bool.Decides.{nat_tests}
use Rattle.spd_scaled.proofs.DecimalParts.{exponent_at-some, exponent_at-none}
use Rattle.spd_scaled.proofs.decimal.exponent.Goals as goal
use Rattle.spd_scaled.proofs.decimal.exponent.Goals.{else-letter-ne101-via-then-letter-ne101+else-letter-ne69, else-letter-ne101-via-else-letter-ne101}

pub returns-in_default-clause-value : goal.returns-in_default-clause-value
returns-in_default-clause-value c = sym (exponent_at-none c.args.text.now c.in_default.len_below)

pub returns-then-letter-ne69-clause-value : goal.returns-then-letter-ne69-clause-value
returns-then-letter-ne69-clause-value c =
    let no : (eqb (get_or c.args.text.now 0 0) 101 || eqb (get_or c.args.text.now 0 0) 69) ≡ false = grind (arith, nat_tests) in
    rw (exponent_at-some c.args.text.now c.in-len1-up.len_at_least, no) refl

pub returns-clause-value : goal.returns-clause-value
returns-clause-value c =
    let is : (eqb (get_or c.args.text.now 0 0) 101 || eqb (get_or c.args.text.now 0 0) 69) ≡ true =
    elim c.else-letter-ne101.branch [
      | else-letter-ne101-via-then-letter-ne101+else-letter-ne69 w ↦ grind (arith, nat_tests)
      | else-letter-ne101-via-else-letter-ne101 w ↦ grind (arith, nat_tests)
    ] in
    rw (exponent_at-some c.args.text.now c.in-len1-up.len_at_least, is) c.exponent_value.ensures.value
