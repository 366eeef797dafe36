use Rattle.std.proofs.Common.{◌≡◌, true, arith}
use Rattle.std.proofs.lemmas.Bool.Decides.{nat_tests}
use Rattle.spd_cert.specs.Words.{is_whole}
use Rattle.spd_cert.proofs.NumberLaws.{whole_digits}
use Rattle.spd_cert.proofs.numbers.whole_in.Goals as goal

pub digits_value-number-requires-clause-digits : goal.digits_value-number-requires-clause-digits
digits_value-number-requires-clause-digits c =
    let all : is_whole c.args.text.now ≡ true = grind (arith, nat_tests) in (whole_digits c.args.text.now all).0
