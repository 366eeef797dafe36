use Rattle.std.proofs.Common.{◌≡◌, true, arith}
use Rattle.std.proofs.lemmas.Bool.Decides.{nat_tests}
use Rattle.spd_cert.specs.Words.{is_whole}
use Rattle.spd_cert.proofs.NumberLaws.{whole_digits}
use Rattle.spd_cert.proofs.nodes.kid_of.Goals as goal

pub number_below-requires-clause-digits : goal.number_below-requires-clause-digits
number_below-requires-clause-digits c =
    let all : is_whole c.args.word.now.text.now ≡ true = grind (arith, nat_tests) in (whole_digits c.args.word.now.text.now all).0
