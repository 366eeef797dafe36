use Rattle.std.proofs.Common.{◌≡◌, true, arith}
use Rattle.std.specs.List.{list_all}
use Rattle.std.specs.Char.{is_ascii_digit}
use Rattle.std.proofs.lemmas.Bool.Decides.{nat_tests}
use Rattle.spd_scaled.proofs.CallerLemmas.{AllDigits-list_all}
use Rattle.spd_words.proofs.value.number_in.Goals as goal

pub digits_value-number-requires-clause-digits : goal.digits_value-number-requires-clause-digits
digits_value-number-requires-clause-digits c =
    let all : list_all is_ascii_digit c.args.text.now ≡ true = grind (arith, nat_tests) in AllDigits-list_all c.args.text.now all
