use Rattle.std.proofs.Common.{◌≡◌, ◌<◌, ◌^◌, drop}
use Rattle.std.specs.Str.Parse.{digits_value_after, digits_value}
use Rattle.spd_cert.proofs.numbers.digits_value.Given as goal

abbrev pub invariant-loop-digit : goal.invariant-loop-digit
invariant-loop-digit l =
    record {
      told : digits_value_after 10 l.read (drop l.digit-index l.digits) ≡ digits_value 10 l.digits;
      few : l.read < 10 ^ l.digit-index;
    }
