use Rattle.std.proofs.Common.{◌≡◌, ◌<◌, ◌^◌, drop}
use Rattle.std.specs.Str.Parse.{digits_value_after}
use Rattle.spd_scaled.proofs.decimal.with_digits.Given as goal

abbrev pub invariant-loop-digit : goal.invariant-loop-digit
invariant-loop-digit l =
    record {
      told : digits_value_after 10 l.read (drop l.digit-index l.digits) ≡ digits_value_after 10 l.value l.digits;
      few : l.read < 10 ^ 38;
    }
