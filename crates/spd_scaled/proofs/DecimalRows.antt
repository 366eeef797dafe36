-- The definitions of decimals at worked values.
use Rattle.std.proofs.Common.{◌≡◌, false, true, Some, None, Ok, Err, pos, negsuc, refl}
use Rattle.std.specs.Prelude.{codes}
use Rattle.spd_scaled.specs.declared.decimal.Scale.TheVariants.{TooFine, TooLarge}
use Rattle.spd_scaled.specs.DecimalReading.{sign_at, digits_at, fraction_at, exponent_at, without_end_zeros, lowest_of, decimal_of, scaled_of}

-- 1e-3 and 5. and 0.50000000000000
exponent_row : decimal_of (codes "1e-3") ≡ Some (record { negative = false; digits = 1; places = pos 3 })
unfolding decimal_of sign_at digits_at fraction_at exponent_at lowest_of without_end_zeros
exponent_row = refl

point_row : decimal_of (codes "-5.") ≡ Some (record { negative = true; digits = 5; places = pos 0 })
unfolding decimal_of sign_at digits_at fraction_at exponent_at lowest_of without_end_zeros
point_row = refl

zeros_row : decimal_of (codes "0.50000000000000") ≡ Some (record { negative = false; digits = 5; places = pos 1 })
unfolding decimal_of sign_at digits_at fraction_at exponent_at lowest_of without_end_zeros
zeros_row = refl

-- 1e30 is 1 with thirty places less, and -0 is zero
large_row : decimal_of (codes "1e30") ≡ Some (record { negative = false; digits = 1; places = negsuc 29 })
unfolding decimal_of sign_at digits_at fraction_at exponent_at lowest_of without_end_zeros
large_row = refl

zero_row : decimal_of (codes "-0e7") ≡ Some (record { negative = false; digits = 0; places = pos 0 })
unfolding decimal_of sign_at digits_at fraction_at exponent_at lowest_of without_end_zeros
zero_row = refl

-- no numbers
sign_row : decimal_of (codes "--1") ≡ None
unfolding decimal_of sign_at digits_at fraction_at exponent_at lowest_of without_end_zeros
sign_row = refl

three_digits_row : decimal_of (codes "1e100") ≡ None
unfolding decimal_of sign_at digits_at fraction_at exponent_at lowest_of without_end_zeros
three_digits_row = refl

-- 0.015 at 9 places, 10^-13 at 12 and 10^30 at 9
scaled_row : scaled_of 9 (record { negative = true; digits = 15; places = pos 3 }) ≡ Ok (negsuc 14999999)
unfolding scaled_of
scaled_row = refl

fine_row : scaled_of 12 (record { negative = false; digits = 1; places = pos 13 }) ≡ Err TooFine
unfolding scaled_of
fine_row = refl

too_large_row : scaled_of 9 (record { negative = false; digits = 1; places = negsuc 29 }) ≡ Err TooLarge
unfolding scaled_of
too_large_row = refl
