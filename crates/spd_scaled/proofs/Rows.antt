-- The definitions at worked values.
use Rattle.std.proofs.Common.{◌≡◌, pos, negsuc, refl}
use Rattle.std.specs.Prelude.{codes}
use Rattle.std.specs.Fmt.{digits}
use Rattle.spd_scaled.specs.Scaled.{floor_div, ceil_div}
use Rattle.spd_scaled.specs.Units.{units_text}

-- -7 / 2
floor_row : floor_div (negsuc 6) (pos 2) ≡ negsuc 3
floor_row = refl

ceil_row : ceil_div (negsuc 6) (pos 2) ≡ negsuc 2
ceil_row = refl

-- -1 at 9 places
negative_row : units_text 9 (negsuc 0) ≡ codes "-0.000000001"
unfolding digits
negative_row = refl

-- 999900000000 at 12 places
below_one_row : units_text 12 (pos 999900000000) ≡ codes "0.999900000000"
unfolding digits
below_one_row = refl
