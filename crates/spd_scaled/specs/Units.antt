-- The text of a scaled number, which counts units of 10^-places.
use Rattle.std.specs.Prelude.{ℕ, zero, suc, ◌+◌, ◌/◌, ◌%◌, ◌^◌, List, [], ◌∷◌, ◌++◌, codes, decimal, ℤ, pos, negsuc, unsigned_abs}

-- the last `count` decimal digits of a number, leading zeros included
abbrev pub last_digits : ℕ → ℕ → List ℕ
last_digits zero n = []
last_digits (suc count) n = last_digits count (n / 10) ++ (48 + n % 10) ∷ []

-- `-` for a negative number, and nothing for the others
abbrev pub sign_text : ℤ → List ℕ
sign_text (pos n) = []
sign_text (negsuc n) = codes "-"

-- the sign, the whole part without leading zeros, the point, and exactly `places` digits
abbrev pub units_text : ℕ → ℤ → List ℕ
units_text places n =
    sign_text n ++ decimal (unsigned_abs n / 10 ^ places) ++ codes "." ++ last_digits places (unsigned_abs n)
