-- Whole numbers: division that rounds down or up, and bounds on a magnitude.
use Rattle.std.specs.Prelude.{ℤ, pos, negsuc, neg_ℤ, ◌/◌, ◌≤ℤ◌, unsigned_abs}

-- `n / d` rounded down, where d is above 0; `negsuc a` is the number -(a + 1)
abbrev pub floor_div : ℤ → ℤ → ℤ
floor_div (pos a) d = pos (a / unsigned_abs d)
floor_div (negsuc a) d = negsuc (a / unsigned_abs d)

-- `n / d` rounded up, where d is above 0
abbrev pub ceil_div : ℤ → ℤ → ℤ
ceil_div n d = neg_ℤ (floor_div (neg_ℤ n) d)

-- the magnitude of x is at most c
pub record IsWithin (c x : ℤ) : Type 0 where
  pub low : neg_ℤ c ≤ℤ x
  pub high : x ≤ℤ c
