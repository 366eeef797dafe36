-- Division that rounds down or up: what the quotient is bounded by, that the bounds fix it, and what follows.
--
-- Everything but the first two laws follows from the bounds, so no proof elsewhere needs the definitions' cases.
use Rattle.std.proofs.Common.{◌≡◌, ◌<◌, ℤ, pos, negsuc, neg_ℤ, ◌+ℤ◌, ◌*ℤ◌, ◌≤ℤ◌, ◌<ℤ◌, arith}
use Rattle.std.proofs.lemmas.Int.{ints}
use native.Mathlib.Nat.{div-add-mod', mod-lt}
use Rattle.spd_scaled.proofs.CallerLemmas.Ring.{neg_ℤ-*ℤ, *ℤ_cancel_within, ≤ℤ_antisymm}
use Rattle.spd_scaled.specs.Scaled.{floor_div, ceil_div, IsWithin}

-- ---- the bounds

pub floor_div_at_most : (n d : ℤ) → pos 0 <ℤ d → (floor_div n d *ℤ d) ≤ℤ n
floor_div_at_most (pos a) (pos b) h = omega (arith, ints, div-add-mod' a b)
floor_div_at_most (negsuc a) (pos b) h = let p : 0 < b = omega (arith, ints) in omega (arith, ints, div-add-mod' a b, mod-lt a p)
floor_div_at_most n (negsuc b) h = absurd h.lt

pub floor_div_next_above : (n d : ℤ) → pos 0 <ℤ d → n <ℤ (floor_div n d *ℤ d +ℤ d)
floor_div_next_above (pos a) (pos b) h = let p : 0 < b = omega (arith, ints) in omega (arith, ints, div-add-mod' a b, mod-lt a p)
floor_div_next_above (negsuc a) (pos b) h = let p : 0 < b = omega (arith, ints) in omega (arith, ints, div-add-mod' a b, mod-lt a p)
floor_div_next_above n (negsuc b) h = absurd h.lt

pub ceil_div_at_least : (n d : ℤ) → pos 0 <ℤ d → n ≤ℤ (ceil_div n d *ℤ d)
ceil_div_at_least n d p = omega (arith, ints, floor_div_at_most (neg_ℤ n) d p, neg_ℤ-*ℤ (floor_div (neg_ℤ n) d) d)

pub ceil_div_last_below : (n d : ℤ) → pos 0 <ℤ d → (ceil_div n d *ℤ d) <ℤ (n +ℤ d)
ceil_div_last_below n d p = omega (arith, ints, floor_div_next_above (neg_ℤ n) d p, neg_ℤ-*ℤ (floor_div (neg_ℤ n) d) d)

-- ---- the floor is the greatest that stays below, and the ceiling the least that stays above

pub floor_div_greatest : (n d q : ℤ) → pos 0 <ℤ d → (q *ℤ d) ≤ℤ n → q ≤ℤ floor_div n d
floor_div_greatest n d q p low =
    let above = floor_div_next_above n d p in *ℤ_cancel_within q (floor_div n d) d p (omega (arith, ints))

pub floor_div_least : (n d q : ℤ) → pos 0 <ℤ d → n <ℤ (q *ℤ d +ℤ d) → floor_div n d ≤ℤ q
floor_div_least n d q p high =
    let below = floor_div_at_most n d p in *ℤ_cancel_within (floor_div n d) q d p (omega (arith, ints))

pub floor_div_unique : (n d q : ℤ) → pos 0 <ℤ d → (q *ℤ d) ≤ℤ n → n <ℤ (q *ℤ d +ℤ d) → q ≡ floor_div n d
floor_div_unique n d q p low high =
    ≤ℤ_antisymm q (floor_div n d) (floor_div_greatest n d q p low) (floor_div_least n d q p high)

pub ceil_div_least : (n d q : ℤ) → pos 0 <ℤ d → n ≤ℤ (q *ℤ d) → ceil_div n d ≤ℤ q
ceil_div_least n d q p high =
    let below = ceil_div_last_below n d p in *ℤ_cancel_within (ceil_div n d) q d p (omega (arith, ints))

pub ceil_div_greatest : (n d q : ℤ) → pos 0 <ℤ d → (q *ℤ d) <ℤ (n +ℤ d) → q ≤ℤ ceil_div n d
ceil_div_greatest n d q p low =
    let above = ceil_div_at_least n d p in *ℤ_cancel_within q (ceil_div n d) d p (omega (arith, ints))

pub ceil_div_unique : (n d q : ℤ) → pos 0 <ℤ d → n ≤ℤ (q *ℤ d) → (q *ℤ d) <ℤ (n +ℤ d) → q ≡ ceil_div n d
ceil_div_unique n d q p high low =
    ≤ℤ_antisymm q (ceil_div n d) (ceil_div_greatest n d q p low) (ceil_div_least n d q p high)

-- ---- order

pub floor_div_mono : (m n d : ℤ) → pos 0 <ℤ d → m ≤ℤ n → floor_div m d ≤ℤ floor_div n d
floor_div_mono m n d p h = let low = floor_div_at_most m d p in floor_div_greatest n d (floor_div m d) p (omega (arith, ints))

pub floor_div-≤ℤ-ceil_div : (n d : ℤ) → pos 0 <ℤ d → floor_div n d ≤ℤ ceil_div n d
floor_div-≤ℤ-ceil_div n d p =
    let low = floor_div_at_most n d p in ceil_div_greatest n d (floor_div n d) p (omega (arith, ints))

-- ---- magnitude: a number within c times the divisor has a quotient within c

pub IsWithin-floor_div : (n d c : ℤ) → pos 0 <ℤ d → IsWithin (c *ℤ d) n → IsWithin c (floor_div n d)
IsWithin-floor_div n d c p h = record {
  low = floor_div_greatest n d (neg_ℤ c) p (omega (arith, ints, neg_ℤ-*ℤ c d));
  high = floor_div_least n d c p (omega (arith, ints));
}

pub IsWithin-ceil_div : (n d c : ℤ) → pos 0 <ℤ d → IsWithin (c *ℤ d) n → IsWithin c (ceil_div n d)
IsWithin-ceil_div n d c p h = record {
  low = ceil_div_greatest n d (neg_ℤ c) p (omega (arith, ints, neg_ℤ-*ℤ c d));
  high = ceil_div_least n d c p h.high;
}
