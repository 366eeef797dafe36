-- Powers of ten, digit by digit.
use Rattle.std.proofs.Common.{◌≡◌, ℕ, ◌+◌, ◌*◌, ◌^◌, ◌≤◌, refl, add-one, lit<}
use Rattle.std.proofs.Math.Nat.{pow-suc, pow-le-pow_right}

pub pow-step : (i : ℕ) → 10 ^ (i + 1) ≡ 10 ^ i * 10
pow-step i = rw (add-one, pow-suc 10 i) refl

pub pow-nine : (i : ℕ) → i ≤ 9 → 10 ^ i ≤ 1000000000
pow-nine i h = pow-le-pow_right (lit< tt) h
