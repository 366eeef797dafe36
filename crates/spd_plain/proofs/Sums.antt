-- Sums of numbers of at most 10^30 fit 128 bits.
use Rattle.std.proofs.Common.{◌≡◌, ℕ, ◌+◌, ◌*◌, ◌≤◌, ◌^◌, ℤ, pos, ◌+ℤ◌, FitsSigned, subst, arith}
use Rattle.std.proofs.lemmas.Int.{ints}
use mir.Syntax.{w128}
use Rattle.spd_scaled.specs.Scaled.{IsWithin}
use Rattle.spd_scaled.proofs.CallerLemmas.Magnitude.{IsWithin-+ℤ, fits_within}

pub within_more : (n b : ℕ) (sum x : ℤ) → IsWithin (pos (n * b)) sum → IsWithin (pos b) x → IsWithin (pos ((n + 1) * b)) (sum +ℤ x)
within_more n b sum x h k =
    let both : n * b + b ≡ (n + 1) * b = omega arith in
    subst (λ (k : ℕ). IsWithin (pos k) (sum +ℤ x)) both (IsWithin-+ℤ (pos (n * b)) (pos b) sum x h k)

pub sum_fits : (n : ℕ) (sum : ℤ) → n ≤ 2097152 → IsWithin (pos (n * 10 ^ 30)) sum → FitsSigned w128 sum
sum_fits n sum few h = fits_within w128 (pos (n * 10 ^ 30)) sum (omega (arith, ints)) h
