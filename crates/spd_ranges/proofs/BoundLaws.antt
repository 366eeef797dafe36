-- A sum that passes the greatest `i128` is above each `i128`.
use Rattle.std.proofs.Common.{◌≡◌, Bool, true, false, ℤ, pos, negsuc, ◌+ℤ◌, ◌≤ℤ◌, ◌<ℤ◌, FitsSigned, cond, refl, arith}
use mir.Syntax.{w128}
use Rattle.std.specs.Prelude.{int_le, int_lt}
use Rattle.std.specs.Int.{int_max}
use Rattle.std.proofs.lemmas.Int.{ints}

between : (a z m : ℤ) → FitsSigned w128 a → FitsSigned w128 m → a ≤ℤ z → z <ℤ m → FitsSigned w128 z
between a (pos n) (pos k) f g h l = record { sfits = omega (arith, ints, g.sfits) }
between a (pos n) (negsuc k) f g h l = absurd (omega (arith, ints))
between (pos j) (negsuc n) m f g h l = absurd (omega (arith, ints))
between (negsuc j) (negsuc n) m f g h l = record { sfits = omega (arith, ints, f.sfits) }

greater-fits : (b : Bool) (x y : ℤ) → FitsSigned w128 x → FitsSigned w128 y → FitsSigned w128 (cond b x y)
greater-fits true x y f g = f
greater-fits false x y f g = g

pub past-all : (a s x y : ℤ) → FitsSigned w128 a → pos 0 ≤ℤ s → FitsSigned w128 x → FitsSigned w128 y → (FitsSigned w128 (a +ℤ s) → ⊥) → true ≡ int_le (int_max x y) (a +ℤ s)
past-all a s x y f h g k never = go (int_le (int_max x y) (a +ℤ s)) refl
  where
    go : (b : Bool) → int_le (int_max x y) (a +ℤ s) ≡ b → true ≡ b
    go true e = refl
    go false e =
        let above : a ≤ℤ (a +ℤ s) = omega (arith, ints) in
        let below : (a +ℤ s) <ℤ int_max x y = grind (arith, ints) in
        absurd (never (between a (a +ℤ s) (int_max x y) f (greater-fits (int_lt y x) x y g k) above below))
