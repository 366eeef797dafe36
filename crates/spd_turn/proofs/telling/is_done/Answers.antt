use Rattle.std.proofs.Common.{int_le, sym, ◌∙◌, rules, ◌≡◌, ◌-◌, ◌^◌, ap, pos, ◌*ℤ◌, FitsSigned, arith, lit<}
use Rattle.std.proofs.lemmas.Int.{ints, to_z-of_z, fits_signed_mul}
use mir.Syntax.{w128}
use Rattle.spd_scaled.proofs.CallerLemmas.Magnitude.{unsigned_abs-le}
use Rattle.spd_scaled.specs.Scaled.{IsWithin}
use Rattle.spd_model.specs.Process.{Process}
use Rattle.spd_model.specs.Turns.{stops_at}
use Rattle.spd_turn.proofs.telling.is_done.Goals as goal

pub returns : goal.returns
returns c =
    let residual = c.ranges.residual in
    let m = c.model.inside in
    let tolerance : FitsSigned w128 m.tolerance = search rules in
    let size : IsWithin (pos (10 ^ 30)) m.tolerance = record { low = omega (arith, ints, c.model.invariant.tolerance_low); high = c.model.invariant.tolerance_high } in
    let left : c.discount_left.result ≡ pos (1000000 - m.discount) = c.discount_left.ensures.value ∙ ap (λ (m : Process). pos (1000000 - m.discount)) (sym c.model.view_is) in
    let left_fits : FitsSigned w128 c.discount_left.result = search rules in
    let twice : FitsSigned w128 (pos 2 *ℤ c.args.residual) = omega (arith, ints) in
    let scaled : FitsSigned w128 (pos 2 *ℤ c.args.residual *ℤ pos 1000000) = omega (arith, ints) in
    let bound : FitsSigned w128 (m.tolerance *ℤ pos (1000000 - m.discount)) =
    fits_signed_mul w128 m.tolerance (pos (1000000 - m.discount)) (10 ^ 30) 1000000 (unsigned_abs-le (10 ^ 30) m.tolerance size) (omega arith) (lit< tt) in
    let product : FitsSigned w128 (m.tolerance *ℤ c.discount_left.result) = rw left bound in
    simp to_z-of_z (ap (λ x. int_le (pos 2 *ℤ c.args.residual *ℤ pos 1000000) (m.tolerance *ℤ x)) left ∙ ap (λ (m : Process). stops_at m c.args.residual) c.model.view_is)
