use Rattle.std.proofs.Common.{rules, ◌≡◌, ◌*ℤ◌, pos, arith, sym, ◌∙◌, ap, FitsSigned, to_z, of_z}
use Rattle.std.specs.Int.{w128}
use Rattle.std.proofs.lemmas.Int.{ints, to_z-of_z, to_z_pos}
use Rattle.std.proofs.lemmas.Bool.Decides.{Decides-eqb}
use Rattle.spd_backup.proofs.exact.is_exact.Goals as goal

pub returns-in-Some : goal.returns-in-Some
returns-in-Some c = λ h.
    let x = c.floor_div.result in
    let y = c.ceil_div.result in
    let low : FitsSigned w128 x = search rules in
    let high : FitsSigned w128 y = search rules in
    let bits : of_z w128 x ≡ of_z w128 y = (Decides-eqb (of_z w128 x) (of_z w128 y)).0 h in
    let same : x ≡ y = sym (to_z-of_z w128 x low) ∙ ap (to_z w128) bits ∙ to_z-of_z w128 y high in
    let product : c.in-Some.product ≡ pos c.args.ratio.times *ℤ c.in-Num.x = search rules in
    let fits : FitsSigned w128 c.in-Some.product = search rules in
    let number : to_z w128 (of_z w128 c.in-Some.product) ≡ c.in-Some.product = to_z-of_z w128 c.in-Some.product fits in
    let by : to_z w128 c.args.ratio.by ≡ pos c.args.ratio.by = search (rules, to_z_pos) in
    let whole = rw (number, by) at (sym c.floor_div.ensures.quotient ∙ same ∙ c.ceil_div.ensures.quotient) in
    record { some = omega (arith, ints, c.if-by-gt0.true); whole = rw c.in-Num.is (rw (sym product) whole) }
