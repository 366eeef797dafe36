use Rattle.std.proofs.Common.{◌≡◌, ◌++◌, ◌∙◌, List, [], ◌∷◌, ℕ, true, false, eqb, length, append-nil, refl, sym, ap, arith}
use Rattle.std.proofs.lemmas.Bool.Decides.{nat_tests}
use Rattle.spd_scaled.specs.DecimalReading.{without_end_zeros}
use Rattle.spd_scaled.proofs.DecimalParts.{without_end_zeros-append}
use Rattle.spd_scaled.proofs.decimal.significant.Goals as goal

nothing : (xs ys : List ℕ) → eqb (length ys) 0 ≡ true → xs ++ ys ≡ xs
nothing xs [] e = append-nil xs
nothing xs (y ∷ ys) e = absurd (grind (arith, nat_tests))

pub returns-then-is_empty : goal.returns-then-is_empty
returns-then-is_empty c =
    let kept = c.without_end_zeros-kept.result.now in
    let empty : eqb (length kept) 0 ≡ true = sym c.is_empty.ensures ∙ c.if-is_empty.true in
    let same : eqb (length (without_end_zeros c.args.fraction.now)) 0 ≡ true = ap (λ (l : List ℕ). eqb (length l) 0) (sym c.without_end_zeros-kept.ensures) ∙ empty in
    nothing c.without_end_zeros.result.now kept empty ∙ c.without_end_zeros.ensures
    ∙ sym (rw (without_end_zeros-append c.args.whole.now c.args.fraction.now, same) refl)

pub returns-else-is_empty : goal.returns-else-is_empty
returns-else-is_empty c =
    let kept = c.without_end_zeros-kept.result.now in
    let empty : eqb (length kept) 0 ≡ false = sym c.is_empty.ensures ∙ c.if-is_empty.false in
    let same : eqb (length (without_end_zeros c.args.fraction.now)) 0 ≡ false = ap (λ (l : List ℕ). eqb (length l) 0) (sym c.without_end_zeros-kept.ensures) ∙ empty in
    ap (λ (l : List ℕ). c.args.whole.now ++ l) c.without_end_zeros-kept.ensures
    ∙ sym (rw (without_end_zeros-append c.args.whole.now c.args.fraction.now, same) refl)
