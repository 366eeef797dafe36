-- Tests on numbers of 128 bits.
use Rattle.std.proofs.Common.{◌≡◌, true, false, nat_eq, eq-eqb, eqb-true, ℤ, FitsSigned, to_z, of_z, ap, sym, ◌∙◌}
use Rattle.std.specs.Cmp.{both_ways}
use Rattle.std.specs.Ordering.{int_eq}
use Rattle.std.proofs.lemmas.Bool.{false_from_ne_true}
use Rattle.std.proofs.lemmas.Int.{to_z-of_z}
use mir.Syntax.{w128}
use Rattle.spd_scaled.proofs.CallerLemmas.Ring.{int_eq-true, int_eq-holds}
use Rattle.spd_model.specs.Chances.{one}

pub is_one : (x : ℤ) → FitsSigned w128 x → of_z w128 x ≡ 1000000000000 → int_eq x one ≡ true
is_one x fits h = int_eq-holds x one (sym (to_z-of_z w128 x fits) ∙ ap (to_z w128) h)

pub is_not_one : (x : ℤ) → (of_z w128 x ≡ 1000000000000 → ⊥) → int_eq x one ≡ false
is_not_one x h = false_from_ne_true (int_eq x one) (λ e. h (ap (of_z w128) (int_eq-true x one e)))

-- numbers that fit are equal where their bits are
pub same_test : (x y : ℤ) → FitsSigned w128 x → FitsSigned w128 y → nat_eq (of_z w128 x) (of_z w128 y) ≡ int_eq x y
same_test x y h k =
    both_ways _ _
    (λ e. int_eq-holds x y (sym (to_z-of_z w128 x h) ∙ ap (to_z w128) (eqb-true (of_z w128 x) (of_z w128 y) e) ∙ to_z-of_z w128 y k))
    (λ e. eq-eqb (of_z w128 x) (of_z w128 y) (ap (of_z w128) (int_eq-true x y e)))

pub differs : (x y : ℤ) → (of_z w128 x ≡ of_z w128 y → ⊥) → int_eq x y ≡ false
differs x y h = false_from_ne_true (int_eq x y) (λ e. h (ap (of_z w128) (int_eq-true x y e)))
