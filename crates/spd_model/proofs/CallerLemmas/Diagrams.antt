-- Reduced diagrams of functions that agree.
use Rattle.std.proofs.Common.{◌≡◌, ℕ, zero, suc, ◌<◌, Bool, List, [], ◌∷◌, ◌++◌, map, refl, ap, sym, ◌∙◌, arith}
use Rattle.std.proofs.lemmas.List.{map-append}
use Rattle.spd_model.specs.Numbers.{numbers_below}
use Rattle.spd_model.specs.States.{IsState}
use Rattle.spd_model.specs.Reduced.{Diagram, choice_of, reduced_from}

-- functions that agree below n have equal lists of values
pub map-below : {X : Type 0} (f g : ℕ → X) (n : ℕ) → ((v : ℕ) → v < n → f v ≡ g v) → map f (numbers_below n) ≡ map g (numbers_below n)
map-below f g zero h = refl
map-below f g (suc n) h =
    let before = map-below f g n (λ v q. h v (omega arith)) in
    let last : f n ≡ g n = h n (omega arith) in
    map-append f (numbers_below n) (n ∷ []) ∙ ap (λ l. l ++ f n ∷ []) before ∙ ap (λ x. map g (numbers_below n) ++ x ∷ []) last ∙ sym (map-append g (numbers_below n) (n ∷ []))

-- functions that agree at all states have one reduced diagram
pub reduced-agree : {X : Type 0} (same : X → X → Bool) (var : ℕ) (sizes : List ℕ) (f g : List ℕ → X) → ((s : List ℕ) → IsState sizes s → f s ≡ g s)
    → reduced_from same var sizes f ≡ reduced_from same var sizes g
reduced-agree same var [] f g h = ap Diagram.leaf (h [] tt)
reduced-agree same var (size ∷ sizes) f g h =
    ap (choice_of same var) (map-below (λ v. reduced_from same (suc var) sizes (λ s. f (v ∷ s))) (λ v. reduced_from same (suc var) sizes (λ s. g (v ∷ s))) size
    (λ v q. reduced-agree same (suc var) sizes (λ s. f (v ∷ s)) (λ s. g (v ∷ s)) (λ s k. h (v ∷ s) (q, k))))
