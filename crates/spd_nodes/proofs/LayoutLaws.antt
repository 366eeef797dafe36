-- Sums of tests, and the levels of the slots.
use Rattle.std.proofs.Common.{◌≡◌, ℕ, zero, suc, ◌+◌, ◌-◌, ◌*◌, ◌<◌, ◌≤◌, ◌⊎◌, inl, inr, Bool, true, false, List, [], ◌∷◌, length, get_or, take, refl, ◌∙◌, subst, arith}
use Rattle.std.proofs.lemmas.List.{take-take}
use Rattle.spd_nodes.specs.Levels.{levels_of, slots, level_at, IsTestOf}
use Rattle.spd_nodes.specs.Limits.{IsLayout}
use Rattle.spd_nodes.proofs.StateLaws.{levels_of-slots}

take-none : (n : ℕ) → levels_of (take n (slots [])) ≡ 0
take-none zero = refl
take-none (suc n) = refl

pub before-slots : (var : ℕ) (ds : List ℕ) → levels_of (take (2 * var) (slots ds)) ≡ 2 * levels_of (take var ds)
before-slots zero ds = refl
before-slots (suc var) [] = take-none (2 * suc var)
before-slots (suc var) (d ∷ ds) =
    let e : 2 * suc var ≡ suc (suc (2 * var)) = omega arith in
    rw e (let h : levels_of (take (2 * var) (slots ds)) ≡ 2 * levels_of (take var ds) = before-slots var ds in omega arith)

pub before-plain : (var : ℕ) (ds : List ℕ) → var < length ds → levels_of (take (2 * var + 1) (slots ds)) ≡ 2 * levels_of (take var ds) + (get_or ds var 0 - 1)
before-plain var [] h = absurd (omega arith)
before-plain zero (d ∷ ds) h = omega arith
before-plain (suc var) (d ∷ ds) h =
    let e : 2 * suc var + 1 ≡ suc (suc (2 * var + 1)) = omega arith in
    rw e (let i : levels_of (take (2 * var + 1) (slots ds)) ≡ 2 * levels_of (take var ds) + (get_or ds var 0 - 1) = before-plain var ds (omega arith) in omega arith)

-- one more variable
pub levels-more : (var : ℕ) (ds : List ℕ) → var < length ds → levels_of (take (var + 1) ds) ≡ levels_of (take var ds) + (get_or ds var 0 - 1)
levels-more var [] h = absurd (omega arith)
levels-more zero (d ∷ ds) h = omega arith
levels-more (suc var) (d ∷ ds) h =
    let e : suc var + 1 ≡ suc (var + 1) = omega arith in
    rw e (let i : levels_of (take (var + 1) ds) ≡ levels_of (take var ds) + (get_or ds var 0 - 1) = levels-more var ds (omega arith) in omega arith)

pub levels-take : (var : ℕ) (ds : List ℕ) → levels_of (take var ds) ≤ levels_of ds
levels-take zero ds = omega arith
levels-take (suc var) [] = omega arith
levels-take (suc var) (d ∷ ds) = let i : levels_of (take var ds) ≤ levels_of ds = levels-take var ds in omega arith

pub levels-all : (var : ℕ) (ds : List ℕ) → length ds ≤ var → levels_of (take var ds) ≡ levels_of ds
levels-all zero [] h = refl
levels-all zero (d ∷ ds) h = absurd (omega arith)
levels-all (suc var) [] h = refl
levels-all (suc var) (d ∷ ds) h = let i : levels_of (take var ds) ≡ levels_of ds = levels-all var ds (omega arith) in omega arith

pub level-primed : (ds : List ℕ) (var v : ℕ) → level_at ds var true v ≡ 2 * levels_of (take var ds) + v
level-primed ds var v = let e : 2 * var + 0 ≡ 2 * var = omega arith in rw (e, before-slots var ds) refl

pub level-plain : (ds : List ℕ) (var v : ℕ) → var < length ds → level_at ds var false v ≡ 2 * levels_of (take var ds) + (get_or ds var 0 - 1) + v
level-plain ds var v h = rw (before-plain var ds h) refl

-- the limits of a layout, at one variable
pub fits-at : (ds : List ℕ) → IsLayout ds → (var : ℕ) → var < length ds
    → (0 < get_or ds var 0) × (get_or ds var 0 ≤ 64) × (2 * levels_of (take var ds) + 2 * (get_or ds var 0 - 1) ≤ 2 * levels_of ds) × (2 * levels_of ds ≤ 512) × (levels_of (slots ds) ≡ 2 * levels_of ds)
fits-at ds o var h =
    let v : (0 < get_or ds var 0) × (get_or ds var 0 ≤ 64) = o.values var 0 h in
    let more : levels_of (take (var + 1) ds) ≡ levels_of (take var ds) + (get_or ds var 0 - 1) = levels-more var ds h in
    (v.0, v.1, omega (arith, more, levels-take (var + 1) ds), omega (arith, o.tests), levels_of-slots ds)

pub test-primed : (ds : List ℕ) (var level rest : ℕ) → var < length ds → rest + 2 * levels_of (take var ds) ≡ level → rest < get_or ds var 0 - 1 → IsTestOf ds level var true rest
test-primed ds var level rest h e q = record { var_in = h; value_in = omega arith; level_is = level-primed ds var rest ∙ omega arith }

pub test-plain : (ds : List ℕ) (var level rest : ℕ) → var < length ds → rest + 2 * levels_of (take var ds) ≡ level → get_or ds var 0 - 1 ≤ rest → rest < 2 * (get_or ds var 0 - 1) → IsTestOf ds level var false (rest - (get_or ds var 0 - 1))
test-plain ds var level rest h e p q = record { var_in = h; value_in = omega arith; level_is = level-plain ds var (rest - (get_or ds var 0 - 1)) h ∙ omega arith }

levels_below : (a b : ℕ) (ds : List ℕ) → a ≤ b → levels_of (take a ds) ≤ levels_of (take b ds)
levels_below a b ds h = subst (λ xs. levels_of xs ≤ levels_of (take b ds)) (take-take a b ds h) (levels-take a (take b ds))

-- a variable's levels stand between those of the variables before it and after it
levels-between : (ds : List ℕ) (level var : ℕ) (primed : Bool) (value : ℕ) → IsTestOf ds level var primed value
    → (2 * levels_of (take var ds) ≤ level) × (level < 2 * levels_of (take (var + 1) ds))
levels-between ds level var true value h =
    let at = level-primed ds var value in
    let more = levels-more var ds h.var_in in
    (omega (arith, at, more, h.level_is), omega (arith, at, more, h.level_is, h.value_in))
levels-between ds level var false value h =
    let at = level-plain ds var value h.var_in in
    let more = levels-more var ds h.var_in in
    (omega (arith, at, more, h.level_is), omega (arith, at, more, h.level_is, h.value_in))

-- no two tests have one level
pub one_test : (ds : List ℕ) (level var v : ℕ) (primed p : Bool) (value x : ℕ) → IsTestOf ds level var primed value → IsTestOf ds level v p x → (v ≡ var) × (p ≡ primed) × (x ≡ value)
one_test ds level var v primed p value x h k = (same, kinds primed p h here, values primed p h here)
  where
    three : (a b : ℕ) → (a < b) ⊎ (a ≡ b) ⊎ (b < a)
    three a b = grind arith

    apart : (a b : ℕ) (m n : Bool) (i j : ℕ) → IsTestOf ds level a m i → IsTestOf ds level b n j → a < b → ⊥
    apart a b m n i j f g q =
        let low = levels-between ds level b n j g in
        let high = levels-between ds level a m i f in
        let more : levels_of (take (a + 1) ds) ≤ levels_of (take b ds) = levels_below (a + 1) b ds (omega arith) in
        omega (arith, low.0, high.1)

    same : v ≡ var
    same = elim (three v var) [
      | inl q ↦ absurd (apart v var p primed x value k h q)
      | inr q ↦ elim q [ inl e ↦ e | inr u ↦ absurd (apart var v primed p value x h k u) ]
    ]

    here : IsTestOf ds level var p x
    here = subst (λ n. IsTestOf ds level n p x) same k

    kinds : (m n : Bool) → IsTestOf ds level var m value → IsTestOf ds level var n x → n ≡ m
    kinds true true f g = refl
    kinds false false f g = refl
    kinds true false f g =
        let a = level-primed ds var value in
        let b = level-plain ds var x g.var_in in
        absurd (omega (arith, a, b, f.level_is, g.level_is, f.value_in))
    kinds false true f g =
        let a = level-plain ds var value f.var_in in
        let b = level-primed ds var x in
        absurd (omega (arith, a, b, f.level_is, g.level_is, g.value_in))

    values : (m n : Bool) → IsTestOf ds level var m value → IsTestOf ds level var n x → x ≡ value
    values true true f g = let a = level-primed ds var value in let b = level-primed ds var x in omega (arith, a, b, f.level_is, g.level_is)
    values false false f g = let a = level-plain ds var value f.var_in in let b = level-plain ds var x f.var_in in omega (arith, a, b, f.level_is, g.level_is)
    values true false f g = let e = kinds true false f g in absurd (cc e)
    values false true f g = let e = kinds false true f g in absurd (cc e)
