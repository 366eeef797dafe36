-- The levels of one slot.
use Rattle.std.proofs.Common.{◌≡◌, ℕ, zero, suc, ◌+◌, ◌-◌, ◌*◌, ◌<◌, ◌≤◌, ◌==◌, Bool, true, false, cond, IsTrue, nat_eq, List, [], ◌∷◌, length, get_or, set, refl, sym, ◌∙◌, ap, arith}
use Rattle.std.specs.Prelude.{nat_lt}
use Rattle.std.proofs.lemmas.Bool.Decides.{Decides-eqb, nat_tests}
use Rattle.spd_model.specs.States.{IsState}
use Rattle.spd_nodes.specs.Levels.{passes, after, is_first, slots, slot_of, level_at, IsSlot, IsTestOf}
use Rattle.spd_nodes.specs.Trees.{Tree, Tests, IsFrom}

-- the slots after the first one
slot-tail : (d : ℕ) (ds : List ℕ) (slot first end : ℕ) → IsSlot (d ∷ ds) (suc slot) first end → IsSlot ds slot (first - (d - 1)) (end - (d - 1))
slot-tail d ds slot first end s = record { slot_in = omega (arith, s.slot_in); first_is = omega (arith, s.first_is); end_is = omega (arith, s.end_is, s.first_is) }

-- inside a slot, the first level after its tests is its end
pub after-in : (ds : List ℕ) (slot first end l : ℕ) → IsSlot ds slot first end → first ≤ l → l < end → after ds l ≡ end
after-in [] slot first end l s g h = absurd (omega (arith, s.slot_in))
after-in (d ∷ ds) zero first end l s g h =
    let e : nat_lt l (d - 1) ≡ true = grind (arith, nat_tests, s.first_is, s.end_is) in
    rw e (omega (arith, s.first_is, s.end_is))
after-in (d ∷ ds) (suc slot) first end l s g h =
    let e : nat_lt l (d - 1) ≡ false = grind (arith, nat_tests, s.first_is, s.end_is) in
    let i : after ds (l - (d - 1)) ≡ end - (d - 1) = after-in ds slot (first - (d - 1)) (end - (d - 1)) (l - (d - 1)) (slot-tail d ds slot first end s) (omega arith) (omega (arith, s.first_is)) in
    rw (e, i) (omega (arith, s.first_is, s.end_is))

-- before a slot, it is at most the slot's first level
pub after-before : (ds : List ℕ) (slot first end l : ℕ) → IsSlot ds slot first end → l < first → after ds l ≤ first
after-before [] slot first end l s h = absurd (omega (arith, s.slot_in))
after-before (d ∷ ds) zero first end l s h = absurd (omega (arith, s.first_is))
after-before (d ∷ ds) (suc slot) first end l s h = go (nat_lt l (d - 1)) refl (after-before ds slot (first - (d - 1)) (end - (d - 1)) (l - (d - 1)) (slot-tail d ds slot first end s))
  where
    go : (b : Bool) → nat_lt l (d - 1) ≡ b → (l - (d - 1) < first - (d - 1) → after ds (l - (d - 1)) ≤ first - (d - 1)) → cond b (d - 1) ((d - 1) + after ds (l - (d - 1))) ≤ first
    go true e i = omega (arith, s.first_is)
    go false e i =
        let q : d - 1 ≤ l = grind (arith, nat_tests) in
        let j : after ds (l - (d - 1)) ≤ first - (d - 1) = i (omega arith) in
        omega (arith, s.first_is)

-- of a slot's levels its first one alone tests a first value
pub first-in : (ds : List ℕ) (slot first end l : ℕ) → IsSlot ds slot first end → first ≤ l → l < end → is_first ds l ≡ true → l ≡ first
first-in [] slot first end l s g h f = absurd (omega (arith, s.slot_in))
first-in (d ∷ ds) zero first end l s g h f =
    let e : nat_lt l (d - 1) ≡ true = grind (arith, nat_tests, s.first_is, s.end_is) in
    let q : (l == 0) ≡ true = rw e at f in
    let z : l ≡ 0 = (Decides-eqb l 0).0 q in
    omega (arith, s.first_is)
first-in (d ∷ ds) (suc slot) first end l s g h f =
    let e : nat_lt l (d - 1) ≡ false = grind (arith, nat_tests, s.first_is, s.end_is) in
    let q : is_first ds (l - (d - 1)) ≡ true = rw e at f in
    let i : l - (d - 1) ≡ first - (d - 1) = first-in ds slot (first - (d - 1)) (end - (d - 1)) (l - (d - 1)) (slot-tail d ds slot first end s) (omega arith) (omega (arith, s.first_is)) q in
    omega (arith, s.first_is)

-- its first level tests a first value
pub first-is : (ds : List ℕ) (slot first end : ℕ) → IsSlot ds slot first end → first < end → is_first ds first ≡ true
first-is [] slot first end s h = absurd (omega (arith, s.slot_in))
first-is (d ∷ ds) zero first end s h =
    let z : first ≡ 0 = s.first_is in
    let e : nat_lt 0 (d - 1) ≡ true = grind (arith, nat_tests, s.end_is) in
    rw (z, e) refl
first-is (d ∷ ds) (suc slot) first end s h =
    let e : nat_lt first (d - 1) ≡ false = grind (arith, nat_tests, s.first_is) in
    rw (e, first-is ds slot (first - (d - 1)) (end - (d - 1)) (slot-tail d ds slot first end s) (omega (arith, s.first_is, s.end_is))) refl

-- inside the slot, a point with the slot at a value passes the test of that value alone
pub passes-in : (ds : List ℕ) (slot first end l value : ℕ) (p : List ℕ) → IsSlot ds slot first end → first ≤ l → l < end → IsState ds p → passes ds l (set p slot value) ≡ (value == l - first)
passes-in [] slot first end l value p s g h i = absurd (omega (arith, s.slot_in))
passes-in (d ∷ ds) slot first end l value [] s g h i = absurd i
passes-in (d ∷ ds) zero first end l value (x ∷ p) s g h i =
    let e : nat_lt l (d - 1) ≡ true = grind (arith, nat_tests, s.first_is, s.end_is) in
    let q : l - first ≡ l = omega (arith, s.first_is) in
    rw (e, q) refl
passes-in (d ∷ ds) (suc slot) first end l value (x ∷ p) s g h i =
    let e : nat_lt l (d - 1) ≡ false = grind (arith, nat_tests, s.first_is, s.end_is) in
    let q : (l - (d - 1)) - (first - (d - 1)) ≡ l - first = omega (arith, s.first_is) in
    let r : passes ds (l - (d - 1)) (set p slot value) ≡ (value == (l - (d - 1)) - (first - (d - 1))) = passes-in ds slot (first - (d - 1)) (end - (d - 1)) (l - (d - 1)) value p (slot-tail d ds slot first end s) (omega arith) (omega (arith, s.first_is)) i.1 in
    rw e (r ∙ ap (λ v. value == v) q)

-- outside the slot it passes what it passed
pub passes-before : (ds : List ℕ) (slot first end l value : ℕ) (p : List ℕ) → IsSlot ds slot first end → l < first → passes ds l (set p slot value) ≡ passes ds l p
passes-before [] slot first end l value p s h = refl
passes-before (d ∷ ds) slot first end l value [] s h = refl
passes-before (d ∷ ds) zero first end l value (x ∷ p) s h = absurd (omega (arith, s.first_is))
passes-before (d ∷ ds) (suc slot) first end l value (x ∷ p) s h =
    go (nat_lt l (d - 1)) refl (passes-before ds slot (first - (d - 1)) (end - (d - 1)) (l - (d - 1)) value p (slot-tail d ds slot first end s))
  where
    go : (b : Bool) → nat_lt l (d - 1) ≡ b → (l - (d - 1) < first - (d - 1) → passes ds (l - (d - 1)) (set p slot value) ≡ passes ds (l - (d - 1)) p)
        → cond b (x == l) (passes ds (l - (d - 1)) (set p slot value)) ≡ cond b (x == l) (passes ds (l - (d - 1)) p)
    go true e i = refl
    go false e i =
        let q : d - 1 ≤ l = grind (arith, nat_tests) in
        i (omega arith)

pub passes-past : (ds : List ℕ) (slot first end l value : ℕ) (p : List ℕ) → IsSlot ds slot first end → end ≤ l → passes ds l (set p slot value) ≡ passes ds l p
passes-past [] slot first end l value p s h = refl
passes-past (d ∷ ds) slot first end l value [] s h = refl
passes-past (d ∷ ds) zero first end l value (x ∷ p) s h =
    let e : nat_lt l (d - 1) ≡ false = grind (arith, nat_tests, s.first_is, s.end_is) in
    rw e refl
passes-past (d ∷ ds) (suc slot) first end l value (x ∷ p) s h =
    let e : nat_lt l (d - 1) ≡ false = grind (arith, nat_tests, s.first_is, s.end_is) in
    rw e (passes-past ds slot (first - (d - 1)) (end - (d - 1)) (l - (d - 1)) value p (slot-tail d ds slot first end s) (omega (arith, s.first_is, s.end_is)))

slot-size : (ds : List ℕ) (var b : ℕ) → b < 2 → var < length ds → (2 * var + b < length (slots ds)) × (get_or (slots ds) (2 * var + b) 0 ≡ get_or ds var 0)
slot-size [] var b g h = absurd (omega arith)
slot-size (d ∷ ds) zero zero g h = (omega arith, refl)
slot-size (d ∷ ds) zero (suc zero) g h = (omega arith, refl)
slot-size (d ∷ ds) zero (suc (suc b)) g h = absurd (omega arith)
slot-size (d ∷ ds) (suc var) b g h =
    let e : 2 * suc var + b ≡ suc (suc (2 * var + b)) = omega arith in
    let i = slot-size ds var b g (omega arith) in
    rw e (omega (arith, i.0), i.1)

pub slot-of : (sizes : List ℕ) (var first end : ℕ) (primed : Bool) → var < length sizes → first ≡ level_at sizes var primed 0 → end ≡ first + (get_or sizes var 0 - 1) → IsSlot (slots sizes) (slot_of var primed) first end
slot-of sizes var first end true h f e =
    let i = slot-size sizes var 0 (omega arith) h in
    record { slot_in = i.0; first_is = omega (arith, f); end_is = rw i.1 e }
slot-of sizes var first end false h f e =
    let i = slot-size sizes var 1 (omega arith) h in
    record { slot_in = i.0; first_is = omega (arith, f); end_is = rw i.1 e }

slot-test : (sizes : List ℕ) (l var v : ℕ) (primed : Bool) → IsTestOf sizes l var primed v
    → IsSlot (slots sizes) (slot_of var primed) (level_at sizes var primed 0) (level_at sizes var primed 0 + (get_or sizes var 0 - 1))
slot-test sizes l var v primed t = slot-of sizes var _ _ primed t.var_in refl refl

-- the test of a first value, and no other one, is first
pub first-test : (sizes : List ℕ) (l var v : ℕ) (primed : Bool) → IsTestOf sizes l var primed v → v ≡ 0 → is_first (slots sizes) l ≡ true
first-test sizes l var v primed t z =
    let e : level_at sizes var primed 0 ≡ l = ap (level_at sizes var primed) (sym z) ∙ t.level_is in
    let i : is_first (slots sizes) (level_at sizes var primed 0) ≡ true = first-is (slots sizes) (slot_of var primed) _ _ (slot-test sizes l var v primed t) (omega (arith, t.value_in)) in
    rw e at i

-- the end of the tests of a level's variable and kind
pub end-test : (sizes : List ℕ) (l var v end : ℕ) (primed : Bool) → IsTestOf sizes l var primed v → end ≡ level_at sizes var primed 0 + (get_or sizes var 0 - 1) → end ≡ after (slots sizes) l
end-test sizes l var v end primed t e =
    e ∙ sym (after-in (slots sizes) (slot_of var primed) _ _ l (slot-test sizes l var v primed t) (omega (arith, t.level_is)) (omega (arith, t.level_is, t.value_in)))

pub test-first : (sizes : List ℕ) (l var v : ℕ) (primed : Bool) → IsTestOf sizes l var primed v → is_first (slots sizes) l ≡ true → v ≡ 0
test-first sizes l var v primed t f =
    let e : l ≡ level_at sizes var primed 0 = first-in (slots sizes) (slot_of var primed) _ _ l (slot-test sizes l var v primed t) (omega (arith, t.level_is)) (omega (arith, t.level_is, t.value_in)) f in
    omega (arith, e, t.level_is)

-- a test is whole, from a level on, where it asks for a first value and isn't before the level
pub from-test : (sizes : List ℕ) (l var v end : ℕ) (primed : Bool) (y n : Tree) → IsTestOf sizes l var primed v → end ≤ l
    → (IsTrue (nat_eq v 0) → IsFrom (slots sizes) 0 end (Tests l y n)) × (IsFrom (slots sizes) 0 end (Tests l y n) → IsTrue (nat_eq v 0))
from-test sizes l var v end primed y n t h =
    let z : l - 0 ≡ l = omega arith in (
      λ e. (h, rw z (first-test sizes l var v primed t ((Decides-eqb v 0).0 e))),
      λ f. (Decides-eqb v 0).1 (test-first sizes l var v primed t (rw z at f.1)),
    )
