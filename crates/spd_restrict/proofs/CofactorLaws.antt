-- A tree with one slot at a value has the tree's values there, and is reduced.
use Rattle.std.proofs.Common.{◌≡◌, ℕ, ◌+◌, ◌-◌, ◌<◌, ◌≤◌, ◌≢◌, inl, inr, ◌==◌, Bool, true, false, cond, List, set, refl, sym, ◌∙◌, subst, arith, true≢false}
use Rattle.std.specs.Prelude.{nat_lt}
use Rattle.std.proofs.lemmas.Bool.{ne_eqb}
use Rattle.std.proofs.lemmas.Bool.Decides.{Decides-eqb, nat_tests}
use Rattle.spd_model.specs.States.{IsState}
use Rattle.spd_nodes.specs.Levels.{passes, after, IsSlot}
use Rattle.spd_nodes.specs.Trees.{Tree, Ends, Tests, value_at, IsFrom, IsAt, IsReduced, CanTest, join, IsAtOrPast}
use Rattle.spd_nodes.proofs.CallerLemmas.{Parts, parts, first0, after-next, Joins, joins, IsFrom-at, IsFrom-lower, after-in, after-before, first-in, passes-in, passes-before, passes-past, after_above, value_at-join}
use Rattle.spd_restrict.specs.Restricted.{cofactored, IsUpTo}

-- the root isn't below a level
abbrev pub RootFrom : ℕ → Tree → Type 0
RootFrom e (Ends a) = Unit {0}
RootFrom e (Tests l y n) = e ≤ l

pub root-from : (ds : List ℕ) (e k : ℕ) (t : Tree) → e ≤ k → IsFrom ds 0 k t → RootFrom e t
root-from ds e k (Ends a) h f = tt
root-from ds e k (Tests l y n) h f = omega (arith, f.0)

pub root-at : (e k : ℕ) (t : Tree) → e ≤ k → IsAt k t → RootFrom e t
root-at e k (Ends a) h f = tt
root-at e k (Tests l y n) h f = omega (arith, f)

pub up-to-from : (ds : List ℕ) (slot first end value k : ℕ) (t : Tree) → IsSlot ds slot first end → IsFrom ds 0 k t → IsUpTo first end value t
up-to-from ds slot first end value k (Ends a) s f = tt
up-to-from ds slot first end value k (Tests l y n) s f = λ g h. let e : l ≡ first = first-in ds slot first end l s g h (first0 ds l f.1) in omega arith

pub up-to-at : (first end value k : ℕ) (t : Tree) → IsAt k t → (first ≤ k → k < end → k ≤ first + value) → IsUpTo first end value t
up-to-at first end value k (Ends a) f h = tt
up-to-at first end value k (Tests l y n) f h = λ g i. let j : k ≤ first + value = h (omega (arith, f)) (omega (arith, f)) in omega (arith, f)

module _ (ds : List ℕ) (slot first end : ℕ) (s : IsSlot ds slot first end) where
  -- a tree past the slot has the same value whatever the slot's value is
  value-past : (t : Tree) (value : ℕ) (p : List ℕ) → IsReduced ds 0 t → RootFrom end t → value_at ds 0 t (set p slot value) ≡ value_at ds 0 t p
  value-past (Ends a) value p r f = refl
  value-past (Tests l y n) value p r f =
      let q : Parts ds l y n = parts ds l y n r in
      let z : l - 0 ≡ l = omega arith in
      let above : l < after ds l = after_above ds l q.level in
      let e : passes ds (l - 0) (set p slot value) ≡ passes ds (l - 0) p = rw z (passes-past ds slot first end l value p s f) in
      let ry : RootFrom end y = root-from ds end (after ds l) y (omega arith) q.yes_from in
      let rn : RootFrom end n = elim q.no_fits [ inl g ↦ root-from ds end (after ds l) n (omega arith) g | inr g ↦ root-at end (l + 1) n (omega arith) g.0 ] in
      rw (e, value-past y value p q.yes_reduced ry, value-past n value p q.no_reduced rn) refl

  module _ (value : ℕ) where
    cof : Tree → Tree
    cof t = cofactored first end value t

    -- the tree at the slot's value has the tree's value at each point with that value
    pub value_at-cofactored : (t : Tree) (p : List ℕ) → IsReduced ds 0 t → IsUpTo first end value t → IsState ds p → value_at ds 0 (cofactored first end value t) p ≡ value_at ds 0 t (set p slot value)
    value_at-cofactored (Ends a) p r u i = refl
    value_at-cofactored (Tests l y n) p r u i =
        go (nat_lt l first) (nat_lt l end) (l == first + value) refl refl refl
        (λ h. value_at-cofactored y p q.yes_reduced (up-to-from ds slot first end value (after ds l) y s q.yes_from) i)
        (λ h. value_at-cofactored n p q.no_reduced (elim q.no_fits [ inl g ↦ up-to-from ds slot first end value (after ds l) n s g | inr g ↦ up-to-at first end value (l + 1) n g.0 h ]) i)
      where
        q : Parts ds l y n
        q = parts ds l y n r

        Same : Tree → Type 0
        Same t = value_at ds 0 (cofactored first end value t) p ≡ value_at ds 0 t (set p slot value)

        go : (a b c : Bool) → nat_lt l first ≡ a → nat_lt l end ≡ b → (l == first + value) ≡ c
            → (Unit {0} → value_at ds 0 (cofactored first end value y) p ≡ value_at ds 0 y (set p slot value))
            → ((first ≤ l + 1 → l + 1 < end → l + 1 ≤ first + value) → value_at ds 0 (cofactored first end value n) p ≡ value_at ds 0 n (set p slot value))
            → value_at ds 0 (cond a (join l (cofactored first end value y) (cofactored first end value n)) (cond b (cond c y (cofactored first end value n)) (Tests l y n))) p
            ≡ value_at ds 0 (Tests l y n) (set p slot value)
        go true b c ea eb ec iy inn =
            let z : l - 0 ≡ l = omega arith in
            let h : l < first = grind (arith, nat_tests) in
            let e : passes ds (l - 0) (set p slot value) ≡ passes ds (l - 0) p = rw z (passes-before ds slot first end l value p s h) in
            value_at-join ds 0 l (cofactored first end value y) (cofactored first end value n) p
            ∙ rw (e, iy tt, inn (λ j k. omega arith)) refl
        go false true true ea eb ec iy inn =
            let z : l - 0 ≡ l = omega arith in
            let lo : first ≤ l = grind (arith, nat_tests) in
            let hi : l < end = grind (arith, nat_tests) in
            let at : l ≡ first + value = (Decides-eqb l (first + value)).0 ec in
            let v : (value == l - first) ≡ true = (Decides-eqb value (l - first)).1 (omega arith) in
            let e : passes ds (l - 0) (set p slot value) ≡ true = rw z (passes-in ds slot first end l value p s lo hi i ∙ v) in
            let a : after ds l ≡ end = after-in ds slot first end l s lo hi in
            rw e (sym (value-past y value p q.yes_reduced (root-from ds end (after ds l) y (omega arith) q.yes_from)))
        go false true false ea eb ec iy inn =
            let z : l - 0 ≡ l = omega arith in
            let lo : first ≤ l = grind (arith, nat_tests) in
            let hi : l < end = grind (arith, nat_tests) in
            let up : l ≤ first + value = u lo hi in
            let differ : l ≢ first + value = λ k. true≢false (sym ((Decides-eqb l (first + value)).1 k) ∙ ec) in
            let v : (value == l - first) ≡ false = ne_eqb value (l - first) (λ k. differ (omega arith)) in
            let e : passes ds (l - 0) (set p slot value) ≡ false = rw z (passes-in ds slot first end l value p s lo hi i ∙ v) in
            rw e (inn (λ j k. omega arith))
        go false false c ea eb ec iy inn =
            let hi : end ≤ l = grind (arith, nat_tests) in
            sym (value-past (Tests l y n) value p r hi)

    -- what holds of the tree at the slot's value
    pub record Good (t : Tree) : Type 0 where
      pub reduced : IsReduced ds 0 (cofactored first end value t)
      pub from : (e : ℕ) → IsFrom ds 0 e t → IsFrom ds 0 e (cofactored first end value t)
      pub fits : (k : ℕ) → k < first → IsAt k t → IsAtOrPast ds k (cofactored first end value t)
      pub inside : (k : ℕ) → first ≤ k → k < end → IsAt k t → IsFrom ds 0 end (cofactored first end value t)

    record GoodAs (l : ℕ) (y n t : Tree) : Type 0 where
      reduced : IsReduced ds 0 t
      from : (e : ℕ) → IsFrom ds 0 e (Tests l y n) → IsFrom ds 0 e t
      fits : (k : ℕ) → k < first → l ≡ k → IsAtOrPast ds k t
      inside : (k : ℕ) → first ≤ k → k < end → l ≡ k → IsFrom ds 0 end t

    good-as : (l : ℕ) (y n : Tree) → GoodAs l y n (cofactored first end value (Tests l y n)) → Good (Tests l y n)
    good-as l y n g = record { reduced = g.reduced; from = g.from; fits = g.fits; inside = g.inside }

    -- a test before the slot goes on to such trees
    pub can-cofactor : (l : ℕ) (y n : Tree) → Parts ds l y n → l < first → Good y → Good n → CanTest ds l (cofactored first end value y) (cofactored first end value n)
    can-cofactor l y n q h gy gn = record {
      yes_fits = gy.from (after ds l) q.yes_from;
      no_fits = elim q.no_fits [
        | inl g ↦ inl (gn.from (after ds l) g)
        | inr g ↦ elim (gn.fits (l + 1) (omega (arith, g.1, after-before ds slot first end l s h)) g.0) [ inl a ↦ inl (rw (after-next ds l g.1) at a) | inr a ↦ inr (a, g.1) ]
      ];
    }

    pub good-cofactored : (t : Tree) → IsReduced ds 0 t → IsUpTo first end value t → Good t
    good-cofactored (Ends a) r u = record { reduced = tt; from = λ e f. tt; fits = λ k h f. absurd f; inside = λ k g h f. absurd f }
    good-cofactored (Tests l y n) r u = good-as l y n (
        go (nat_lt l first) (nat_lt l end) (l == first + value) refl refl refl
        (good-cofactored y q.yes_reduced (up-to-from ds slot first end value (after ds l) y s q.yes_from))
        (λ h. good-cofactored n q.no_reduced (elim q.no_fits [ inl g ↦ up-to-from ds slot first end value (after ds l) n s g | inr g ↦ up-to-at first end value (l + 1) n g.0 h ])))
      where
        q : Parts ds l y n
        q = parts ds l y n r

        go : (a b c : Bool) → nat_lt l first ≡ a → nat_lt l end ≡ b → (l == first + value) ≡ c → Good y → ((first ≤ l + 1 → l + 1 < end → l + 1 ≤ first + value) → Good n)
            → GoodAs l y n (cond a (join l (cofactored first end value y) (cofactored first end value n)) (cond b (cond c y (cofactored first end value n)) (Tests l y n)))
        go true b c ea eb ec gy gn =
            let h : l < first = grind (arith, nat_tests) in
            let g : Good n = gn (λ j k. omega arith) in
            let j : Joins ds l (join l (cofactored first end value y) (cofactored first end value n)) = joins ds l _ _ q.level gy.reduced g.reduced (can-cofactor l y n q h gy g) in
            let above : l < after ds l = after_above ds l q.level in
            record {
              reduced = j.reduced;
              from = λ e f. elim j.fits [
                | inl k ↦ IsFrom-lower ds e (after ds l) _ (omega (arith, f.0)) k
                | inr k ↦ IsFrom-at ds e l _ f.0 (first0 ds l f.1) k
              ];
              fits = λ k i e. subst (λ v. IsAtOrPast ds v (join l (cofactored first end value y) (cofactored first end value n))) e j.fits;
              inside = λ k i m e. absurd (omega arith);
            }
        go false true true ea eb ec gy gn =
            let lo : first ≤ l = grind (arith, nat_tests) in
            let hi : l < end = grind (arith, nat_tests) in
            let a : after ds l ≡ end = after-in ds slot first end l s lo hi in
            let f : IsFrom ds 0 end y = rw a at q.yes_from in
            record {
              reduced = q.yes_reduced;
              from = λ e g. IsFrom-lower ds e end y (omega (arith, g.0)) f;
              fits = λ k i e. absurd (omega arith);
              inside = λ k i m e. f;
            }
        go false true false ea eb ec gy gn =
            let lo : first ≤ l = grind (arith, nat_tests) in
            let hi : l < end = grind (arith, nat_tests) in
            let up : l ≤ first + value = u lo hi in
            let differ : l ≢ first + value = λ k. true≢false (sym ((Decides-eqb l (first + value)).1 k) ∙ ec) in
            let a : after ds l ≡ end = after-in ds slot first end l s lo hi in
            let g : Good n = gn (λ j k. omega arith) in
            let f : IsFrom ds 0 end (cofactored first end value n) = elim q.no_fits [
              | inl k ↦ g.from end (rw a at k)
              | inr k ↦ g.inside (l + 1) (omega arith) (omega (arith, k.1)) k.0
            ] in
            record {
              reduced = g.reduced;
              from = λ e m. IsFrom-lower ds e end (cofactored first end value n) (omega (arith, m.0)) f;
              fits = λ k i e. absurd (omega arith);
              inside = λ k i m e. f;
            }
        go false false c ea eb ec gy gn =
            let hi : end ≤ l = grind (arith, nat_tests) in
            record {
              reduced = r;
              from = λ e f. f;
              fits = λ k i e. absurd (omega (arith, s.end_is));
              inside = λ k i m e. absurd (omega arith);
            }
