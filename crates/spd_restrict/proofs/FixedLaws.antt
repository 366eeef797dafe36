-- How a cofactor goes on from an entry, and what it makes of a whole one.
use Rattle.std.proofs.Common.{◌≡◌, ℕ, zero, suc, ◌+◌, ◌*◌, ◌<◌, ◌≤◌, ◌≢◌, inl, inr, ◌==◌, Bool, true, false, List, [], ◌∷◌, length, set, refl, sym, ◌∙◌, ap, subst, arith}
use Rattle.std.specs.Prelude.{nat_lt}
use Rattle.std.proofs.lemmas.Bool.Decides.{nat_tests}
use Rattle.spd_cons_core.specs.declared.key.Entry.{Entry}
use Rattle.spd_nodes.specs.Levels.{slots, slot_of, IsSlot}
use Rattle.spd_nodes.specs.Trees.{Tree, Tests, Itself, InYes, InNo, value_at, IsReduced}
use Rattle.spd_model.specs.States.{IsState}
use Rattle.spd_nodes.specs.States.{point}
use Rattle.spd_nodes.specs.Shown.{Shown, IsSound, IsWhole, meaning}
use Rattle.spd_apply.specs.declared.rule.Below.TheVariants as B
use Rattle.spd_apply.specs.Rules.{Making, MayMeet, PlansBelow, PlansTest}
use Rattle.spd_restrict.specs.Restricted.{restricted, cofactored, IsUpTo, MayRestrict}
use Rattle.spd_nodes.proofs.CallerLemmas.{IsTreeFor, Parts, parts, IsState-point, rank-view}
use Rattle.spd_restrict.proofs.CofactorLaws.{Good, good-cofactored, can-cofactor, value_at-cofactored, up-to-from, up-to-at}

module _ (first end value : ℕ) (s : Shown) (o : IsSound s) (f g : Entry) (kf : s.knows f ≡ true) (may : MayRestrict first end value s.sizes (s.tree f))
    (twice : s.tree f ≡ s.tree g) where
  abbrev ds : List ℕ
  ds = slots s.sizes

  abbrev making : Making
  making t u = cofactored first end value t

  abbrev may-meet : Tree → Tree → Type 0
  may-meet t u = MayRestrict first end value s.sizes t × (t ≡ u)

  module _ (l : ℕ) (y n : Entry) (e : s.tree f ≡ Tests l (s.tree y) (s.tree n)) (ky : s.knows y ≡ true) (kn : s.knows n ≡ true) where
    reduced : IsReduced ds 0 (Tests l (s.tree y) (s.tree n))
    reduced = subst (λ t. IsReduced ds 0 t) e (o.reduced f kf)

    q : Parts ds l (s.tree y) (s.tree n)
    q = parts ds l (s.tree y) (s.tree n) reduced

    up : IsUpTo first end value (Tests l (s.tree y) (s.tree n))
    up = subst (λ t. IsUpTo first end value t) e may.up_to

    up-yes : IsUpTo first end value (s.tree y)
    up-yes = up-to-from ds may.slot first end value _ (s.tree y) may.is_slot q.yes_from

    up-no : (first ≤ l + 1 → l + 1 < end → l + 1 ≤ first + value) → IsUpTo first end value (s.tree n)
    up-no h = elim q.no_fits [ inl k ↦ up-to-from ds may.slot first end value _ (s.tree n) may.is_slot k | inr k ↦ up-to-at first end value (l + 1) (s.tree n) k.0 h ]

    go-on : (r : Entry) → s.knows r ≡ true → IsUpTo first end value (s.tree r) → MayMeet may-meet s r r
    go-on r k u = record { left = k; right = k; trees = (record { slot = may.slot; is_slot = may.is_slot; value_in = may.value_in; up_to = u }, refl) }

    pub plans-before : l < first → PlansTest making may-meet s f g l (B.Pair y y) (B.Pair n n)
    plans-before h =
        let t : nat_lt l first ≡ true = grind (arith, nat_tests) in
        let un : IsUpTo first end value (s.tree n) = up-no (λ j k. omega arith) in
        let smaller = rank-view s o f y n l kf e in
        record {
          level_in = q.level;
          is = rw (e, t) refl;
          can_test = can-cofactor ds may.slot first end may.is_slot value l (s.tree y) (s.tree n) q h
              (good-cofactored ds may.slot first end may.is_slot value (s.tree y) q.yes_reduced up-yes)
              (good-cofactored ds may.slot first end may.is_slot value (s.tree n) q.no_reduced un);
          yes_goes = go-on y ky up-yes;
          no_goes = go-on n kn un;
          yes_nodes = rw (sym twice, e) (InYes Itself, InYes Itself);
          no_nodes = rw (sym twice, e) (InNo Itself, InNo Itself);
          yes_smaller = omega (arith, smaller.0);
          no_smaller = omega (arith, smaller.1);
        }

    pub plans-no : first ≤ l → l < end → l ≢ first + value → PlansBelow making may-meet s f g (B.Pair n n)
    plans-no lo hi differ =
        let t : nat_lt l first ≡ false = grind (arith, nat_tests) in
        let u : nat_lt l end ≡ true = grind (arith, nat_tests) in
        let v : (l == first + value) ≡ false = grind (arith, nat_tests) in
        let w : l ≤ first + value = up lo hi in
        let smaller = rank-view s o f y n l kf e in
        record { is = rw (e, t, u, v) refl; goes = go-on n kn (up-no (λ j k. omega arith)); nodes = rw (sym twice, e) (InNo Itself, InNo Itself); smaller = omega (arith, smaller.1) }

-- writes to a point are writes to its states
pub set-primed : (sizes s t : List ℕ) (var v : ℕ) → IsState sizes s → IsState sizes t → var < length sizes → set (point s t) (2 * var + 0) v ≡ point s (set t var v)
set-primed [] s t var v p q h = absurd (omega arith)
set-primed (d ∷ ds) [] t var v p q h = absurd p
set-primed (d ∷ ds) (x ∷ s) [] var v p q h = absurd q
set-primed (d ∷ ds) (x ∷ s) (y ∷ t) zero v p q h = refl
set-primed (d ∷ ds) (x ∷ s) (y ∷ t) (suc var) v p q h =
    let e : 2 * suc var + 0 ≡ suc (suc (2 * var + 0)) = omega arith in
    rw e (ap (λ r. y ∷ x ∷ r) (set-primed ds s t var v p.1 q.1 (omega arith)))

set-plain : (sizes s t : List ℕ) (var v : ℕ) → IsState sizes s → IsState sizes t → var < length sizes → set (point s t) (2 * var + 1) v ≡ point (set s var v) t
set-plain [] s t var v p q h = absurd (omega arith)
set-plain (d ∷ ds) [] t var v p q h = absurd p
set-plain (d ∷ ds) (x ∷ s) [] var v p q h = absurd q
set-plain (d ∷ ds) (x ∷ s) (y ∷ t) zero v p q h = refl
set-plain (d ∷ ds) (x ∷ s) (y ∷ t) (suc var) v p q h =
    let e : 2 * suc var + 1 ≡ suc (suc (2 * var + 1)) = omega arith in
    rw e (ap (λ r. y ∷ x ∷ r) (set-plain ds s t var v p.1 q.1 (omega arith)))

module _ (first end value var : ℕ) (primed : Bool) (s : Shown) (o : IsSound s) (f : Entry) (kf : s.knows f ≡ true) (wf : IsWhole s f)
    (h : var < length s.sizes) (is : IsSlot (slots s.sizes) (slot_of var primed) first end) (v : first + value ≤ end) where
  up-whole : IsUpTo first end value (s.tree f)
  up-whole = up-to-from (slots s.sizes) (slot_of var primed) first end value 0 (s.tree f) is wf

  pub may-whole : MayRestrict first end value s.sizes (s.tree f)
  may-whole = record { slot = slot_of var primed; is_slot = is; value_in = v; up_to = up-whole }

  good : Good (slots s.sizes) (slot_of var primed) first end is value (s.tree f)
  good = good-cofactored (slots s.sizes) (slot_of var primed) first end is value (s.tree f) (o.reduced f kf) up-whole

  -- what is made is the tree of the function with the value held
  pub fixed-tree : IsTreeFor s (cofactored first end value (s.tree f)) (restricted var primed value (meaning s f))
  fixed-tree = record {
    reduced = good.reduced;
    whole = good.from 0 wf;
    value = record {
      at = λ x y i j.
          value_at-cofactored (slots s.sizes) (slot_of var primed) first end is value (s.tree f) (point x y) (o.reduced f kf) up-whole (IsState-point s.sizes x y i j)
          ∙ split primed x y i j;
    };
  }
    where
      split : (b : Bool) (x y : List ℕ) → IsState s.sizes x → IsState s.sizes y → value_at (slots s.sizes) 0 (s.tree f) (set (point x y) (slot_of var b) value) ≡ restricted var b value (meaning s f) x y
      split true x y i j = ap (value_at (slots s.sizes) 0 (s.tree f)) (set-primed s.sizes x y var value i j h)
      split false x y i j = ap (value_at (slots s.sizes) 0 (s.tree f)) (set-plain s.sizes x y var value i j h)
