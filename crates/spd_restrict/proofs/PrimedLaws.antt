-- A tree with each plain test primed has the tree's values at the next state, and is reduced.
use Rattle.std.proofs.Common.{◌≡◌, ℕ, zero, suc, ◌+◌, ◌-◌, ◌*◌, ◌<◌, ◌≤◌, ◌⊎◌, inl, inr, ◌==◌, Bool, true, false, cond, List, [], ◌∷◌, length, get_or, take, refl, sym, ◌∙◌, ap, subst, arith, true≢false}
use Rattle.std.specs.Prelude.{nat_lt}
use Rattle.std.proofs.lemmas.Bool.Decides.{nat_tests}
use Rattle.spd_cons_core.specs.declared.key.Entry.{Entry}
use Rattle.spd_nodes.specs.Levels.{levels_of, passes, after, is_first, slots, level_at, IsTestOf}
use Rattle.spd_nodes.specs.Trees.{Tree, Ends, Tests, Itself, InYes, InNo, value_at, IsFrom, IsAt, IsReduced, CanTest, join, IsAtOrPast}
use Rattle.spd_model.specs.States.{IsState}
use Rattle.spd_nodes.specs.States.{point}
use Rattle.spd_nodes.specs.Shown.{Shown, IsSound, IsWhole, meaning}
use Rattle.spd_apply.specs.declared.rule.Below.TheVariants as B
use Rattle.spd_apply.specs.Rules.{Making, PlansTest}
use Rattle.spd_nodes.proofs.CallerLemmas.{IsTreeFor, first0, after-next, Joins, joins, IsFrom-at, IsFrom-lower, Parts, parts, after_above, level-plain, level-primed, rank-view, value_at-join}
use Rattle.spd_restrict.specs.Primed.{primed, is_plain_level, primed_level, TestsNoPrimed, primed_tree, MayPrime}

-- Levels in the first variable's two slots, and past them. `a` is its number of tests.
module _ (d l : ℕ) where
  past-one : 2 * (d - 1) ≤ l → nat_lt l (d - 1) ≡ false
  past-one h = grind (arith, nat_tests)

  past-two : 2 * (d - 1) ≤ l → nat_lt (l - (d - 1)) (d - 1) ≡ false
  past-two h = grind (arith, nat_tests)

  both-past : (l - (d - 1)) - (d - 1) ≡ l - 2 * (d - 1)
  both-past = omega arith

  in-plain : d - 1 ≤ l → l < 2 * (d - 1) → nat_lt (l - (d - 1)) (d - 1) ≡ true
  in-plain g h = grind (arith, nat_tests)

  not-primed : d - 1 ≤ l → nat_lt l (d - 1) ≡ false
  not-primed h = grind (arith, nat_tests)

-- where a plain level stands: in the first variable's plain slot, or past it
plain-cases : (d : ℕ) (ds : List ℕ) (l : ℕ) → is_plain_level (d ∷ ds) l ≡ true
    → ((d - 1 ≤ l) × (l < 2 * (d - 1)) × (primed_level (d ∷ ds) l ≡ l - (d - 1)))
    ⊎ ((2 * (d - 1) ≤ l) × (is_plain_level ds (l - 2 * (d - 1)) ≡ true) × (primed_level (d ∷ ds) l ≡ 2 * (d - 1) + primed_level ds (l - 2 * (d - 1))))
plain-cases d ds l h = go (nat_lt l (d - 1)) (nat_lt l (2 * (d - 1))) refl refl h
  where
    go : (a b : Bool) → nat_lt l (d - 1) ≡ a → nat_lt l (2 * (d - 1)) ≡ b → cond a false (cond b true (is_plain_level ds (l - 2 * (d - 1)))) ≡ true
        → ((d - 1 ≤ l) × (l < 2 * (d - 1)) × (cond (nat_lt l (2 * (d - 1))) (l - (d - 1)) (2 * (d - 1) + primed_level ds (l - 2 * (d - 1))) ≡ l - (d - 1)))
        ⊎ ((2 * (d - 1) ≤ l) × (is_plain_level ds (l - 2 * (d - 1)) ≡ true) × (cond (nat_lt l (2 * (d - 1))) (l - (d - 1)) (2 * (d - 1) + primed_level ds (l - 2 * (d - 1))) ≡ 2 * (d - 1) + primed_level ds (l - 2 * (d - 1))))
    go true b e f k = absurd (true≢false (sym k))
    go false true e f k = inl (grind (arith, nat_tests), grind (arith, nat_tests), rw f refl)
    go false false e f k = inr (grind (arith, nat_tests), k, rw f refl)

passes-primed : (ds s t u : List ℕ) (l : ℕ) → IsState ds s → IsState ds t → IsState ds u → is_plain_level ds l ≡ true → passes (slots ds) (primed_level ds l) (point s t) ≡ passes (slots ds) l (point t u)
passes-primed [] s t u l p q r h = absurd (true≢false (sym h))
passes-primed (d ∷ ds) [] t u l p q r h = absurd p
passes-primed (d ∷ ds) (x ∷ s) [] u l p q r h = absurd q
passes-primed (d ∷ ds) (x ∷ s) (y ∷ t) [] l p q r h = absurd r
passes-primed (d ∷ ds) (x ∷ s) (y ∷ t) (z ∷ u) l p q r h = go (plain-cases d ds l h) (passes-primed ds s t u (l - 2 * (d - 1)) p.1 q.1 r.1)
  where
    go : ((d - 1 ≤ l) × (l < 2 * (d - 1)) × (primed_level (d ∷ ds) l ≡ l - (d - 1)))
        ⊎ ((2 * (d - 1) ≤ l) × (is_plain_level ds (l - 2 * (d - 1)) ≡ true) × (primed_level (d ∷ ds) l ≡ 2 * (d - 1) + primed_level ds (l - 2 * (d - 1))))
        → (is_plain_level ds (l - 2 * (d - 1)) ≡ true → passes (slots ds) (primed_level ds (l - 2 * (d - 1))) (point s t) ≡ passes (slots ds) (l - 2 * (d - 1)) (point t u))
        → passes (d ∷ d ∷ slots ds) (primed_level (d ∷ ds) l) (y ∷ x ∷ point s t) ≡ passes (d ∷ d ∷ slots ds) l (z ∷ y ∷ point t u)
    go (inl k) i =
        let a : nat_lt (l - (d - 1)) (d - 1) ≡ true = in-plain d l k.0 k.1 in
        let b : nat_lt l (d - 1) ≡ false = not-primed d l k.0 in
        subst (λ v. passes (d ∷ d ∷ slots ds) v (y ∷ x ∷ point s t) ≡ passes (d ∷ d ∷ slots ds) l (z ∷ y ∷ point t u)) (sym k.2) (rw (a, b) refl)
    go (inr k) i =
        let m : ℕ = 2 * (d - 1) + primed_level ds (l - 2 * (d - 1)) in
        let a : nat_lt m (d - 1) ≡ false = past-one d m (omega arith) in
        let b : nat_lt (m - (d - 1)) (d - 1) ≡ false = past-two d m (omega arith) in
        let c : (m - (d - 1)) - (d - 1) ≡ primed_level ds (l - 2 * (d - 1)) = omega arith in
        let e : nat_lt l (d - 1) ≡ false = past-one d l k.0 in
        let f : nat_lt (l - (d - 1)) (d - 1) ≡ false = past-two d l k.0 in
        let j : passes (d ∷ d ∷ slots ds) m (y ∷ x ∷ point s t) ≡ passes (slots ds) (primed_level ds (l - 2 * (d - 1))) (point s t) = rw (a, b, c) refl in
        let n : passes (d ∷ d ∷ slots ds) l (z ∷ y ∷ point t u) ≡ passes (slots ds) (l - 2 * (d - 1)) (point t u) = rw (e, f, both-past d l) refl in
        ap (λ v. passes (d ∷ d ∷ slots ds) v (y ∷ x ∷ point s t)) k.2 ∙ j ∙ i k.1 ∙ sym n

-- the first level after a plain test's slot, in the first variable's slots and past them
after-here : (d : ℕ) (ds : List ℕ) (l : ℕ) → d - 1 ≤ l → l < 2 * (d - 1) → after (d ∷ d ∷ slots ds) l ≡ 2 * (d - 1)
after-here d ds l g h =
    let a : nat_lt (l - (d - 1)) (d - 1) ≡ true = in-plain d l g h in
    let b : nat_lt l (d - 1) ≡ false = not-primed d l g in
    rw (b, a) (omega arith)

after-primed : (d : ℕ) (ds : List ℕ) (l : ℕ) → l < d - 1 → after (d ∷ d ∷ slots ds) l ≡ d - 1
after-primed d ds l h = let a : nat_lt l (d - 1) ≡ true = grind (arith, nat_tests) in rw a refl

after-there : (d : ℕ) (ds : List ℕ) (l : ℕ) → 2 * (d - 1) ≤ l → after (d ∷ d ∷ slots ds) l ≡ 2 * (d - 1) + after (slots ds) (l - 2 * (d - 1))
after-there d ds l h = rw (past-one d l h, past-two d l h, both-past d l) (omega arith)

first-there : (d : ℕ) (ds : List ℕ) (l : ℕ) → 2 * (d - 1) ≤ l → is_first (d ∷ d ∷ slots ds) l ≡ is_first (slots ds) (l - 2 * (d - 1))
first-there d ds l h = rw (past-one d l h, past-two d l h, both-past d l) refl

-- a plain level past a test's slot is past it when both are primed
after-before : (ds : List ℕ) (l k : ℕ) → is_plain_level ds l ≡ true → is_plain_level ds k ≡ true → after (slots ds) l ≤ k → after (slots ds) (primed_level ds l) ≤ primed_level ds k
after-before [] l k h i q = absurd (true≢false (sym h))
after-before (d ∷ ds) l k h i q = elim (plain-cases d ds l h) [
  | inl a ↦ elim (plain-cases d ds k i) [
    | inl b ↦ absurd (omega (arith, after-here d ds l a.0 a.1))
    | inr b ↦ rw (a.2, b.2) (omega (arith, after-primed d ds (l - (d - 1)) (omega arith)))
  ]
  | inr a ↦ elim (plain-cases d ds k i) [
    | inl b ↦ absurd (omega (arith, after-there d ds l a.0))
    | inr b ↦ (
        let j : after (slots ds) (primed_level ds (l - 2 * (d - 1))) ≤ primed_level ds (k - 2 * (d - 1)) = after-before ds (l - 2 * (d - 1)) (k - 2 * (d - 1)) a.1 b.1 (omega (arith, after-there d ds l a.0)) in
        let m : (2 * (d - 1) + primed_level ds (l - 2 * (d - 1))) - 2 * (d - 1) ≡ primed_level ds (l - 2 * (d - 1)) = omega arith in
        rw (a.2, b.2) (rw (after-there d ds (2 * (d - 1) + primed_level ds (l - 2 * (d - 1))) (omega arith), m) (omega arith))
        )
  ]
]

-- the plain test after a plain one is primed as the next one
next-primed : (ds : List ℕ) (l : ℕ) → is_plain_level ds l ≡ true → l + 1 < after (slots ds) l → is_plain_level ds (l + 1) ≡ true
    → (primed_level ds (l + 1) ≡ primed_level ds l + 1) × (primed_level ds l + 1 < after (slots ds) (primed_level ds l))
next-primed [] l h q i = absurd (true≢false (sym h))
next-primed (d ∷ ds) l h q i = elim (plain-cases d ds l h) [
  | inl a ↦ elim (plain-cases d ds (l + 1) i) [
    | inl b ↦ rw (a.2, b.2) (omega arith, omega (arith, after-primed d ds (l - (d - 1)) (omega arith)))
    | inr b ↦ absurd (omega (arith, after-here d ds l a.0 a.1))
  ]
  | inr a ↦ elim (plain-cases d ds (l + 1) i) [
    | inl b ↦ absurd (omega arith)
    | inr b ↦ (
        let e : (l + 1) - 2 * (d - 1) ≡ (l - 2 * (d - 1)) + 1 = omega arith in
        let k : is_plain_level ds ((l - 2 * (d - 1)) + 1) ≡ true = rw e at b.1 in
        let j = next-primed ds (l - 2 * (d - 1)) a.1 (omega (arith, after-there d ds l a.0)) k in
        let f : primed_level (d ∷ ds) (l + 1) ≡ 2 * (d - 1) + primed_level ds ((l - 2 * (d - 1)) + 1) = b.2 ∙ ap (λ v. 2 * (d - 1) + primed_level ds v) e in
        let m : (2 * (d - 1) + primed_level ds (l - 2 * (d - 1))) - 2 * (d - 1) ≡ primed_level ds (l - 2 * (d - 1)) = omega arith in
        rw (f, a.2) (omega (arith, j.0), rw (after-there d ds (2 * (d - 1) + primed_level ds (l - 2 * (d - 1))) (omega arith), m) (omega (arith, j.1)))
        )
  ]
]

-- the test of a first value is primed as one
first-primed : (ds : List ℕ) (l : ℕ) → is_plain_level ds l ≡ true → is_first (slots ds) l ≡ true → is_first (slots ds) (primed_level ds l) ≡ true
first-primed [] l h q = absurd (true≢false (sym h))
first-primed (d ∷ ds) l h q = elim (plain-cases d ds l h) [
  | inl a ↦ (
      let t : nat_lt (l - (d - 1)) (d - 1) ≡ true = in-plain d l a.0 a.1 in
      let b : nat_lt l (d - 1) ≡ false = not-primed d l a.0 in
      let z : (l - (d - 1) == 0) ≡ true = rw (b, t) at q in
      rw (a.2, t) z
      )
  | inr a ↦ (
      let j : is_first (slots ds) (primed_level ds (l - 2 * (d - 1))) ≡ true = first-primed ds (l - 2 * (d - 1)) a.1 (sym (first-there d ds l a.0) ∙ q) in
      let m : (2 * (d - 1) + primed_level ds (l - 2 * (d - 1))) - 2 * (d - 1) ≡ primed_level ds (l - 2 * (d - 1)) = omega arith in
      rw a.2 (first-there d ds (2 * (d - 1) + primed_level ds (l - 2 * (d - 1))) (omega arith) ∙ ap (is_first (slots ds)) m ∙ j)
      )
]

primed-below : (ds : List ℕ) (l : ℕ) → is_plain_level ds l ≡ true → primed_level ds l ≤ l
primed-below [] l h = absurd (true≢false (sym h))
primed-below (d ∷ ds) l h = elim (plain-cases d ds l h) [
  | inl a ↦ rw a.2 (omega arith)
  | inr a ↦ (let j : primed_level ds (l - 2 * (d - 1)) ≤ l - 2 * (d - 1) = primed-below ds (l - 2 * (d - 1)) a.1 in rw a.2 (omega arith))
]

module _ (sizes : List ℕ) where
  abbrev ds : List ℕ
  ds = slots sizes

  -- what holds of a tree with each plain test primed
  pub record GoodPrimed (t : Tree) : Type 0 where
    pub reduced : IsReduced ds 0 (primed_tree sizes t)
    pub whole : IsFrom ds 0 0 t → IsFrom ds 0 0 (primed_tree sizes t)
    pub from : (l : ℕ) → is_plain_level sizes l ≡ true → IsFrom ds 0 (after ds l) t → IsFrom ds 0 (after ds (primed_level sizes l)) (primed_tree sizes t)
    pub at : (k : ℕ) → IsAt k t → IsAtOrPast ds (primed_level sizes k) (primed_tree sizes t)

  plain-at : (k : ℕ) (t : Tree) → IsAt k t → TestsNoPrimed sizes t → is_plain_level sizes k ≡ true
  plain-at k (Ends a) h p = absurd h
  plain-at k (Tests l y n) h p = subst (λ v. is_plain_level sizes v ≡ true) h p.0

  pub can-prime : (l : ℕ) (y n : Tree) → Parts ds l y n → is_plain_level sizes l ≡ true → TestsNoPrimed sizes n → GoodPrimed y → GoodPrimed n
      → CanTest ds (primed_level sizes l) (primed_tree sizes y) (primed_tree sizes n)
  can-prime l y n q h p gy gn = record {
    yes_fits = gy.from l h q.yes_from;
    no_fits = elim q.no_fits [
      | inl g ↦ inl (gn.from l h g)
      | inr g ↦ (
          let j = next-primed sizes l h g.1 (plain-at (l + 1) n g.0 p) in
          let f : IsAtOrPast ds (primed_level sizes l + 1) (primed_tree sizes n) = subst (λ v. IsAtOrPast ds v (primed_tree sizes n)) j.0 (gn.at (l + 1) g.0) in
          elim f [ inl a ↦ inl (rw (after-next ds (primed_level sizes l) j.1) at a) | inr a ↦ inr (a, j.1) ]
          )
    ];
  }

  pub level-primed-in : (l : ℕ) → is_plain_level sizes l ≡ true → l < levels_of ds → primed_level sizes l < levels_of ds
  level-primed-in l h q = omega (arith, primed-below sizes l h)

  pub good-primed : (t : Tree) → IsReduced ds 0 t → TestsNoPrimed sizes t → GoodPrimed t
  good-primed (Ends a) r p = record { reduced = tt; whole = λ f. tt; from = λ l h f. tt; at = λ k h. absurd h }
  good-primed (Tests l y n) r p =
      let q : Parts ds l y n = parts ds l y n r in
      let gy : GoodPrimed y = good-primed y q.yes_reduced p.1 in
      let gn : GoodPrimed n = good-primed n q.no_reduced p.2 in
      let below : primed_level sizes l < levels_of ds = level-primed-in l p.0 q.level in
      let j : Joins ds (primed_level sizes l) (primed_tree sizes (Tests l y n)) = joins ds (primed_level sizes l) _ _ below gy.reduced gn.reduced (can-prime l y n q p.0 p.2 gy gn) in
      let above : primed_level sizes l < after ds (primed_level sizes l) = after_above ds (primed_level sizes l) below in
      record {
        reduced = j.reduced;
        whole = λ f. elim j.fits [
          | inl k ↦ IsFrom-lower ds 0 (after ds (primed_level sizes l)) _ (omega arith) k
          | inr k ↦ IsFrom-at ds 0 (primed_level sizes l) _ (omega arith) (first-primed sizes l p.0 (first0 ds l f.1)) k
        ];
        from = λ m h f. (
            let b : after ds (primed_level sizes m) ≤ primed_level sizes l = after-before sizes m l h p.0 f.0 in
            elim j.fits [
              | inl k ↦ IsFrom-lower ds (after ds (primed_level sizes m)) (after ds (primed_level sizes l)) _ (omega arith) k
              | inr k ↦ IsFrom-at ds (after ds (primed_level sizes m)) (primed_level sizes l) _ b (first-primed sizes l p.0 (first0 ds l f.1)) k
            ]
            );
        at = λ k e. subst (λ v. IsAtOrPast ds (primed_level sizes v) (primed_tree sizes (Tests l y n))) e j.fits;
      }

  pub value_at-primed : (t : Tree) (x y z : List ℕ) → IsState sizes x → IsState sizes y → IsState sizes z → TestsNoPrimed sizes t → value_at ds 0 (primed_tree sizes t) (point x y) ≡ value_at ds 0 t (point y z)
  value_at-primed (Ends a) x y z i j k p = refl
  value_at-primed (Tests l t n) x y z i j k p =
      let e : primed_level sizes l - 0 ≡ primed_level sizes l = omega arith in
      let f : l - 0 ≡ l = omega arith in
      let g : passes ds (primed_level sizes l - 0) (point x y) ≡ passes ds (l - 0) (point y z) = rw (e, f) (passes-primed sizes x y z l i j k p.0) in
      value_at-join ds 0 (primed_level sizes l) (primed_tree sizes t) (primed_tree sizes n) (point x y)
      ∙ rw (g, value_at-primed t x y z i j k p.1, value_at-primed n x y z i j k p.2) refl

-- the kind's tests come before those of the next kind
abbrev kind_start : List ℕ → ℕ → Bool → ℕ
kind_start ds var b = 2 * levels_of (take var ds) + cond b 0 (get_or ds var 0 - 1)

test-place : (ds : List ℕ) (l var v : ℕ) (b : Bool) → is_plain_level ds l ≡ true → var < length ds → v + 1 < get_or ds var 0 → kind_start ds var b + v ≡ l → primed_level ds l ≡ 2 * levels_of (take var ds) + v
test-place [] l var v b h i j e = absurd (omega arith)
test-place (d ∷ ds) l zero v true h i j e = elim (plain-cases d ds l h) [ inl a ↦ absurd (omega arith) | inr a ↦ absurd (omega arith) ]
test-place (d ∷ ds) l zero v false h i j e = elim (plain-cases d ds l h) [ inl a ↦ a.2 ∙ omega arith | inr a ↦ absurd (omega arith) ]
test-place (d ∷ ds) l (suc var) v b h i j e = elim (plain-cases d ds l h) [
  | inl a ↦ absurd (omega arith)
  | inr a ↦ (
      let k : primed_level ds (l - 2 * (d - 1)) ≡ 2 * levels_of (take var ds) + v = test-place ds (l - 2 * (d - 1)) var v b a.1 (omega arith) j (omega arith) in
      a.2 ∙ omega arith
      )
]

-- the primed test of a plain level's value
pub plain-test : (ds : List ℕ) (l var v : ℕ) (b : Bool) → is_plain_level ds l ≡ true → IsTestOf ds l var b v → level_at ds var true v ≡ primed_level ds l
plain-test ds l var v true h t =
    level-primed ds var v ∙ sym (test-place ds l var v true h t.var_in t.value_in (let e = level-primed ds var v in let f = t.level_is in omega arith))
plain-test ds l var v false h t =
    level-primed ds var v ∙ sym (test-place ds l var v false h t.var_in t.value_in (let e = level-plain ds var v t.var_in in let f = t.level_is in omega arith))

module _ (own : List ℕ) (s : Shown) (o : IsSound s) (f g : Entry) (kf : s.knows f ≡ true) (may : MayPrime own s.sizes (s.tree f)) where
  abbrev making : Making
  making t u = primed_tree own t

  abbrev may-meet : Tree → Tree → Type 0
  may-meet t u = MayPrime own s.sizes t × (t ≡ u)

  pub primed-at : (l m var v : ℕ) (b : Bool) (y n : Entry) → s.tree f ≡ Tests l (s.tree y) (s.tree n) → IsTestOf own l var b v → m ≡ level_at own var true v → m ≡ primed_level s.sizes l
  primed-at l m var v b y n e t at =
      let p : TestsNoPrimed s.sizes (Tests l (s.tree y) (s.tree n)) = subst (λ t. TestsNoPrimed s.sizes t) e may.plain in
      let h : is_plain_level own l ≡ true = subst (λ (z : List ℕ). is_plain_level z l ≡ true) (sym may.same) p.0 in
      at ∙ plain-test own l var v b h t ∙ ap (λ (z : List ℕ). primed_level z l) may.same

  pub primes-test : (l m : ℕ) (y n : Entry) → s.tree f ≡ s.tree g → s.tree f ≡ Tests l (s.tree y) (s.tree n) → s.knows y ≡ true → s.knows n ≡ true → m ≡ primed_level s.sizes l
      → PlansTest making may-meet s f g m (B.Pair y y) (B.Pair n n)
  primes-test l m y n twice e ky kn at =
      let r : IsReduced (slots s.sizes) 0 (Tests l (s.tree y) (s.tree n)) = subst (λ t. IsReduced (slots s.sizes) 0 t) e (o.reduced f kf) in
      let p : TestsNoPrimed s.sizes (Tests l (s.tree y) (s.tree n)) = subst (λ t. TestsNoPrimed s.sizes t) e may.plain in
      let q : Parts (slots s.sizes) l (s.tree y) (s.tree n) = parts (slots s.sizes) l (s.tree y) (s.tree n) r in
      let smaller = rank-view s o f y n l kf e in
      let can : CanTest (slots s.sizes) (primed_level s.sizes l) (primed_tree s.sizes (s.tree y)) (primed_tree s.sizes (s.tree n)) =
      can-prime s.sizes l (s.tree y) (s.tree n) q p.0 p.2 (good-primed s.sizes (s.tree y) q.yes_reduced p.1) (good-primed s.sizes (s.tree n) q.no_reduced p.2) in
      record {
        level_in = subst (λ v. v < levels_of (slots s.sizes)) (sym at) (level-primed-in s.sizes l p.0 q.level);
        is = ap (primed_tree own) e ∙ ap (λ v. join v (primed_tree own (s.tree y)) (primed_tree own (s.tree n))) (ap (λ (z : List ℕ). primed_level z l) may.same ∙ sym at);
        can_test = subst (λ (z : List ℕ). CanTest (slots s.sizes) m (primed_tree z (s.tree y)) (primed_tree z (s.tree n))) (sym may.same) (subst (λ v. CanTest (slots s.sizes) v (primed_tree s.sizes (s.tree y)) (primed_tree s.sizes (s.tree n))) (sym at) can);
        yes_goes = record { left = ky; right = ky; trees = (record { same = may.same; plain = p.1 }, refl) };
        no_goes = record { left = kn; right = kn; trees = (record { same = may.same; plain = p.2 }, refl) };
        yes_nodes = rw (sym twice, e) (InYes Itself, InYes Itself);
        no_nodes = rw (sym twice, e) (InNo Itself, InNo Itself);
        yes_smaller = omega (arith, smaller.0);
        no_smaller = omega (arith, smaller.1);
      }

module _ (own : List ℕ) (s : Shown) (o : IsSound s) (f : Entry) (kf : s.knows f ≡ true) (wf : IsWhole s f) (same : own ≡ s.sizes) (plain : TestsNoPrimed s.sizes (s.tree f)) where
  -- what is made is the tree of the function at the next state
  pub prime-tree : IsTreeFor s (primed_tree own (s.tree f)) (primed (meaning s f))
  prime-tree =
      let good : GoodPrimed s.sizes (s.tree f) = good-primed s.sizes (s.tree f) (o.reduced f kf) plain in
      rw same (record { reduced = good.reduced; whole = good.whole wf; value = record { at = λ x y i j. value_at-primed s.sizes (s.tree f) x y y i j j plain } })
