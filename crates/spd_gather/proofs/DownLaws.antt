-- What is made of several trees is reduced, and where it is whole.
use Rattle.std.proofs.Common.{◌≡◌, ℕ, zero, suc, ◌+◌, ◌-◌, ◌<◌, ◌≤◌, ◌⊎◌, inl, inr, ◌==◌, Bool, true, false, cond, List, [], ◌∷◌, map, refl, sym, ◌∙◌, ap, subst, arith}
use Rattle.std.specs.Prelude.{nat_lt}
use Rattle.std.proofs.lemmas.Bool.{cases_order, ne_eqb}
use Rattle.std.proofs.lemmas.Bool.Decides.{nat_tests}
use Rattle.spd_nodes.specs.declared.leaf.Leaf.{Leaf}
use Rattle.spd_nodes.specs.Levels.{levels_of, passes, after, is_first}
use Rattle.spd_nodes.specs.Trees.{Tree, Ends, Tests, IsFrom, IsAt, IsReduced, CanTest, join, value_at, IsAtOrPast}
use Rattle.spd_nodes.proofs.CallerLemmas.{IsFrom-at, IsFrom-lower, Joins, after-next, after_above, after_le, at-from, first-past, first0, join-same, joins, level_of-reduced, value_at-join}
use Rattle.spd_apply.specs.Halves.{yes_at, no_at, IsNotBefore}
use Rattle.spd_apply.proofs.CallerLemmas.{Splits, not-before-at, not-before-from, not-before-lower, splits-at, splits-fits}
use Rattle.spd_restrict.proofs.CallerLemmas.{fits-next, itself-join, value-no, value-yes}
use Rattle.spd_gather.specs.Down.{Each, Making, down, Stands, FitsAt, EndsAt, last_leaf, at_leaves, at_each_leaf}

-- what holds of each tree holds of each tree changed
pub each-map : (P Q : Tree → Type 0) (f : Tree → Tree) → ((t : Tree) → P t → Q (f t)) → (ts : List Tree) → Each P ts → Each Q (map f ts)
each-map P Q f h [] a = tt
each-map P Q f h (t ∷ ts) a = (h t a.0, each-map P Q f h ts a.1)

pub each-weaker : (P Q : Tree → Type 0) → ((t : Tree) → P t → Q t) → (ts : List Tree) → Each P ts → Each Q ts
each-weaker P Q h [] a = tt
each-weaker P Q h (t ∷ ts) a = (h t a.0, each-weaker P Q h ts a.1)

pub each-both : (P Q : Tree → Type 0) (ts : List Tree) → Each P ts → Each Q ts → Each (λ t. P t × Q t) ts
each-both P Q [] a b = tt
each-both P Q (t ∷ ts) a b = ((a.0, b.0), each-both P Q ts a.1 b.1)

-- a tree past a level is its own half there
pub half-none : (l : ℕ) (t : Tree) → IsNotBefore (l + 1) t → (yes_at l t ≡ t) × (no_at l t ≡ t)
half-none l (Ends a) h = (refl, refl)
half-none l (Tests k y n) h = let e : (k == l) ≡ false = ne_eqb k l (omega arith) in (rw e refl, rw e refl)

pub halves-none : (l : ℕ) (ts : List Tree) → Each (IsNotBefore (l + 1)) ts → (map (yes_at l) ts ≡ ts) × (map (no_at l) ts ≡ ts)
halves-none l [] h = (refl, refl)
halves-none l (t ∷ ts) h =
    let a = half-none l t h.0 in
    let b = halves-none l ts h.1 in
    (rw (a.0, b.0) refl, rw (a.1, b.1) refl)

-- either all are past a level, or one is at it
past-or-at : (l : ℕ) (ts : List Tree) → Each (IsNotBefore l) ts → Each (IsNotBefore (l + 1)) ts ⊎ ((P : Tree → Type 0) → Each P ts → (t : Tree) × P t × IsAt l t)
past-or-at l [] h = inl tt
past-or-at l (t ∷ ts) h = go t h.0 (past-or-at l ts h.1)
  where
    Found : List Tree → Type 1
    Found us = (P : Tree → Type 0) → Each P us → (t : Tree) × P t × IsAt l t

    go : (u : Tree) → IsNotBefore l u → Each (IsNotBefore (l + 1)) ts ⊎ Found ts → Each (IsNotBefore (l + 1)) (u ∷ ts) ⊎ Found (u ∷ ts)
    go u i (inr f) = inr (λ P a. f P a.1)
    go (Ends a) i (inl b) = inl (tt, b)
    go (Tests k y n) i (inl b) = elim (cases_order k l) [
      | inl e ↦ inr (λ P a. (Tests k y n, a.0, e))
      | inr e ↦ inl ((omega arith), b)
    ]

-- a half of a reduced tree that isn't before a level is one that isn't before the next
pub stands-half : (ds : List ℕ) (l : ℕ) (t : Tree) → Stands ds l t → Stands ds (l + 1) (yes_at l t) × Stands ds (l + 1) (no_at l t)
stands-half ds l (Ends a) h = ((tt, tt), (tt, tt))
stands-half ds l (Tests k y n) h = go (cases_order k l)
  where
    at : Splits ds k (Tests k y n) → k ≡ l → Stands ds (l + 1) (yes_at l (Tests k y n)) × Stands ds (l + 1) (no_at l (Tests k y n))
    at s e = subst (λ j. Stands ds (j + 1) (yes_at j (Tests k y n)) × Stands ds (j + 1) (no_at j (Tests k y n))) e (
        let b : k < after ds k = after_above ds k (level_of-reduced ds k y n h.0) in (
          (s.yes_reduced, not-before-from ds (k + 1) (after ds k) _ (omega arith) s.yes_from),
          (s.no_reduced, elim s.no_fits [ inl f ↦ not-before-from ds (k + 1) (after ds k) _ (omega arith) f | inr f ↦ not-before-at (k + 1) _ f.0 ]),
        ))

    go : (k ≡ l) ⊎ (k < l) ⊎ (l < k) → Stands ds (l + 1) (yes_at l (Tests k y n)) × Stands ds (l + 1) (no_at l (Tests k y n))
    go (inl e) = at (splits-at ds k y n h.0) e
    go (inr (inl e)) = absurd (omega (arith, h.1))
    go (inr (inr e)) = let q = half-none l (Tests k y n) (omega arith) in (rw (q.0) (h.0, omega arith), rw (q.1) (h.0, omega arith))

pub stands-yes : (ds : List ℕ) (l : ℕ) (ts : List Tree) → Each (Stands ds l) ts → Each (Stands ds (l + 1)) (map (yes_at l) ts)
stands-yes ds l ts h = each-map (Stands ds l) (Stands ds (l + 1)) (yes_at l) (λ t s. (stands-half ds l t s).0) ts h

pub stands-no : (ds : List ℕ) (l : ℕ) (ts : List Tree) → Each (Stands ds l) ts → Each (Stands ds (l + 1)) (map (no_at l) ts)
stands-no ds l ts h = each-map (Stands ds l) (Stands ds (l + 1)) (no_at l) (λ t s. (stands-half ds l t s).1) ts h

-- Nothing is made at levels that no tree tests.
pub down-past : (bottom : Making) (n l : ℕ) (ts : List Tree) → Each (IsNotBefore (l + 1)) ts → down bottom (suc n) l ts ≡ down bottom n (l + 1) ts
down-past bottom n l ts h = let e = halves-none l ts h in rw (e.0, e.1) (join-same l (down bottom n (l + 1) ts))

pub down-skip : (bottom : Making) (k n l : ℕ) (ts : List Tree) → Each (IsNotBefore (l + k)) ts → down bottom (k + n) l ts ≡ down bottom n (l + k) ts
down-skip bottom zero n l ts h =
    let a : 0 + n ≡ n = omega arith in
    let b : l + 0 ≡ l = omega arith in
    rw (a, b) refl
down-skip bottom (suc k) n l ts h =
    let e : l + suc k ≡ (l + 1) + k = omega arith in
    let c : suc k + n ≡ suc (k + n) = omega arith in
    ap (λ m. down bottom m l ts) c
    ∙ down-past bottom (k + n) l ts (each-weaker (IsNotBefore (l + suc k)) (IsNotBefore (l + 1)) (λ t i. not-before-lower (l + 1) (l + suc k) t (omega arith) i) ts h)
    ∙ down-skip bottom k n (l + 1) ts (rw e at h) ∙ ap (λ j. down bottom n j ts) (sym e)

module _ (ds : List ℕ) (stop : ℕ) (bottom : Making) (d : EndsAt ds stop bottom) where
  -- what holds of what is made from a level on
  pub record Good (n l : ℕ) : Type 0 where
    pub whole : (e : ℕ) (ts : List Tree) → e ≤ stop → Each (Stands ds l) ts → Each (IsFrom ds 0 e) ts → IsReduced ds 0 (down bottom n l ts) × IsFrom ds 0 e (down bottom n l ts)
    pub part : (ts : List Tree) → l < stop → Each (FitsAt ds l) ts → Joins ds l (down bottom n l ts)

  module _ (l : ℕ) (b : l < stop) where
    pub level-in : l < levels_of ds
    level-in = omega (arith, d.levels)

    pub above : l < after ds l
    above = after_above ds l level-in

    pub splits : (t : Tree) → FitsAt ds l t → Splits ds l t
    splits t f = splits-fits ds l t above f.0 f.1

    pub yes-stands : (t : Tree) → FitsAt ds l t → Stands ds (l + 1) (yes_at l t)
    yes-stands t f = let s = splits t f in (s.yes_reduced, not-before-from ds (l + 1) (after ds l) _ (omega (arith, above)) s.yes_from)

    pub no-fits : l + 1 < after ds l → (t : Tree) → FitsAt ds l t → FitsAt ds (l + 1) (no_at l t)
    no-fits i t f = let s = splits t f in (s.no_reduced, fits-next ds l t i s)

    pub no-from : after ds l ≤ l + 1 → (t : Tree) → FitsAt ds l t → IsFrom ds 0 (after ds l) (no_at l t)
    no-from i t f = elim (splits t f).no_fits [ inl a ↦ a | inr a ↦ absurd (omega (arith, a.1)) ]

    pub no-stands : (t : Tree) → FitsAt ds l t → Stands ds (l + 1) (no_at l t)
    no-stands t f = let s = splits t f in (s.no_reduced, elim s.no_fits [ inl a ↦ not-before-from ds (l + 1) (after ds l) _ (omega (arith, above)) a | inr a ↦ not-before-at (l + 1) _ a.0 ])

    -- what the children are where trees fit a level
    record Children (y n : Tree) : Type 0 where
      yes_reduced : IsReduced ds 0 y
      no_reduced : IsReduced ds 0 n
      can_test : CanTest ds l y n

    children : (n : ℕ) (ts : List Tree) → Good n (l + 1) → Each (FitsAt ds l) ts → Children (down bottom n (l + 1) (map (yes_at l) ts)) (down bottom n (l + 1) (map (no_at l) ts))
    children n ts g h = go (nat_lt (l + 1) (after ds l)) refl
      where
        inside : after ds l ≤ stop
        inside = d.within l level-in b

        yes : IsReduced ds 0 (down bottom n (l + 1) (map (yes_at l) ts)) × IsFrom ds 0 (after ds l) (down bottom n (l + 1) (map (yes_at l) ts))
        yes = g.whole (after ds l) (map (yes_at l) ts) inside (each-map (FitsAt ds l) (Stands ds (l + 1)) (yes_at l) yes-stands ts h) (each-map (FitsAt ds l) (IsFrom ds 0 (after ds l)) (yes_at l) (λ t f. (splits t f).yes_from) ts h)

        go : (z : Bool) → nat_lt (l + 1) (after ds l) ≡ z → Children (down bottom n (l + 1) (map (yes_at l) ts)) (down bottom n (l + 1) (map (no_at l) ts))
        go true z =
            let i : l + 1 < after ds l = grind (arith, nat_tests) in
            let j : Joins ds (l + 1) (down bottom n (l + 1) (map (no_at l) ts)) = g.part (map (no_at l) ts) (omega (arith, inside)) (each-map (FitsAt ds l) (FitsAt ds (l + 1)) (no_at l) (no-fits i) ts h) in
            record {
              yes_reduced = yes.0;
              no_reduced = j.reduced;
              can_test = record { yes_fits = yes.1; no_fits = elim j.fits [ inl a ↦ inl (rw (after-next ds l i) at a) | inr a ↦ inr (a, i) ] };
            }
        go false z =
            let i : after ds l ≤ l + 1 = grind (arith, nat_tests) in
            let k : IsReduced ds 0 (down bottom n (l + 1) (map (no_at l) ts)) × IsFrom ds 0 (after ds l) (down bottom n (l + 1) (map (no_at l) ts)) =
            g.whole (after ds l) (map (no_at l) ts) inside (each-map (FitsAt ds l) (Stands ds (l + 1)) (no_at l) no-stands ts h) (each-map (FitsAt ds l) (IsFrom ds 0 (after ds l)) (no_at l) (no-from i) ts h) in
            record { yes_reduced = yes.0; no_reduced = k.0; can_test = record { yes_fits = yes.1; no_fits = inl k.1 } }

    joined : (n : ℕ) (ts : List Tree) → Good n (l + 1) → Each (FitsAt ds l) ts → Joins ds l (down bottom (suc n) l ts)
    joined n ts g h = let c = children n ts g h in joins ds l _ _ level-in c.yes_reduced c.no_reduced c.can_test

    -- a whole tree that isn't before a first level fits it
    pub fits-of : (e : ℕ) → is_first ds l ≡ true → (t : Tree) → Stands ds l t × IsFrom ds 0 e t → FitsAt ds l t
    fits-of e f (Ends a) h = (tt, inl tt)
    fits-of e f (Tests k y n) h = (h.0.0, go (cases_order k l))
      where
        go : (k ≡ l) ⊎ (k < l) ⊎ (l < k) → IsAtOrPast ds l (Tests k y n)
        go (inl q) = inr q
        go (inr (inl q)) = absurd (omega (arith, h.0.1))
        go (inr (inr q)) = inl (first-past ds l k q (first0 ds k h.1.1) (level_of-reduced ds k y n h.0.0), h.1.1)

  step-whole : (n l : ℕ) → suc n + l ≡ stop → Good n (l + 1) → (e : ℕ) (ts : List Tree) → e ≤ stop → Each (Stands ds l) ts → Each (IsFrom ds 0 e) ts
      → IsReduced ds 0 (down bottom (suc n) l ts) × IsFrom ds 0 e (down bottom (suc n) l ts)
  step-whole n l q g e ts i h f = elim (past-or-at l ts (each-weaker (Stands ds l) (IsNotBefore l) (λ t s. s.1) ts h)) [
    | inl p ↦ rw (down-past bottom n l ts p) (g.whole e ts i (each-both (IsReduced ds 0) (IsNotBefore (l + 1)) ts (each-weaker (Stands ds l) (IsReduced ds 0) (λ t s. s.0) ts h) p) f)
    | inr found ↦ one (found (IsFrom ds 0 e) f)
  ]
    where
      b : l < stop
      b = omega arith

      one : ((t : Tree) × IsFrom ds 0 e t × IsAt l t) → IsReduced ds 0 (down bottom (suc n) l ts) × IsFrom ds 0 e (down bottom (suc n) l ts)
      one found =
          let a : (e ≤ l) × (is_first ds l ≡ true) = at-from ds e l found.0 found.1 found.2 in
          let fit : Each (FitsAt ds l) ts = each-weaker (λ t. Stands ds l t × IsFrom ds 0 e t) (FitsAt ds l) (fits-of l b e a.1) ts (each-both (Stands ds l) (IsFrom ds 0 e) ts h f) in
          let j : Joins ds l (down bottom (suc n) l ts) = joined l b n ts g fit in
          let up : l < after ds l = above l b in
          (j.reduced, elim j.fits [ inl k ↦ IsFrom-lower ds e (after ds l) _ (omega arith) k | inr k ↦ IsFrom-at ds e l _ a.0 a.1 k ])

  pub good : (n l : ℕ) → n + l ≡ stop → Good n l
  good zero l q = record {
    whole = λ e ts i h f. d.reduced e ts i (subst (λ j. Each (Stands ds j) ts) (let w : l ≡ stop = omega arith in w) h) f;
    part = λ ts b h. absurd (omega arith);
  }
  good (suc n) l q =
      let g : Good n (l + 1) = good n (l + 1) (omega arith) in
      record { whole = step-whole n l q g; part = λ ts b h. joined l b n ts g h }

  -- of whole trees a reduced whole tree is made
  pub down-whole : (ts : List Tree) → Each (IsReduced ds 0) ts → Each (IsFrom ds 0 0) ts → IsReduced ds 0 (down bottom stop 0 ts) × IsFrom ds 0 0 (down bottom stop 0 ts)
  down-whole ts r f =
      (good stop 0 (omega arith)).whole 0 ts (omega arith)
      (each-weaker (λ t. IsReduced ds 0 t × IsFrom ds 0 0 t) (Stands ds 0) (λ t a. (a.0, not-before-from ds 0 0 t (omega arith) a.1)) ts (each-both (IsReduced ds 0) (IsFrom ds 0 0) ts r f)) f

  -- At a level before the end that trees fit, the test is made of what is made of the halves, and it can be.
  pub record Halves (l : ℕ) (ts : List Tree) : Type 0 where
    pub is_join : down bottom stop 0 ts ≡ join l (down bottom stop 0 (map (yes_at l) ts)) (down bottom stop 0 (map (no_at l) ts))
    pub can_test : CanTest ds l (down bottom stop 0 (map (yes_at l) ts)) (down bottom stop 0 (map (no_at l) ts))

  pub fits-stands : (l : ℕ) (t : Tree) → l < stop → FitsAt ds l t → Stands ds l t
  fits-stands l t b f = (f.0, elim f.1 [ inl a ↦ not-before-from ds l (after ds l) t (omega (arith, above l b)) a | inr a ↦ not-before-at l t a ])

  pub from-start : (k n : ℕ) → k + n ≡ stop → (ts : List Tree) → Each (IsNotBefore k) ts → down bottom stop 0 ts ≡ down bottom n k ts
  from-start k n e ts h =
      let z : 0 + k ≡ k = omega arith in
      ap (λ m. down bottom m 0 ts) (sym e) ∙ down-skip bottom k n 0 ts (rw z h) ∙ ap (λ j. down bottom n j ts) z

  pub halves : (l : ℕ) (ts : List Tree) → l < stop → Each (FitsAt ds l) ts → Halves l ts
  halves l ts b h = go (stop - l - 1) (omega arith)
    where
      go : (n : ℕ) → suc n + l ≡ stop → Halves l ts
      go n q =
          let y : Each (Stands ds (l + 1)) (map (yes_at l) ts) = each-map (FitsAt ds l) (Stands ds (l + 1)) (yes_at l) (yes-stands l b) ts h in
          let m : Each (Stands ds (l + 1)) (map (no_at l) ts) = each-map (FitsAt ds l) (Stands ds (l + 1)) (no_at l) (no-stands l b) ts h in
          let here : down bottom stop 0 ts ≡ down bottom (suc n) l ts = from-start l (suc n) (omega arith) ts (each-weaker (FitsAt ds l) (IsNotBefore l) (λ t f. (fits-stands l t b f).1) ts h) in
          let yes : down bottom stop 0 (map (yes_at l) ts) ≡ down bottom n (l + 1) (map (yes_at l) ts) = from-start (l + 1) n (omega arith) _ (each-weaker (Stands ds (l + 1)) (IsNotBefore (l + 1)) (λ t f. f.1) _ y) in
          let no : down bottom stop 0 (map (no_at l) ts) ≡ down bottom n (l + 1) (map (no_at l) ts) = from-start (l + 1) n (omega arith) _ (each-weaker (Stands ds (l + 1)) (IsNotBefore (l + 1)) (λ t f. f.1) _ m) in
          let c = children l b n ts (good n (l + 1) (omega arith)) h in
          record { is_join = rw (yes, no) here; can_test = rw (yes, no) c.can_test }

-- The value of what is made, where it is the value of what is made at the end.
module _ (ds : List ℕ) (stop : ℕ) (bottom : Making) (p : List ℕ) (Holds : ℕ → Tree → Type 0) (value : List Tree → Leaf)
    (go_on : (l : ℕ) (t : Tree) → l < stop → Holds l t → Holds (l + 1) (yes_at l t) × Holds (l + 1) (no_at l t))
    (yes : (l : ℕ) (ts : List Tree) → l < stop → passes ds l p ≡ true → value (map (yes_at l) ts) ≡ value ts)
    (no : (l : ℕ) (ts : List Tree) → l < stop → passes ds l p ≡ false → value (map (no_at l) ts) ≡ value ts)
    (at : (ts : List Tree) → Each (Holds stop) ts → value_at ds 0 (bottom ts) p ≡ value ts) where
  pub value_at-down : (n l : ℕ) (ts : List Tree) → n + l ≡ stop → Each (Holds l) ts → value_at ds 0 (down bottom n l ts) p ≡ value ts
  value_at-down zero l ts e h = at ts (subst (λ j. Each (Holds j) ts) (let w : l ≡ stop = omega arith in w) h)
  value_at-down (suc n) l ts e h =
      value_at-join ds 0 l (down bottom n (l + 1) (map (yes_at l) ts)) (down bottom n (l + 1) (map (no_at l) ts)) p
      ∙ go (passes ds l p) refl
      (value_at-down n (l + 1) (map (yes_at l) ts) (omega arith) (each-map (Holds l) (Holds (l + 1)) (yes_at l) (λ t a. (go_on l t (omega arith) a).0) ts h))
      (value_at-down n (l + 1) (map (no_at l) ts) (omega arith) (each-map (Holds l) (Holds (l + 1)) (no_at l) (λ t a. (go_on l t (omega arith) a).1) ts h))
    where
      z : l - 0 ≡ l
      z = omega arith

      go : (b : Bool) → passes ds l p ≡ b → value_at ds 0 (down bottom n (l + 1) (map (yes_at l) ts)) p ≡ value (map (yes_at l) ts) → value_at ds 0 (down bottom n (l + 1) (map (no_at l) ts)) p ≡ value (map (no_at l) ts)
          → cond (passes ds (l - 0) p) (value_at ds 0 (down bottom n (l + 1) (map (yes_at l) ts)) p) (value_at ds 0 (down bottom n (l + 1) (map (no_at l) ts)) p) ≡ value ts
      go true q a b = rw (z, q) (a ∙ yes l ts (omega arith) q)
      go false q a b = rw (z, q) (b ∙ no l ts (omega arith) q)

-- Two lists of which the same is made at the end.
module _ (bottom other : Making) (Related : List Tree → List Tree → Type 0)
    (go_on : (l : ℕ) (ts us : List Tree) → Related ts us → Related (map (yes_at l) ts) (map (yes_at l) us) × Related (map (no_at l) ts) (map (no_at l) us))
    (same : (ts us : List Tree) → Related ts us → bottom ts ≡ other us) where
  pub down-same : (n l : ℕ) (ts us : List Tree) → Related ts us → down bottom n l ts ≡ down other n l us
  down-same zero l ts us h = same ts us h
  down-same (suc n) l ts us h = let q = go_on l ts us h in rw (down-same n (l + 1) _ _ q.0, down-same n (l + 1) _ _ q.1) refl

-- A list of which a tree is made.
module _ (ds : List ℕ) (stop : ℕ) (bottom : Making) (Related : ℕ → List Tree → Tree → Type 0)
    (go_on : (n l : ℕ) (ts : List Tree) (u : Tree) → suc n + l ≡ stop → Related l ts u → Related (l + 1) (map (yes_at l) ts) (yes_at l u) × Related (l + 1) (map (no_at l) ts) (no_at l u))
    (same : (ts : List Tree) (u : Tree) → Stands ds stop u → Related stop ts u → bottom ts ≡ u) where
  pub down-is : (n l : ℕ) (ts : List Tree) (u : Tree) → n + l ≡ stop → Stands ds l u → Related l ts u → down bottom n l ts ≡ u
  down-is zero l ts u e s h = let w : l ≡ stop = omega arith in same ts u (subst (λ j. Stands ds j u) w s) (subst (λ j. Related j ts u) w h)
  down-is (suc n) l ts u e s h =
      let q = go_on n l ts u e h in
      let w = stands-half ds l u s in
      rw (down-is n (l + 1) _ _ (omega arith) w.0 q.0, down-is n (l + 1) _ _ (omega arith) w.1 q.1) (itself-join ds l u s.0)

-- the values of trees at a point
abbrev pub values_at : List ℕ → List ℕ → List Tree → List Leaf
values_at ds p ts = map (λ t. value_at ds 0 t p) ts

values-yes : (ds : List ℕ) (l : ℕ) (ts : List Tree) (p : List ℕ) → passes ds l p ≡ true → values_at ds p (map (yes_at l) ts) ≡ values_at ds p ts
values-yes ds l [] p h = refl
values-yes ds l (t ∷ ts) p h = rw (value-yes ds l t p h, values-yes ds l ts p h) refl

values-no : (ds : List ℕ) (l : ℕ) (ts : List Tree) (p : List ℕ) → passes ds l p ≡ false → values_at ds p (map (no_at l) ts) ≡ values_at ds p ts
values-no ds l [] p h = refl
values-no ds l (t ∷ ts) p h = rw (value-no ds l t p h, values-no ds l ts p h) refl

-- a reduced tree past all levels is a leaf
last-value : (ds : List ℕ) (t : Tree) (p : List ℕ) → Stands ds (levels_of ds) t → last_leaf t ≡ value_at ds 0 t p
last-value ds (Ends a) p s = refl
last-value ds (Tests l y n) p s = absurd (omega (arith, s.1, level_of-reduced ds l y n s.0))

last-values : (ds : List ℕ) (ts : List Tree) (p : List ℕ) → Each (Stands ds (levels_of ds)) ts → map last_leaf ts ≡ values_at ds p ts
last-values ds [] p h = refl
last-values ds (t ∷ ts) p h = rw (last-value ds t p h.0, last-values ds ts p h.1) refl

module _ (ds : List ℕ) (op : List Leaf → Leaf) where
  -- an operation at each leaf goes down to the leaves
  pub leaves-end : EndsAt ds (levels_of ds) (at_leaves op)
  leaves-end = record { levels = omega arith; within = λ l h b. after_le ds l; reduced = λ e ts i h f. (tt, tt) }

  pub value_at-each : (ts : List Tree) (p : List ℕ) → Each (Stands ds 0) ts → value_at ds 0 (at_each_leaf (levels_of ds) op ts) p ≡ op (values_at ds p ts)
  value_at-each ts p h =
      value_at-down ds (levels_of ds) (at_leaves op) p (Stands ds) (λ us. op (values_at ds p us)) (λ l t b a. stands-half ds l t a)
      (λ l us b q. ap op (values-yes ds l us p q)) (λ l us b q. ap op (values-no ds l us p q))
      (λ us s. ap op (last-values ds us p s))
      (levels_of ds) 0 ts (omega arith) h
