-- Levels of tests, the parts of a reduced test, and what a test with two children is.
use Rattle.std.proofs.Common.{◌≡◌, ℕ, ◌+◌, ◌-◌, ◌<◌, ◌≤◌, ◌≢◌, ◌⊎◌, inl, inr, ◌==◌, Bool, true, false, cond, List, [], ◌∷◌, refl, subst, arith}
use Rattle.std.specs.Prelude.{nat_lt}
use Rattle.std.proofs.lemmas.Bool.Decides.{nat_tests}
use Rattle.spd_nodes.specs.Levels.{levels_of, after, is_first}
use Rattle.spd_nodes.specs.Trees.{Tree, Ends, Tests, tree_eq, IsFrom, IsAt, IsAtOrPast, IsReduced, CanTest, join, IsNode, InYes, InNo}
use Rattle.spd_nodes.proofs.TreeLaws.{tree_eq-true, tree_eq-refl}

pub same_level : (k l : ℕ) → nat_lt k l ≡ false → nat_lt l k ≡ false → k ≡ l
same_level k l e f = grind (arith, nat_tests)

pub after0 : (ds : List ℕ) (l : ℕ) → 0 + after ds (l - 0) ≡ after ds l
after0 ds l = let e : l - 0 ≡ l = omega arith in rw e (omega arith)

pub first0 : (ds : List ℕ) (l : ℕ) → is_first ds (l - 0) ≡ true → is_first ds l ≡ true
first0 ds l h = let e : l - 0 ≡ l = omega arith in rw e at h

pub after_le : (ds : List ℕ) (l : ℕ) → after ds l ≤ levels_of ds
after_le [] l = omega arith
after_le (d ∷ ds) l = go (nat_lt l (d - 1)) (after_le ds (l - (d - 1)))
  where
    go : (t : Bool) → after ds (l - (d - 1)) ≤ levels_of ds → cond t (d - 1) ((d - 1) + after ds (l - (d - 1))) ≤ (d - 1) + levels_of ds
    go true h = omega arith
    go false h = omega arith

-- the level after a test that is not its slot's last ends where that slot ends
pub after-next : (ds : List ℕ) (l : ℕ) → l + 1 < after ds l → after ds (l + 1) ≡ after ds l
after-next [] l h = refl
after-next (d ∷ ds) l h = go (nat_lt l (d - 1)) refl h (after-next ds (l - (d - 1)))
  where
    go : (t : Bool) → nat_lt l (d - 1) ≡ t → l + 1 < cond t (d - 1) ((d - 1) + after ds (l - (d - 1)))
        → ((l - (d - 1)) + 1 < after ds (l - (d - 1)) → after ds ((l - (d - 1)) + 1) ≡ after ds (l - (d - 1)))
        → after (d ∷ ds) (l + 1) ≡ cond t (d - 1) ((d - 1) + after ds (l - (d - 1)))
    go true e i j = let f : nat_lt (l + 1) (d - 1) ≡ true = grind (arith, nat_tests) in rw f refl
    go false e i j =
        let g : d - 1 ≤ l = grind (arith, nat_tests) in
        let f : nat_lt (l + 1) (d - 1) ≡ false = grind (arith, nat_tests) in
        let k : (l + 1) - (d - 1) ≡ (l - (d - 1)) + 1 = omega arith in
        rw (f, k, j (omega arith)) refl

-- a first level above another level is past that one's slot
pub first-past : (ds : List ℕ) (k l : ℕ) → k < l → is_first ds l ≡ true → l < levels_of ds → after ds k ≤ l
first-past [] k l h f g = omega arith
first-past (d ∷ ds) k l h f g = go (nat_lt k (d - 1)) (nat_lt l (d - 1)) refl refl f (first-past ds (k - (d - 1)) (l - (d - 1)))
  where
    go : (s t : Bool) → nat_lt k (d - 1) ≡ s → nat_lt l (d - 1) ≡ t → cond t (l == 0) (is_first ds (l - (d - 1))) ≡ true
        → (k - (d - 1) < l - (d - 1) → is_first ds (l - (d - 1)) ≡ true → l - (d - 1) < levels_of ds → after ds (k - (d - 1)) ≤ l - (d - 1))
        → cond s (d - 1) ((d - 1) + after ds (k - (d - 1))) ≤ l
    go true true e i q j = grind (arith, nat_tests)
    go true false e i q j = grind (arith, nat_tests)
    go false true e i q j = grind (arith, nat_tests)
    go false false e i q j =
        let u : d - 1 ≤ k = grind (arith, nat_tests) in
        let v : after ds (k - (d - 1)) ≤ l - (d - 1) = j (omega arith) q (omega arith) in
        omega arith

pub level_of-reduced : (ds : List ℕ) (l : ℕ) (y n : Tree) → IsReduced ds 0 (Tests l y n) → l < levels_of ds
level_of-reduced ds l y n r = omega arith

-- the parts of a reduced test, with levels counted from 0
pub record Parts (ds : List ℕ) (l : ℕ) (y n : Tree) : Type 0 where
  pub level : l < levels_of ds
  pub yes_from : IsFrom ds 0 (after ds l) y
  pub no_fits : IsFrom ds 0 (after ds l) n ⊎ (IsAt (l + 1) n × (l + 1 < after ds l))
  pub yes_reduced : IsReduced ds 0 y
  pub no_reduced : IsReduced ds 0 n

pub parts : (ds : List ℕ) (l : ℕ) (y n : Tree) → IsReduced ds 0 (Tests l y n) → Parts ds l y n
parts ds l y n r =
    let a : 0 + after ds (l - 0) ≡ after ds l = after0 ds l in
    record { level = level_of-reduced ds l y n r; yes_from = rw a at r.3; no_fits = rw a at r.4; yes_reduced = r.5; no_reduced = r.6 }

pub IsFrom-lower : (ds : List ℕ) (e k : ℕ) (t : Tree) → e ≤ k → IsFrom ds 0 k t → IsFrom ds 0 e t
IsFrom-lower ds e k (Ends a) h f = tt
IsFrom-lower ds e k (Tests l y n) h f = (omega arith, f.1)

pub IsFrom-at : (ds : List ℕ) (e l : ℕ) (t : Tree) → e ≤ l → is_first ds l ≡ true → IsAt l t → IsFrom ds 0 e t
IsFrom-at ds e l (Ends a) h f g = tt
IsFrom-at ds e l (Tests k y n) h f g = let a : k - 0 ≡ l = omega arith in (omega arith, rw a f)

pub at-from : (ds : List ℕ) (e l : ℕ) (t : Tree) → IsFrom ds 0 e t → IsAt l t → (e ≤ l) × (is_first ds l ≡ true)
at-from ds e l (Ends a) f g = absurd g
at-from ds e l (Tests k y n) f g = let a : k - 0 ≡ l = omega arith in (omega arith, rw a at f.1)

differ : (t u : Tree) → tree_eq t u ≡ false → t ≢ u
differ t u e h =
    let a : tree_eq t u ≡ true = subst (λ v. tree_eq t v ≡ true) h (tree_eq-refl t) in
    absurd (cc)

-- what a join of two trees is that may be a test's children
pub record Joins (ds : List ℕ) (l : ℕ) (t : Tree) : Type 0 where
  pub reduced : IsReduced ds 0 t
  pub fits : IsAtOrPast ds l t

pub joins : (ds : List ℕ) (l : ℕ) (y n : Tree) → l < levels_of ds → IsReduced ds 0 y → IsReduced ds 0 n → CanTest ds l y n → Joins ds l (join l y n)
joins ds l y n h r s c = go (tree_eq y n) refl
  where
    go : (t : Bool) → tree_eq y n ≡ t → Joins ds l (cond t n (Tests l y n))
    go true e = record { reduced = s; fits = inl (subst (λ v. IsFrom ds 0 (after ds l) v) (tree_eq-true y n e) c.yes_fits) }
    go false e =
        let a : 0 + after ds (l - 0) ≡ after ds l = after0 ds l in
        record { reduced = (omega arith, omega arith, differ y n e, rw a c.yes_fits, rw a c.no_fits, r, s); fits = inr refl }

pub in-yes : (x y n : Tree) (l : ℕ) → IsNode x y → IsNode x (join l y n)
in-yes x y n l h = go (tree_eq y n) refl
  where
    go : (t : Bool) → tree_eq y n ≡ t → IsNode x (cond t n (Tests l y n))
    go true e = subst (λ v. IsNode x v) (tree_eq-true y n e) h
    go false e = InYes h

pub in-no : (x y n : Tree) (l : ℕ) → IsNode x n → IsNode x (join l y n)
in-no x y n l h = go (tree_eq y n)
  where
    go : (t : Bool) → IsNode x (cond t n (Tests l y n))
    go true = h
    go false = InNo h
