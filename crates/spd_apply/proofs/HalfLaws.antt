-- The two halves of a tree at a level.
use Rattle.std.proofs.Common.{◌≡◌, ℕ, ◌+◌, ◌<◌, ◌≤◌, ◌⊎◌, inl, inr, ◌==◌, true, false, List, refl, sym, ◌∙◌, subst, arith}
use Rattle.std.proofs.lemmas.Bool.{ne_eqb, cases_order}
use Rattle.std.proofs.lemmas.Bool.Decides.{Decides-eqb}
use Rattle.spd_nodes.specs.Levels.{after}
use Rattle.spd_nodes.specs.Trees.{Tree, Ends, Tests, IsFrom, IsAt, IsAtOrPast, IsReduced}
use Rattle.spd_nodes.proofs.CallerLemmas.{Parts, parts, first0, first-past, level_of-reduced}
use Rattle.spd_apply.specs.Halves.{yes_at, no_at, IsNotBefore, IsAligned}

-- the halves of a tree at a level that it tests first, if at all
pub record Splits (ds : List ℕ) (l : ℕ) (t : Tree) : Type 0 where
  pub yes_from : IsFrom ds 0 (after ds l) (yes_at l t)
  pub no_fits : IsFrom ds 0 (after ds l) (no_at l t) ⊎ (IsAt (l + 1) (no_at l t) × (l + 1 < after ds l))
  pub yes_reduced : IsReduced ds 0 (yes_at l t)
  pub no_reduced : IsReduced ds 0 (no_at l t)

pub eq-refl : (l : ℕ) → (l == l) ≡ true
eq-refl l = (Decides-eqb l l).1 refl

pub splits-at : (ds : List ℕ) (l : ℕ) (y n : Tree) → IsReduced ds 0 (Tests l y n) → Splits ds l (Tests l y n)
splits-at ds l y n r =
    let q : Parts ds l y n = parts ds l y n r in
    record {
      yes_from = rw (eq-refl l) q.yes_from;
      no_fits = rw (eq-refl l) q.no_fits;
      yes_reduced = rw (eq-refl l) q.yes_reduced;
      no_reduced = rw (eq-refl l) q.no_reduced;
    }

-- a tree past the slot is its own half
pub splits-past : (ds : List ℕ) (l : ℕ) (t : Tree) → l < after ds l → IsReduced ds 0 t → IsFrom ds 0 (after ds l) t → Splits ds l t
splits-past ds l (Ends a) h r f = record { yes_from = tt; no_fits = inl tt; yes_reduced = tt; no_reduced = tt }
splits-past ds l (Tests k y n) h r f =
    let e : (k == l) ≡ false = ne_eqb k l (omega arith) in
    record {
      yes_from = rw e f;
      no_fits = rw e (inl f);
      yes_reduced = rw e r;
      no_reduced = rw e r;
    }

-- a tree that tests a level first, or is past its slot, has its halves there
pub splits-fits : (ds : List ℕ) (l : ℕ) (t : Tree) → l < after ds l → IsReduced ds 0 t → IsAtOrPast ds l t → Splits ds l t
splits-fits ds l t h r (inl f) = splits-past ds l t h r f
splits-fits ds l (Ends a) h r (inr f) = absurd f
splits-fits ds l (Tests k y n) h r (inr f) = subst (λ v. Splits ds v (Tests k y n)) f (splits-at ds k y n r)

pub aligned-from : (ds : List ℕ) (e : ℕ) (t u : Tree) → IsReduced ds 0 t → IsReduced ds 0 u → IsFrom ds 0 e t → IsFrom ds 0 e u → IsAligned ds t u
aligned-from ds e (Ends a) u r s f g = tt
aligned-from ds e (Tests k y n) (Ends b) r s f g = tt
aligned-from ds e (Tests k y n) (Tests l v m) r s f g = go (cases_order k l)
  where
    go : (k ≡ l) ⊎ (k < l) ⊎ (l < k) → IsAligned ds (Tests k y n) (Tests l v m)
    go (inl h) = inl h
    go (inr (inl h)) = inr (inl (h, (first-past ds k l h (first0 ds l g.1) (level_of-reduced ds l v m s), g.1)))
    go (inr (inr h)) = inr (inr (h, (first-past ds l k h (first0 ds k f.1) (level_of-reduced ds k y n r), f.1)))

pub aligned-fits : (ds : List ℕ) (k : ℕ) (t u : Tree) → k < after ds k → IsReduced ds 0 t → IsReduced ds 0 u → IsAtOrPast ds k t → IsAtOrPast ds k u → IsAligned ds t u
aligned-fits ds k t u h r s (inl f) (inl g) = aligned-from ds (after ds k) t u r s f g
aligned-fits ds k (Ends a) u h r s f g = tt
aligned-fits ds k (Tests i y n) (Ends b) h r s f g = tt
aligned-fits ds k (Tests i y n) (Tests j v m) h r s (inr f) (inr g) = inl (f ∙ sym g)
aligned-fits ds k (Tests i y n) (Tests j v m) h r s (inr f) (inl g) = inr (inl (omega arith, subst (λ q. IsFrom ds 0 (after ds q) (Tests j v m)) (sym f) g))
aligned-fits ds k (Tests i y n) (Tests j v m) h r s (inl f) (inr g) = inr (inr (omega arith, subst (λ q. IsFrom ds 0 (after ds q) (Tests i y n)) (sym g) f))

pub not-before-at : (l : ℕ) (t : Tree) → IsAt l t → IsNotBefore l t
not-before-at l (Ends a) h = tt
not-before-at l (Tests k y n) h = omega (arith, h)

pub not-before-from : (ds : List ℕ) (l e : ℕ) (t : Tree) → l ≤ e → IsFrom ds 0 e t → IsNotBefore l t
not-before-from ds l e (Ends a) h f = tt
not-before-from ds l e (Tests k y n) h f = omega (arith, f.0)

pub not-before-lower : (l k : ℕ) (t : Tree) → l ≤ k → IsNotBefore k t → IsNotBefore l t
not-before-lower l k (Ends a) h f = tt
not-before-lower l k (Tests j y n) h f = omega (arith, f)
