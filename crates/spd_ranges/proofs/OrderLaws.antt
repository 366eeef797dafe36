-- The order of ranges, and lists in that order.
use Rattle.std.proofs.Common.{◌≡◌, ◌⊎◌, inl, inr, zero, suc, Bool, true, false, ◌&&◌, ◌||◌, ℤ, List, [], ◌∷◌, fold, refl, sym, ◌∙◌, subst, arith}
use Rattle.std.specs.Prelude.{int_lt, Contains}
use Rattle.std.specs.Bool.{if◌then◌else◌}
use Rattle.std.specs.Ordering.{int_eq}
use Rattle.std.proofs.lemmas.Bool.{and_parts}
use Rattle.std.proofs.lemmas.Bool.Decides.{Decides-int_eq, nat_tests}
use Rattle.std.proofs.lemmas.Int.{ints}
use Rattle.std.proofs.lemmas.List.Elements.{Contains-append_right, Contains-append_left, Contains-push}
use Rattle.spd_model.specs.Ranges.{Range, is_same, is_before, with_range, in_order}

pub same-range : (p q : Range) → is_same p q ≡ true → p ≡ q
same-range p q h =
    let parts = and_parts _ _ h in
    let low : p.low ≡ q.low = (Decides-int_eq p.low q.low).0 parts.0 in
    let high : p.high ≡ q.high = (Decides-int_eq p.high q.high).0 parts.1 in
    λ i. record { low = low i; high = high i }

flip : (a x b y : ℤ) → (int_lt a b || (int_eq a b && int_lt x y)) ≡ true → (int_lt b a || (int_eq b a && int_lt y x)) ≡ true → ⊥
flip a x b y h k = grind (arith, ints, nat_tests)

trans : (a x b y c z : ℤ) → (int_lt a b || (int_eq a b && int_lt x y)) ≡ true → (int_lt b c || (int_eq b c && int_lt y z)) ≡ true → (int_lt a c || (int_eq a c && int_lt x z)) ≡ true
trans a x b y c z h k = grind (arith, ints, nat_tests)

other : (a x b y : ℤ) → (int_eq a b && int_eq x y) ≡ false → (int_lt a b || (int_eq a b && int_lt x y)) ≡ false → (int_lt b a || (int_eq b a && int_lt y x)) ≡ true
other a x b y h k = grind (arith, ints, nat_tests)

-- no two ranges stand before each other
pub before-flip : (p q : Range) → is_before p q ≡ true → is_before q p ≡ true → ⊥
before-flip p q = flip p.low p.high q.low q.high

pub before-trans : (p q r : Range) → is_before p q ≡ true → is_before q r ≡ true → is_before p r ≡ true
before-trans p q r = trans p.low p.high q.low q.high r.low r.high

-- of two ranges that differ one stands before the other
before-other : (p q : Range) → is_same p q ≡ false → is_before p q ≡ false → is_before q p ≡ true
before-other p q = other p.low p.high q.low q.high

-- a range doesn't stand before itself
pub before-apart : (p q : Range) → is_before p q ≡ true → is_same q p ≡ true → ⊥
before-apart p q h e = before-flip p q h (subst (λ (r : Range). is_before q r ≡ true) (same-range q p e) (subst (λ (r : Range). is_before r q ≡ true) (sym (same-range q p e)) h))

-- ---- members

pub Contains-cases : {X : Type 0} (x y : X) (xs : List X) → Contains (y ∷ xs) x → (y ≡ x) ⊎ Contains xs x
Contains-cases x y xs (zero, q, e) = inl e
Contains-cases x y xs (suc i, q, e) = inr (i, omega arith, e)

pub Contains-here : {X : Type 0} (x : X) (xs : List X) → Contains (x ∷ xs) x
Contains-here x xs = Contains-append_left (x ∷ []) xs x (Contains-push [] x)

pub Contains-later : {X : Type 0} (x y : X) (xs : List X) → Contains xs x → Contains (y ∷ xs) x
Contains-later x y xs h = Contains-append_right (y ∷ []) xs x h

pub Contains-none : {X : Type 0} {P : Type 0} (x : X) → Contains [] x → P
Contains-none x (i, q, e) = absurd (omega arith)

-- each range stands before those after it
abbrev pub Ascends : List Range → Type 0
Ascends [] = Unit {0}
Ascends (p ∷ ps) = ((q : Range) → Contains ps q → is_before p q ≡ true) × Ascends ps

-- ---- a list in order is told by its members

module _ (p q : Range) (ps qs : List Range) (a : Ascends (p ∷ ps)) (b : Ascends (q ∷ qs)) where
  heads : (q ≡ p) ⊎ Contains qs p → (p ≡ q) ⊎ Contains ps q → p ≡ q
  heads (inl e) k = sym e
  heads (inr h) (inl e) = e
  heads (inr h) (inr k) = absurd (before-flip q p (b.0 p h) (a.0 q k))

  -- a later member of the one list is a later member of the other
  later : p ≡ q → (r : Range) → Contains ps r → (q ≡ r) ⊎ Contains qs r → Contains qs r
  later e r h (inr k) = k
  later e r h (inl k) =
      let before : is_before p p ≡ true = subst (λ (x : Range). is_before p x ≡ true) (sym (e ∙ k)) (a.0 r h) in
      absurd (before-flip p p before before)

same-cons : {p q : Range} {ps qs : List Range} → p ≡ q → ps ≡ qs → p ∷ ps ≡ q ∷ qs
same-cons e h i = e i ∷ h i

pub told : (ps qs : List Range) → Ascends ps → Ascends qs → ((r : Range) → Contains ps r → Contains qs r) → ((r : Range) → Contains qs r → Contains ps r) → ps ≡ qs
told [] [] a b f g = refl
told [] (q ∷ qs) a b f g = Contains-none q (g q (Contains-here q qs))
told (p ∷ ps) [] a b f g = Contains-none p (f p (Contains-here p ps))
told (p ∷ ps) (q ∷ qs) a b f g =
    let e : p ≡ q = heads p q ps qs a b (Contains-cases p q qs (f p (Contains-here p ps))) (Contains-cases q p ps (g q (Contains-here q qs))) in
    same-cons e
    (told ps qs a.1 b.1
    (λ r h. later p q ps qs a b e r h (Contains-cases r q qs (f r (Contains-later r p ps h))))
    (λ r h. later q p qs ps b a (sym e) r h (Contains-cases r p ps (g r (Contains-later r q qs h)))))

-- ---- the distinct ranges of a list

by_cases : (P : List Range → Type 0) (b : Bool) (xs ys : List Range) → (b ≡ true → P xs) → (b ≡ false → P ys) → P (if b then xs else ys)
by_cases P true xs ys f g = f refl
by_cases P false xs ys f g = g refl

-- what is put in its place is there, with all that was there, and nothing else
placed-new : (qs : List Range) (p : Range) → Contains (with_range qs p) p
placed-new [] p = Contains-here p []
placed-new (q ∷ qs) p =
    by_cases (λ v. Contains v p) (is_same p q) (q ∷ qs) _
    (λ h. subst (λ (r : Range). Contains (r ∷ qs) p) (same-range p q h) (Contains-here p qs))
    (λ h. by_cases (λ v. Contains v p) (is_before p q) (p ∷ q ∷ qs) (q ∷ with_range qs p)
    (λ k. Contains-here p (q ∷ qs))
    (λ k. Contains-later p q (with_range qs p) (placed-new qs p)))

placed-old : (qs : List Range) (p r : Range) → Contains qs r → Contains (with_range qs p) r
placed-old [] p r m = Contains-none r m
placed-old (q ∷ qs) p r m =
    by_cases (λ v. Contains v r) (is_same p q) (q ∷ qs) _
    (λ h. m)
    (λ h. by_cases (λ v. Contains v r) (is_before p q) (p ∷ q ∷ qs) (q ∷ with_range qs p)
    (λ k. Contains-later r p (q ∷ qs) m)
    (λ k. elim (Contains-cases r q qs m) [
      | inl e ↦ subst (λ (x : Range). Contains (q ∷ with_range qs p) x) e (Contains-here q (with_range qs p))
      | inr n ↦ Contains-later r q (with_range qs p) (placed-old qs p r n)
    ]))

placed-only : (qs : List Range) (p r : Range) → Contains (with_range qs p) r → (p ≡ r) ⊎ Contains qs r
placed-only [] p r m = Contains-cases r p [] m
placed-only (q ∷ qs) p r n =
    by_cases (λ v. Contains v r → (p ≡ r) ⊎ Contains (q ∷ qs) r) (is_same p q) (q ∷ qs) _
    (λ h m. inr m)
    (λ h. by_cases (λ v. Contains v r → (p ≡ r) ⊎ Contains (q ∷ qs) r) (is_before p q) (p ∷ q ∷ qs) (q ∷ with_range qs p)
    (λ k m. Contains-cases r p (q ∷ qs) m)
    (λ k m. elim (Contains-cases r q (with_range qs p) m) [
      | inl e ↦ inr (subst (λ (x : Range). Contains (q ∷ qs) x) e (Contains-here q qs))
      | inr n ↦ elim (placed-only qs p r n) [ inl e ↦ inl e | inr o ↦ inr (Contains-later r q qs o) ]
    ]))
    n

placed-ascends : (qs : List Range) (p : Range) → Ascends qs → Ascends (with_range qs p)
placed-ascends [] p a = ((λ r m. Contains-none r m), tt)
placed-ascends (q ∷ qs) p a =
    by_cases Ascends (is_same p q) (q ∷ qs) _
    (λ h. a)
    (λ h. by_cases Ascends (is_before p q) (p ∷ q ∷ qs) (q ∷ with_range qs p)
    (λ k. ((λ r m. first k r (Contains-cases r q qs m)), a))
    (λ k. ((λ r m. next (before-other p q h k) r (placed-only qs p r m)), placed-ascends qs p a.1)))
  where
    first : is_before p q ≡ true → (r : Range) → (q ≡ r) ⊎ Contains qs r → is_before p r ≡ true
    first k r (inl e) = subst (λ (x : Range). is_before p x ≡ true) e k
    first k r (inr m) = before-trans p q r k (a.0 r m)

    next : is_before q p ≡ true → (r : Range) → (p ≡ r) ⊎ Contains qs r → is_before q r ≡ true
    next k r (inl e) = subst (λ (x : Range). is_before q x ≡ true) e k
    next k r (inr m) = a.0 r m

fold-ascends : (qs ps : List Range) → Ascends qs → Ascends (fold with_range qs ps)
fold-ascends qs [] a = a
fold-ascends qs (p ∷ ps) a = fold-ascends (with_range qs p) ps (placed-ascends qs p a)

fold-has : (qs ps : List Range) (r : Range) → Contains qs r ⊎ Contains ps r → Contains (fold with_range qs ps) r
fold-has qs [] r (inl m) = m
fold-has qs [] r (inr m) = Contains-none r m
fold-has qs (p ∷ ps) r (inl m) = fold-has (with_range qs p) ps r (inl (placed-old qs p r m))
fold-has qs (p ∷ ps) r (inr m) = elim (Contains-cases r p ps m) [
  | inl e ↦ fold-has (with_range qs p) ps r (inl (subst (λ (x : Range). Contains (with_range qs p) x) e (placed-new qs p)))
  | inr k ↦ fold-has (with_range qs p) ps r (inr k)
]

fold-only : (qs ps : List Range) (r : Range) → Contains (fold with_range qs ps) r → Contains qs r ⊎ Contains ps r
fold-only qs [] r m = inl m
fold-only qs (p ∷ ps) r m = go (fold-only (with_range qs p) ps r m)
  where
    old : (p ≡ r) ⊎ Contains qs r → Contains qs r ⊎ Contains (p ∷ ps) r
    old (inl e) = inr (subst (λ (x : Range). Contains (p ∷ ps) x) e (Contains-here p ps))
    old (inr k) = inl k

    go : Contains (with_range qs p) r ⊎ Contains ps r → Contains qs r ⊎ Contains (p ∷ ps) r
    go (inl k) = old (placed-only qs p r k)
    go (inr k) = inr (Contains-later r p ps k)

pub in_order-ascends : (ps : List Range) → Ascends (in_order ps)
in_order-ascends ps = fold-ascends [] ps tt

pub in_order-has : (ps : List Range) (r : Range) → Contains ps r → Contains (in_order ps) r
in_order-has ps r m = fold-has [] ps r (inr m)

pub in_order-only : (ps : List Range) (r : Range) → Contains (in_order ps) r → Contains ps r
in_order-only ps r m = go (fold-only [] ps r m)
  where
    go : Contains [] r ⊎ Contains ps r → Contains ps r
    go (inl k) = Contains-none r k
    go (inr k) = k

-- ranges in order with the members of a list are its distinct ranges in order
pub in_order-is : (ps qs : List Range) → Ascends qs → ((r : Range) → Contains ps r → Contains qs r) → ((r : Range) → Contains qs r → Contains ps r) → in_order ps ≡ qs
in_order-is ps qs a f g = told (in_order ps) qs (in_order-ascends ps) a (λ r m. f r (in_order-only ps r m)) (λ r m. in_order-has ps r (g r m))

-- lists with the same members have the same distinct ranges in order
pub in_order-same : (ps qs : List Range) → ((r : Range) → Contains ps r → Contains qs r) → ((r : Range) → Contains qs r → Contains ps r) → in_order ps ≡ in_order qs
in_order-same ps qs f g = in_order-is ps (in_order qs) (in_order-ascends qs) (λ r m. in_order-has qs r (f r m)) (λ r m. g r (in_order-only qs r m))
