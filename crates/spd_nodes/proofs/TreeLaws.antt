-- The test tree of a function is the only reduced whole tree with that function.
use Rattle.std.proofs.Common.{◌≡◌, ℕ, zero, suc, ◌+◌, ◌-◌, ◌<◌, ◌≤◌, ◌≢◌, ◌⊎◌, inl, inr, ◌==◌, ◌&&◌, Bool, true, false, cond, List, [], ◌∷◌, refl, sym, ◌∙◌, ap, subst, arith}
use Rattle.std.specs.Prelude.{nat_lt}
use Rattle.std.specs.Ordering.{int_eq}
use Rattle.std.proofs.lemmas.Bool.{and_parts, and_from, ne_eqb}
use Rattle.std.proofs.lemmas.Bool.Decides.{Decides-int_eq, Decides-eqb, nat_tests}
use Rattle.spd_nodes.specs.declared.leaf.Leaf.{Leaf}
use Rattle.spd_nodes.specs.declared.leaf.Leaf.TheVariants.{Num, Pair, Act}
use Rattle.spd_model.specs.States.{IsState}
use Rattle.spd_nodes.specs.Levels.{levels_of, passes, after, is_first, AllPositive, IsPast}
use Rattle.spd_nodes.specs.Trees.{Tree, Ends, Tests, leaf_eq, tree_eq, value_at, IsFrom, IsAt, IsReduced, join, chain, tree_of}

pub leaf_eq-refl : (a : Leaf) → leaf_eq a a ≡ true
leaf_eq-refl (Num a) = (Decides-int_eq a a).1 refl
leaf_eq-refl (Pair a x) = and_from _ _ ((Decides-int_eq a a).1 refl) ((Decides-int_eq x x).1 refl)
leaf_eq-refl (Act a) = (Decides-eqb a a).1 refl

pub leaf_eq-true : (a b : Leaf) → leaf_eq a b ≡ true → a ≡ b
leaf_eq-true (Num a) (Num b) e = ap Num ((Decides-int_eq a b).0 e)
leaf_eq-true (Num a) (Pair b y) e = absurd (cc e)
leaf_eq-true (Num a) (Act b) e = absurd (cc e)
leaf_eq-true (Pair a x) (Num b) e = absurd (cc e)
leaf_eq-true (Pair a x) (Pair b y) e =
    let s : (int_eq a b ≡ true) × (int_eq x y ≡ true) = and_parts _ _ e in
    let p : a ≡ b = (Decides-int_eq a b).0 s.0 in
    let q : x ≡ y = (Decides-int_eq x y).0 s.1 in
    cc
leaf_eq-true (Pair a x) (Act b) e = absurd (cc e)
leaf_eq-true (Act a) (Num b) e = absurd (cc e)
leaf_eq-true (Act a) (Pair b y) e = absurd (cc e)
leaf_eq-true (Act a) (Act b) e = ap Act ((Decides-eqb a b).0 e)

pub tree_eq-refl : (t : Tree) → tree_eq t t ≡ true
tree_eq-refl (Ends a) = leaf_eq-refl a
tree_eq-refl (Tests l y n) = and_from _ _ ((Decides-eqb l l).1 refl) (and_from _ _ (tree_eq-refl y) (tree_eq-refl n))

pub tree_eq-true : (t u : Tree) → tree_eq t u ≡ true → t ≡ u
tree_eq-true (Ends a) (Ends b) e = ap Ends (leaf_eq-true a b e)
tree_eq-true (Ends a) (Tests l y n) e = absurd (cc e)
tree_eq-true (Tests k y n) (Ends b) e = absurd (cc e)
tree_eq-true (Tests k y n) (Tests l v m) e =
    let s : (k == l ≡ true) × ((tree_eq y v && tree_eq n m) ≡ true) = and_parts (k == l) _ e in
    let r : (tree_eq y v ≡ true) × (tree_eq n m ≡ true) = and_parts _ _ s.1 in
    let a : k ≡ l = (Decides-eqb k l).0 s.0 in
    let b : y ≡ v = tree_eq-true y v r.0 in
    let c : n ≡ m = tree_eq-true n m r.1 in
    cc

pub tree_eq-false : (t u : Tree) → t ≢ u → tree_eq t u ≡ false
tree_eq-false t u h = go (tree_eq t u) refl
  where
    go : (b : Bool) → tree_eq t u ≡ b → tree_eq t u ≡ false
    go true e = absurd (h (tree_eq-true t u e))
    go false e = e

pub join-same : (l : ℕ) (t : Tree) → join l t t ≡ t
join-same l t = rw (tree_eq-refl t) refl

pub join-differ : (l : ℕ) (y n : Tree) → y ≢ n → join l y n ≡ Tests l y n
join-differ l y n h = rw (tree_eq-false y n h) refl

-- a level past the first slot, seen from the second
skip : (d b l : ℕ) → b + (d - 1) ≤ l → nat_lt (l - b) (d - 1) ≡ false
skip d b l h = grind (arith, nat_tests)

within : (d b l : ℕ) → b ≤ l → l < b + (d - 1) → nat_lt (l - b) (d - 1) ≡ true
within d b l g h = grind (arith, nat_tests)

shift : (d b l : ℕ) → (l - b) - (d - 1) ≡ l - (b + (d - 1))
shift d b l = omega arith

is_first-skip : (d : ℕ) (ds : List ℕ) (b l : ℕ) → b + (d - 1) ≤ l → is_first (d ∷ ds) (l - b) ≡ is_first ds (l - (b + (d - 1)))
is_first-skip d ds b l h = rw (skip d b l h, shift d b l) refl

after-skip : (d : ℕ) (ds : List ℕ) (b l : ℕ) → b + (d - 1) ≤ l → b + after (d ∷ ds) (l - b) ≡ (b + (d - 1)) + after ds (l - (b + (d - 1)))
after-skip d ds b l h = rw (skip d b l h, shift d b l) (omega arith)

pub passes-skip : (d : ℕ) (ds : List ℕ) (b l x : ℕ) (p : List ℕ) → b + (d - 1) ≤ l → passes (d ∷ ds) (l - b) (x ∷ p) ≡ passes ds (l - (b + (d - 1))) p
passes-skip d ds b l x p h = rw (skip d b l h, shift d b l) refl

pub after_above : (ds : List ℕ) (l : ℕ) → l < levels_of ds → l < after ds l
after_above [] l h = omega arith
after_above (d ∷ ds) l h = go (nat_lt l (d - 1)) refl (after_above ds (l - (d - 1)))
  where
    go : (t : Bool) → nat_lt l (d - 1) ≡ t → (l - (d - 1) < levels_of ds → l - (d - 1) < after ds (l - (d - 1))) → l < cond t (d - 1) ((d - 1) + after ds (l - (d - 1)))
    go true e i = grind (arith, nat_tests)
    go false e i =
        let g : d - 1 ≤ l = grind (arith, nat_tests) in
        let k : l - (d - 1) < after ds (l - (d - 1)) = i (omega arith) in
        omega arith

-- the root's level, if there is one, is at least `e`
abbrev RootAbove : ℕ → Tree → Type 0
RootAbove e (Ends a) = Unit {0}
RootAbove e (Tests l y n) = e ≤ l

IsFrom-skip : (d : ℕ) (ds : List ℕ) (b e : ℕ) (t : Tree) → b + (d - 1) ≤ e → IsFrom (d ∷ ds) b e t → IsFrom ds (b + (d - 1)) e t
IsFrom-skip d ds b e (Ends a) g h = tt
IsFrom-skip d ds b e (Tests l y n) g h = (h.0, sym (is_first-skip d ds b l (omega arith)) ∙ h.1)

RootAbove-from : (ds : List ℕ) (b e k : ℕ) (t : Tree) → e ≤ k → IsFrom ds b k t → RootAbove e t
RootAbove-from ds b e k (Ends a) g h = tt
RootAbove-from ds b e k (Tests l y n) g h = omega arith

RootAbove-at : (e k : ℕ) (t : Tree) → e ≤ k → IsAt k t → RootAbove e t
RootAbove-at e k (Ends a) g h = tt
RootAbove-at e k (Tests l y n) g h = omega arith

-- both children of a test above the first slot are above it
module _ (d : ℕ) (ds : List ℕ) (b l : ℕ) (y n : Tree) (g : b + (d - 1) ≤ l) (h : IsReduced (d ∷ ds) b (Tests l y n)) where
  yes-above : RootAbove (b + (d - 1)) y
  yes-above = RootAbove-from (d ∷ ds) b _ _ y (omega (arith, after-skip d ds b l g)) h.3

  no-above : RootAbove (b + (d - 1)) n
  no-above = elim h.4 [ inl k ↦ RootAbove-from (d ∷ ds) b _ _ n (omega (arith, after-skip d ds b l g)) k | inr k ↦ RootAbove-at _ (l + 1) n (omega arith) k.0 ]

  from-skip : (t : Tree) → IsFrom (d ∷ ds) b (b + after (d ∷ ds) (l - b)) t → IsFrom ds (b + (d - 1)) ((b + (d - 1)) + after ds (l - (b + (d - 1)))) t
  from-skip t k = rw (sym (after-skip d ds b l g)) (IsFrom-skip d ds b _ t (omega (arith, after-skip d ds b l g)) k)

-- a tree above the first slot, as a tree over the others
IsReduced-skip : (d : ℕ) (ds : List ℕ) (b : ℕ) (t : Tree) → RootAbove (b + (d - 1)) t → IsReduced (d ∷ ds) b t → IsReduced ds (b + (d - 1)) t
IsReduced-skip d ds b (Ends a) g h = tt
IsReduced-skip d ds b (Tests l y n) g h = (
  g,
  omega arith,
  h.2,
  from-skip d ds b l y n g h y h.3,
  elim h.4 [ inl k ↦ inl (from-skip d ds b l y n g h n k) | inr k ↦ inr (k.0, omega (arith, after-skip d ds b l g)) ],
  IsReduced-skip d ds b y (yes-above d ds b l y n g h) h.5,
  IsReduced-skip d ds b n (no-above d ds b l y n g h) h.6,
)

value_at-skip : (d : ℕ) (ds : List ℕ) (b x : ℕ) (p : List ℕ) (t : Tree) → RootAbove (b + (d - 1)) t → IsReduced (d ∷ ds) b t → value_at (d ∷ ds) b t (x ∷ p) ≡ value_at ds (b + (d - 1)) t p
value_at-skip d ds b x p (Ends a) g h = refl
value_at-skip d ds b x p (Tests l y n) g h =
    rw (passes-skip d ds b l x p g, value_at-skip d ds b x p y (yes-above d ds b l y n g h) h.5, value_at-skip d ds b x p n (no-above d ds b l y n g h) h.6) refl

after-within : (d : ℕ) (ds : List ℕ) (b l : ℕ) → b ≤ l → l < b + (d - 1) → after (d ∷ ds) (l - b) ≡ d - 1
after-within d ds b l g h = rw (within d b l g h) refl

passes-within : (d : ℕ) (ds : List ℕ) (b l x : ℕ) (p : List ℕ) → b ≤ l → l < b + (d - 1) → passes (d ∷ ds) (l - b) (x ∷ p) ≡ (x == l - b)
passes-within d ds b l x p g h = rw (within d b l g h) refl

eq-true : (x y : ℕ) → x ≡ y → (x == y) ≡ true
eq-true x y e = (Decides-eqb x y).1 e

-- what is asked of the slots after the first one
abbrev Rebuilds : List ℕ → ℕ → Type 0
Rebuilds ds b = (t : Tree) → IsReduced ds b t → IsFrom ds b b t → tree_of ds b (value_at ds b t) ≡ t

module _ (d : ℕ) (ds : List ℕ) (b : ℕ) (rest : Rebuilds ds (b + (d - 1))) where
  -- a tree above the first slot is the tree of its function at each value of that slot
  tree_of-above : (k : ℕ) (t : Tree) → IsReduced (d ∷ ds) b t → IsFrom (d ∷ ds) b (b + (d - 1)) t → tree_of ds (b + (d - 1)) (λ p. value_at (d ∷ ds) b t (k ∷ p)) ≡ t
  tree_of-above k t r f =
      let a : RootAbove (b + (d - 1)) t = RootAbove-from (d ∷ ds) b (b + (d - 1)) (b + (d - 1)) t (omega arith) f in
      ap (tree_of ds (b + (d - 1))) (λ i p. value_at-skip d ds b k p t a r i)
      ∙ rest t (IsReduced-skip d ds b t a r) (IsFrom-skip d ds b (b + (d - 1)) t (omega arith) f)

  chain-rebuilds : (n j l : ℕ) (t : Tree) (sub : ℕ → Tree) → n + j ≡ d - 1 → l ≡ b + j → IsReduced (d ∷ ds) b t
      → (IsFrom (d ∷ ds) b (b + (d - 1)) t ⊎ (IsAt l t × (l < b + (d - 1))))
      → ((k : ℕ) → j ≤ k → sub k ≡ tree_of ds (b + (d - 1)) (λ p. value_at (d ∷ ds) b t (k ∷ p)))
      → chain n j l sub ≡ t
  chain-rebuilds zero j l t sub e f r (inl a) h = h j (omega arith) ∙ tree_of-above j t r a
  chain-rebuilds zero j l t sub e f r (inr a) h = absurd (omega arith)
  chain-rebuilds (suc n) j l t sub e f r (inl a) h =
      let y : sub j ≡ t = h j (omega arith) ∙ tree_of-above j t r a in
      let m : chain n (j + 1) (l + 1) sub ≡ t = chain-rebuilds n (j + 1) (l + 1) t sub (omega arith) (omega arith) r (inl a) (λ k o. h k (omega arith)) in
      rw (y, m) (join-same l t)
  chain-rebuilds (suc n) j l (Ends v) sub e f r (inr a) h = absurd a.0
  chain-rebuilds (suc n) j l (Tests k y m) sub e f r (inr a) h =
      let kl : k ≡ l = a.0 in
      let lo : b ≤ k = omega arith in
      let hi : k < b + (d - 1) = omega arith in
      let aw : b + after (d ∷ ds) (k - b) ≡ b + (d - 1) = ap (λ v. b + v) (after-within d ds b k lo hi) in
      let fy : IsFrom (d ∷ ds) b (b + (d - 1)) y = rw aw at r.3 in
      let fm : IsFrom (d ∷ ds) b (b + (d - 1)) m ⊎ (IsAt (l + 1) m × (l + 1 < b + (d - 1))) =
      elim r.4 [ inl u ↦ inl (rw aw at u) | inr u ↦ inr (subst (λ v. IsAt (v + 1) m) kl u.0, omega arith) ] in
      let at_yes : (p : List ℕ) → value_at (d ∷ ds) b (Tests k y m) (j ∷ p) ≡ value_at (d ∷ ds) b y (j ∷ p) =
      λ p. rw (passes-within d ds b k j p lo hi, eq-true j (k - b) (omega arith)) refl in
      let at_no : (q : ℕ) → j + 1 ≤ q → (p : List ℕ) → value_at (d ∷ ds) b (Tests k y m) (q ∷ p) ≡ value_at (d ∷ ds) b m (q ∷ p) =
      λ q o p. rw (passes-within d ds b k q p lo hi, ne_eqb q (k - b) (omega arith)) refl in
      let sy : sub j ≡ y = h j (omega arith) ∙ ap (tree_of ds (b + (d - 1))) (λ i p. at_yes p i) ∙ tree_of-above j y r.5 fy in
      let sm : chain n (j + 1) (l + 1) sub ≡ m =
      chain-rebuilds n (j + 1) (l + 1) m sub (omega arith) (omega arith) r.6 fm
      (λ q o. h q (omega arith) ∙ ap (tree_of ds (b + (d - 1))) (λ i p. at_no q o p i)) in
      rw (sy, sm) (join-differ l y m r.2 ∙ ap (λ v. Tests v y m) (sym kl))

-- a reduced whole tree is the tree of its function
pub tree_of-value_at : (ds : List ℕ) (b : ℕ) (t : Tree) → IsReduced ds b t → IsFrom ds b b t → tree_of ds b (value_at ds b t) ≡ t
tree_of-value_at [] b (Ends a) r f = refl
tree_of-value_at [] b (Tests l y n) r f = absurd (omega arith)
tree_of-value_at (d ∷ ds) b t r f =
    chain-rebuilds d ds b (tree_of-value_at ds (b + (d - 1))) (d - 1) 0 b t
    (λ j. tree_of ds (b + (d - 1)) (λ p. value_at (d ∷ ds) b t (j ∷ p))) (omega arith) (omega arith) r (at_start d ds b t r f) (λ k o. refl)
  where
    at_start : (d : ℕ) (ds : List ℕ) (b : ℕ) (t : Tree) → IsReduced (d ∷ ds) b t → IsFrom (d ∷ ds) b b t → IsFrom (d ∷ ds) b (b + (d - 1)) t ⊎ (IsAt b t × (b < b + (d - 1)))
    at_start d ds b (Ends a) r f = inl tt
    at_start d ds b (Tests l y n) r f = go (nat_lt (l - b) (d - 1)) refl f.1
      where
        go : (t : Bool) → nat_lt (l - b) (d - 1) ≡ t → cond t (l - b == 0) (is_first ds (l - b - (d - 1))) ≡ true
            → IsFrom (d ∷ ds) b (b + (d - 1)) (Tests l y n) ⊎ (IsAt b (Tests l y n) × (b < b + (d - 1)))
        go true e i = inr (grind (arith, nat_tests), grind (arith, nat_tests))
        go false e i = inl (grind (arith, nat_tests), f.1)

chain-agree : (n j l : ℕ) (u v : ℕ → Tree) → ((k : ℕ) → j ≤ k → k ≤ j + n → u k ≡ v k) → chain n j l u ≡ chain n j l v
chain-agree zero j l u v h = h j (omega arith) (omega arith)
chain-agree (suc n) j l u v h =
    let a : u j ≡ v j = h j (omega arith) (omega arith) in
    let b : chain n (j + 1) (l + 1) u ≡ chain n (j + 1) (l + 1) v = chain-agree n (j + 1) (l + 1) u v (λ k e f. h k (omega arith) (omega arith)) in
    ap (λ t. join l t (chain n (j + 1) (l + 1) u)) a ∙ ap (join l (v j)) b

-- functions that agree in range have one tree
pub tree_of-agree : (ds : List ℕ) (b : ℕ) (f g : List ℕ → Leaf) → AllPositive ds → ((p : List ℕ) → IsState ds p → f p ≡ g p) → tree_of ds b f ≡ tree_of ds b g
tree_of-agree [] b f g o h = ap Ends (h [] tt)
tree_of-agree (d ∷ ds) b f g o h =
    chain-agree (d - 1) 0 b _ _ (λ k u v. tree_of-agree ds (b + (d - 1)) (λ p. f (k ∷ p)) (λ p. g (k ∷ p)) o.1 (λ p i. h (k ∷ p) (omega arith, i)))

-- two reduced trees of one first level with equal values in range from that level's value on are equal
pub one_part : (ds : List ℕ) (b l : ℕ) (t u : Tree) → AllPositive ds → b ≤ l → IsReduced ds b t → IsReduced ds b u → IsAt l t → IsAt l u
    → ((p : List ℕ) → IsState ds p → IsPast ds (l - b) p → value_at ds b t p ≡ value_at ds b u p) → t ≡ u
one_part [] b l (Ends a) u o q r s f g h = absurd f
one_part [] b l (Tests k y n) u o q r s f g h = absurd (omega arith)
one_part (d ∷ ds) b l t u o q r s f g h = go (nat_lt (l - b) (d - 1)) refl (one_part ds (b + (d - 1)) l t u o.1)
  where
    Same : Type 0
    Same = (p : List ℕ) → IsState ds p → IsPast ds (l - (b + (d - 1))) p → value_at ds (b + (d - 1)) t p ≡ value_at ds (b + (d - 1)) u p

    go : (z : Bool) → nat_lt (l - b) (d - 1) ≡ z
        → (b + (d - 1) ≤ l → IsReduced ds (b + (d - 1)) t → IsReduced ds (b + (d - 1)) u → IsAt l t → IsAt l u
        → ((p : List ℕ) → IsState ds p → IsPast ds (l - (b + (d - 1))) p → value_at ds (b + (d - 1)) t p ≡ value_at ds (b + (d - 1)) u p) → t ≡ u) → t ≡ u
    go true z ih =
        let lo : l < b + (d - 1) = grind (arith, nat_tests) in
        let n : ((d - 1) - (l - b)) + (l - b) ≡ d - 1 = omega arith in
        let e : l ≡ b + (l - b) = omega arith in
        sym (chain-rebuilds d ds b (tree_of-value_at ds (b + (d - 1))) ((d - 1) - (l - b)) (l - b) l t (λ k. tree_of ds (b + (d - 1)) (λ p. value_at (d ∷ ds) b t (k ∷ p))) n e r (inr (f, lo)) (λ k m. refl))
        ∙ chain-agree ((d - 1) - (l - b)) (l - b) l _ _ (λ k v w. tree_of-agree ds (b + (d - 1)) _ _ o.1 (λ p i. h (k ∷ p) (omega arith, i) (rw z v)))
        ∙ chain-rebuilds d ds b (tree_of-value_at ds (b + (d - 1))) ((d - 1) - (l - b)) (l - b) l u (λ k. tree_of ds (b + (d - 1)) (λ p. value_at (d ∷ ds) b u (k ∷ p))) n e s (inr (g, lo)) (λ k m. refl)
    go false z ih =
        let hi : b + (d - 1) ≤ l = grind (arith, nat_tests) in
        let at : RootAbove (b + (d - 1)) t = RootAbove-at (b + (d - 1)) l t hi f in
        let au : RootAbove (b + (d - 1)) u = RootAbove-at (b + (d - 1)) l u hi g in
        ih hi (IsReduced-skip d ds b t at r) (IsReduced-skip d ds b u au s) f g
        (λ p i m. sym (value_at-skip d ds b 0 p t at r) ∙ h (0 ∷ p) (o.0, i) (rw (z, shift d b l) m) ∙ value_at-skip d ds b 0 p u au s)
