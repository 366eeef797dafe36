-- A tree with another one in its place at one value of a slot.
use Rattle.std.proofs.Common.{◌≡◌, ℕ, zero, suc, ◌+◌, ◌-◌, ◌<◌, ◌≤◌, ◌⊎◌, inl, inr, ◌==◌, Bool, true, false, cond, List, get_or, refl, sym, ◌∙◌, ap, subst, arith}
use Rattle.std.specs.Prelude.{nat_lt}
use Rattle.std.proofs.lemmas.Bool.Decides.{Decides-eqb, nat_tests}
use Rattle.std.proofs.lemmas.List.{set-get_or}
use Rattle.spd_nodes.specs.declared.leaf.Leaf.{Leaf}
use Rattle.spd_model.specs.States.{IsState}
use Rattle.spd_nodes.specs.Levels.{passes, after, IsSlot}
use Rattle.spd_nodes.specs.Trees.{Tree, Ends, Tests, value_at, IsFrom, IsAt, IsReduced, join, IsAtOrPast}
use Rattle.spd_apply.specs.Applied.{against}
use Rattle.spd_apply.specs.Halves.{yes_at, no_at, IsNotBefore}
use Rattle.spd_nodes.proofs.CallerLemmas.{same_level, first0, after_le, after-next, first-past, level_of-reduced, Joins, joins, IsFrom-at, IsFrom-lower, Parts, parts, after-in, after-before, first-is, passes-in, join-differ, join-same, value_at-join}
use Rattle.std.proofs.lemmas.Bool.{cases_order, ne_eqb}
use Rattle.spd_apply.proofs.CallerLemmas.{GoesDown, Splits, eq-refl, made-whole, splits-fits, value_at-against}
use Rattle.spd_restrict.specs.Replaced.{replaced_after, down_to, replaced, IsWholeFrom}

minus-zero : (l : ℕ) → l - 0 ≡ l
minus-zero l = omega arith

-- the leaf of a half is the tree's leaf, where the test holds or doesn't
pub value-yes : (ds : List ℕ) (l : ℕ) (t : Tree) (p : List ℕ) → passes ds l p ≡ true → value_at ds 0 (yes_at l t) p ≡ value_at ds 0 t p
value-yes ds l (Ends a) p h = refl
value-yes ds l (Tests k y n) p h = go (k == l) refl
  where
    go : (b : Bool) → (k == l) ≡ b → value_at ds 0 (cond b y (Tests k y n)) p ≡ value_at ds 0 (Tests k y n) p
    go true e =
        let i : k - 0 ≡ l = omega (arith, (Decides-eqb k l).0 e) in
        rw (i, h) refl
    go false e = refl

pub value-no : (ds : List ℕ) (l : ℕ) (t : Tree) (p : List ℕ) → passes ds l p ≡ false → value_at ds 0 (no_at l t) p ≡ value_at ds 0 t p
value-no ds l (Ends a) p h = refl
value-no ds l (Tests k y n) p h = go (k == l) refl
  where
    go : (b : Bool) → (k == l) ≡ b → value_at ds 0 (cond b n (Tests k y n)) p ≡ value_at ds 0 (Tests k y n) p
    go true e =
        let i : k - 0 ≡ l = omega (arith, (Decides-eqb k l).0 e) in
        rw (i, h) refl
    go false e = refl

module _ (ds : List ℕ) (slot first end : ℕ) (s : IsSlot ds slot first end) where
  -- a point in range passes the tests of its own value alone
  passes-slot : (l : ℕ) (p : List ℕ) → first ≤ l → l < end → IsState ds p → passes ds l p ≡ (get_or p slot 0 == l - first)
  passes-slot l p g h i =
      ap (passes ds l) (sym (set-get_or p slot 0)) ∙ passes-in ds slot first end l (get_or p slot 0) p s g h i

  module _ (value : ℕ) (p : List ℕ) (i : IsState ds p) where
    -- one of two leaves, by whether the point's value in the slot is this one
    abbrev picks : Leaf → Leaf → Leaf
    picks a b = cond (get_or p slot 0 == value) a b

    value_at-replaced_after : (n l : ℕ) (t u : Tree) → first ≤ l → l + n < end → (l - first) + n ≡ value → value_at ds 0 (replaced_after n l t u) p ≡ picks (value_at ds 0 t p) (value_at ds 0 u p)
    value_at-replaced_after zero l t u g h e = value_at-join ds 0 l (yes_at l t) (no_at l u) p ∙ go (passes ds l p) refl
      where
        at : l - first ≡ value
        at = omega arith

        is : passes ds l p ≡ (get_or p slot 0 == value)
        is = passes-slot l p g (omega arith) i ∙ ap (λ v. get_or p slot 0 == v) at

        go : (b : Bool) → passes ds l p ≡ b → cond (passes ds (l - 0) p) (value_at ds 0 (yes_at l t) p) (value_at ds 0 (no_at l u) p) ≡ picks (value_at ds 0 t p) (value_at ds 0 u p)
        go true q = let r : (get_or p slot 0 == value) ≡ true = sym is ∙ q in rw (minus-zero l, q, r) (value-yes ds l t p q)
        go false q = let r : (get_or p slot 0 == value) ≡ false = sym is ∙ q in rw (minus-zero l, q, r) (value-no ds l u p q)
    value_at-replaced_after (suc n) l t u g h e =
        value_at-join ds 0 l (yes_at l u) (replaced_after n (l + 1) (no_at l t) (no_at l u)) p
        ∙ go (passes ds l p) refl (value_at-replaced_after n (l + 1) (no_at l t) (no_at l u) (omega arith) (omega arith) (omega arith))
      where
        is : passes ds l p ≡ (get_or p slot 0 == l - first)
        is = passes-slot l p g (omega arith) i

        go : (b : Bool) → passes ds l p ≡ b → value_at ds 0 (replaced_after n (l + 1) (no_at l t) (no_at l u)) p ≡ picks (value_at ds 0 (no_at l t) p) (value_at ds 0 (no_at l u) p)
            → cond (passes ds (l - 0) p) (value_at ds 0 (yes_at l u) p) (value_at ds 0 (replaced_after n (l + 1) (no_at l t) (no_at l u)) p) ≡ picks (value_at ds 0 t p) (value_at ds 0 u p)
        go true q j =
            let k : get_or p slot 0 ≡ l - first = (Decides-eqb (get_or p slot 0) (l - first)).0 (sym is ∙ q) in
            let r : (get_or p slot 0 == value) ≡ false = ne_eqb (get_or p slot 0) value (omega arith) in
            rw (minus-zero l, q, r) (value-yes ds l u p q)
        go false q j = rw (minus-zero l, q) (j ∙ rw (value-no ds l t p q, value-no ds l u p q) refl)

    picks-both : (t : Bool) (a x y : Leaf) → cond t (picks a x) (picks a y) ≡ picks a (cond t x y)
    picks-both true a x y = refl
    picks-both false a x y = refl

    value_at-down_to : (go : Tree → Tree) (a : Leaf) → ((u : Tree) → value_at ds 0 (go u) p ≡ picks a (value_at ds 0 u p)) → (u : Tree) → value_at ds 0 (down_to first go u) p ≡ picks a (value_at ds 0 u p)
    value_at-down_to go a h (Ends b) = h (Ends b)
    value_at-down_to go a h (Tests l y n) = on (nat_lt l first) (value_at-down_to go a h y) (value_at-down_to go a h n)
      where
        on : (b : Bool) → value_at ds 0 (down_to first go y) p ≡ picks a (value_at ds 0 y p) → value_at ds 0 (down_to first go n) p ≡ picks a (value_at ds 0 n p)
            → value_at ds 0 (cond b (join l (down_to first go y) (down_to first go n)) (go (Tests l y n))) p ≡ picks a (value_at ds 0 (Tests l y n) p)
        on true j k = value_at-join ds 0 l (down_to first go y) (down_to first go n) p ∙ rw (j, k) (picks-both (passes ds (l - 0) p) a _ _)
        on false j k = h (Tests l y n)

    -- at each point in range the tree with another one in its place has the other one's leaf where the slot has the value
    pub value_at-replaced : first + value < end → (t u : Tree) → value_at ds 0 (replaced first value t u) p ≡ picks (value_at ds 0 t p) (value_at ds 0 u p)
    value_at-replaced h (Ends a) u =
        value_at-down_to (replaced_after value first (Ends a)) a (λ v. value_at-replaced_after value first (Ends a) v (omega arith) (omega arith) (omega arith)) u
    value_at-replaced h (Tests k y n) u = on (nat_lt k first) (λ v. value_at-replaced h y v) (λ v. value_at-replaced h n v)
      where
        on : (b : Bool) → ((v : Tree) → value_at ds 0 (replaced first value y v) p ≡ picks (value_at ds 0 y p) (value_at ds 0 v p)) → ((v : Tree) → value_at ds 0 (replaced first value n v) p ≡ picks (value_at ds 0 n p) (value_at ds 0 v p))
            → value_at ds 0 (cond b (against k (replaced first value y) (replaced first value n) u) (down_to first (replaced_after value first (Tests k y n)) u)) p
            ≡ picks (value_at ds 0 (Tests k y n) p) (value_at ds 0 u p)
        on true iy jn = value_at-against ds 0 picks p k y n (replaced first value y) (replaced first value n) iy jn u
        on false iy jn = value_at-down_to (replaced_after value first (Tests k y n)) (value_at ds 0 (Tests k y n) p)
            (λ v. value_at-replaced_after value first (Tests k y n) v (omega arith) (omega arith) (omega arith)) u

pub fits-next : (ds : List ℕ) (l : ℕ) (t : Tree) → l + 1 < after ds l → Splits ds l t → IsAtOrPast ds (l + 1) (no_at l t)
fits-next ds l t h s = elim s.no_fits [ inl f ↦ inl (rw (after-next ds l h) f) | inr f ↦ inr f.0 ]

-- a test of a tree's halves is the tree
pub itself-join : (ds : List ℕ) (l : ℕ) (t : Tree) → IsReduced ds 0 t → join l (yes_at l t) (no_at l t) ≡ t
itself-join ds l (Ends a) r = join-same l (Ends a)
itself-join ds l (Tests k y n) r = go (k == l) refl
  where
    go : (b : Bool) → (k == l) ≡ b → join l (cond b y (Tests k y n)) (cond b n (Tests k y n)) ≡ Tests k y n
    go true e = let i : k ≡ l = (Decides-eqb k l).0 e in rw (sym i) (join-differ k y n r.2)
    go false e = join-same l (Tests k y n)

-- at a slot's test it may be such a test's child
pub joins-replaced_after : (ds : List ℕ) (n l : ℕ) (t u : Tree) → l + n < after ds l → IsReduced ds 0 t → IsReduced ds 0 u → IsAtOrPast ds l t → IsAtOrPast ds l u → Joins ds l (replaced_after n l t u)
joins-replaced_after ds zero l t u h r s f g =
    let a : Splits ds l t = splits-fits ds l t (omega arith) r f in
    let b : Splits ds l u = splits-fits ds l u (omega arith) s g in
    joins ds l (yes_at l t) (no_at l u) (omega (arith, after_le ds l)) a.yes_reduced b.no_reduced (record { yes_fits = a.yes_from; no_fits = b.no_fits })
joins-replaced_after ds (suc n) l t u h r s f g =
    let a : Splits ds l t = splits-fits ds l t (omega arith) r f in
    let b : Splits ds l u = splits-fits ds l u (omega arith) s g in
    let next : l + 1 < after ds l = omega arith in
    let e : after ds (l + 1) ≡ after ds l = after-next ds l next in
    let j : Joins ds (l + 1) (replaced_after n (l + 1) (no_at l t) (no_at l u)) =
    joins-replaced_after ds n (l + 1) (no_at l t) (no_at l u) (omega arith) a.no_reduced b.no_reduced (fits-next ds l t next a) (fits-next ds l u next b) in
    joins ds l (yes_at l u) (replaced_after n (l + 1) (no_at l t) (no_at l u)) (omega (arith, after_le ds l)) b.yes_reduced j.reduced
    (record { yes_fits = b.yes_from; no_fits = elim j.fits [ inl q ↦ inl (rw e at q) | inr q ↦ inr (q, next) ] })

module _ (first value : ℕ) where
  -- before the slot it is the join of such trees
  join-right : (l : ℕ) (t v m : Tree) → l < first → IsNotBefore l t → replaced first value t (Tests l v m) ≡ join l (replaced first value (yes_at l t) v) (replaced first value (no_at l t) m)
  join-right l (Ends a) v m b h = let a : nat_lt l first ≡ true = grind (arith, nat_tests) in rw a refl
  join-right l (Tests k y n) v m b h = go (k == l) refl (nat_lt k first) refl
    where
      before : nat_lt l first ≡ true
      before = grind (arith, nat_tests)

      go : (c : Bool) → (k == l) ≡ c → (d : Bool) → nat_lt k first ≡ d
          → cond d (against k (replaced first value y) (replaced first value n) (Tests l v m)) (down_to first (replaced_after value first (Tests k y n)) (Tests l v m))
          ≡ join l (replaced first value (cond c y (Tests k y n)) v) (replaced first value (cond c n (Tests k y n)) m)
      go true e true i =
          let a : nat_lt k l ≡ false = grind (arith, nat_tests) in
          let c : nat_lt l k ≡ false = grind (arith, nat_tests) in
          rw (a, c) (ap (λ j. join j (replaced first value y v) (replaced first value n m)) (same_level k l a c))
      go true e false i = absurd (grind (arith, nat_tests))
      go false e true i =
          let a : nat_lt k l ≡ false = grind (arith, nat_tests) in
          let c : nat_lt l k ≡ true = grind (arith, nat_tests) in
          rw (a, c, i) refl
      go false e false i = rw (before, i) refl

  join-left : (k : ℕ) (y n u : Tree) → k < first → IsNotBefore k u → replaced first value (Tests k y n) u ≡ join k (replaced first value y (yes_at k u)) (replaced first value n (no_at k u))
  join-left k y n (Ends b) i h = let a : nat_lt k first ≡ true = grind (arith, nat_tests) in rw a refl
  join-left k y n (Tests l v m) i h = go (l == k) refl
    where
      before : nat_lt k first ≡ true
      before = grind (arith, nat_tests)

      go : (b : Bool) → (l == k) ≡ b → replaced first value (Tests k y n) (Tests l v m) ≡ join k (replaced first value y (cond b v (Tests l v m))) (replaced first value n (cond b m (Tests l v m)))
      go true e =
          let a : nat_lt k l ≡ false = grind (arith, nat_tests) in
          let c : nat_lt l k ≡ false = grind (arith, nat_tests) in
          rw (before, a, c) refl
      go false e =
          let a : nat_lt k l ≡ true = grind (arith, nat_tests) in
          rw (before, a) refl

  pub replaced-join : (l : ℕ) (t u : Tree) → l < first → IsNotBefore l t → IsNotBefore l u → IsAt l t ⊎ IsAt l u
      → replaced first value t u ≡ join l (replaced first value (yes_at l t) (yes_at l u)) (replaced first value (no_at l t) (no_at l u))
  replaced-join l (Ends a) u b h i (inl e) = absurd e
  replaced-join l (Tests k y n) u b h i (inl e) =
      subst (λ j. j < first → IsNotBefore j u → replaced first value (Tests k y n) u ≡ join j (replaced first value (yes_at j (Tests k y n)) (yes_at j u)) (replaced first value (no_at j (Tests k y n)) (no_at j u))) e
      (λ c g. rw (eq-refl k) (join-left k y n u c g)) b i
  replaced-join l t (Ends c) b h i (inr e) = absurd e
  replaced-join l t (Tests k v m) b h i (inr e) =
      subst (λ j. j < first → IsNotBefore j t → replaced first value t (Tests k v m) ≡ join j (replaced first value (yes_at j t) (yes_at j (Tests k v m))) (replaced first value (no_at j t) (no_at j (Tests k v m)))) e
      (λ c g. rw (eq-refl k) (join-right k t v m c g)) b h

  -- of trees that aren't before the slot it is made at the slot
  at-right : (go : Tree → Tree) (u : Tree) → IsNotBefore first u → down_to first go u ≡ go u
  at-right go (Ends b) h = refl
  at-right go (Tests l v m) h = let a : nat_lt l first ≡ false = grind (arith, nat_tests) in rw a refl

  pub replaced-bottom : (t u : Tree) → IsNotBefore first t → IsNotBefore first u → replaced first value t u ≡ replaced_after value first t u
  replaced-bottom (Ends a) u f g = at-right (replaced_after value first (Ends a)) u g
  replaced-bottom (Tests k y n) u f g = let a : nat_lt k first ≡ false = grind (arith, nat_tests) in rw a (at-right (replaced_after value first (Tests k y n)) u g)

-- a whole tree that isn't before a slot tests the slot first, or is past it
pub fits-first : (ds : List ℕ) (first : ℕ) (t : Tree) → IsReduced ds 0 t → IsNotBefore first t → IsWholeFrom ds first t → IsAtOrPast ds first t
fits-first ds first (Ends a) r h f = inl tt
fits-first ds first (Tests k y n) r h f = go (cases_order k first)
  where
    go : (k ≡ first) ⊎ (k < first) ⊎ (first < k) → IsAtOrPast ds first (Tests k y n)
    go (inl g) = inr g
    go (inr (inl g)) = absurd (omega arith)
    go (inr (inr g)) = inl (first-past ds first k g (f h) (level_of-reduced ds k y n r), rw (minus-zero k) (f h))

pub whole-from : (ds : List ℕ) (first e : ℕ) (t : Tree) → IsFrom ds 0 e t → IsWholeFrom ds first t
whole-from ds first e (Ends a) f = tt
whole-from ds first e (Tests k y n) f = λ h. first0 ds k f.1

pub whole-at : (ds : List ℕ) (first l : ℕ) (t : Tree) → l < first → IsAt l t → IsWholeFrom ds first t
whole-at ds first l (Ends a) h f = tt
whole-at ds first l (Tests k y n) h f = λ g. absurd (omega (arith, f))

module _ (ds : List ℕ) (slot first end : ℕ) (s : IsSlot ds slot first end) (value : ℕ) (h : first + value < end) where
  room : first + value < after ds first
  room = rw (after-in ds slot first end first s (omega arith) (omega arith)) h

  bottom : (e : ℕ) (t u : Tree) → e ≤ first → IsReduced ds 0 t → IsReduced ds 0 u → IsNotBefore first t → IsNotBefore first u → IsFrom ds 0 e t → IsFrom ds 0 e u
      → IsReduced ds 0 (replaced first value t u) × IsFrom ds 0 e (replaced first value t u)
  bottom e t u b r q f g i j =
      let w : Joins ds first (replaced_after value first t u) =
      joins-replaced_after ds value first t u room r q (fits-first ds first t r f (whole-from ds first e t i)) (fits-first ds first u q g (whole-from ds first e u j)) in
      let k : IsFrom ds 0 e (replaced_after value first t u) = elim w.fits [
        | inl a ↦ IsFrom-lower ds e (after ds first) (replaced_after value first t u) (omega (arith, room)) a
        | inr a ↦ IsFrom-at ds e first (replaced_after value first t u) b (first-is ds slot first end s (omega arith)) a
      ] in
      rw (replaced-bottom first value t u f g) (w.reduced, k)

  -- the operation goes down to the slot
  pub replaced-goes : GoesDown ds first (replaced first value)
  replaced-goes = record {
    within = λ l i b. after-before ds slot first end l s b;
    is_join = λ l t u b f g e. replaced-join first value l t u b f g e;
    bottom = bottom;
  }

  -- what it makes of whole trees is such a tree
  pub replaced-whole : (t u : Tree) → IsReduced ds 0 t → IsReduced ds 0 u → IsFrom ds 0 0 t → IsFrom ds 0 0 u → IsReduced ds 0 (replaced first value t u) × IsFrom ds 0 0 (replaced first value t u)
  replaced-whole t u r q f g = made-whole ds first (replaced first value) replaced-goes t u r q f g

  -- at the slot two whole trees have its tests
  pub can-replace : (t u : Tree) → IsReduced ds 0 t → IsReduced ds 0 u → IsNotBefore first t → IsNotBefore first u → IsWholeFrom ds first t → IsWholeFrom ds first u
      → (first + value < after ds first) × IsAtOrPast ds first t × IsAtOrPast ds first u
  can-replace t u r q f g i j = (room, fits-first ds first t r f i, fits-first ds first u q g j)

  -- a tree in its own place at a slot's test is itself
  itself-after : (n l : ℕ) (t : Tree) → l + n < after ds l → IsReduced ds 0 t → IsAtOrPast ds l t → replaced_after n l t t ≡ t
  itself-after zero l t i r f = itself-join ds l t r
  itself-after (suc n) l t i r f =
      let a : Splits ds l t = splits-fits ds l t (omega arith) r f in
      let next : l + 1 < after ds l = omega arith in
      let e : after ds (l + 1) ≡ after ds l = after-next ds l next in
      rw (itself-after n (l + 1) (no_at l t) (omega arith) a.no_reduced (fits-next ds l t next a)) (itself-join ds l t r)

  -- and so is a tree in its own place
  pub replaced-itself : (t : Tree) → IsReduced ds 0 t → IsWholeFrom ds first t → replaced first value t t ≡ t
  replaced-itself (Ends a) r w = itself-after value first (Ends a) room r (inl tt)
  replaced-itself (Tests k y n) r w = go (cases_order k first) (λ v. replaced-itself y q.yes_reduced v) (λ v. replaced-itself n q.no_reduced v)
    where
      q : Parts ds k y n
      q = parts ds k y n r

      no-whole : k < first → IsWholeFrom ds first n
      no-whole b = elim q.no_fits [ inl f ↦ whole-from ds first (after ds k) n f | inr f ↦ whole-at ds first (k + 1) n (omega (arith, f.1, after-before ds slot first end k s b)) f.0 ]

      past : first ≤ k → replaced first value (Tests k y n) (Tests k y n) ≡ Tests k y n
      past b = replaced-bottom first value (Tests k y n) (Tests k y n) b b ∙ itself-after value first (Tests k y n) room r (fits-first ds first (Tests k y n) r b w)

      go : (k ≡ first) ⊎ (k < first) ⊎ (first < k) → (IsWholeFrom ds first y → replaced first value y y ≡ y) → (IsWholeFrom ds first n → replaced first value n n ≡ n)
          → replaced first value (Tests k y n) (Tests k y n) ≡ Tests k y n
      go (inl b) iy jn = past (omega arith)
      go (inr (inl b)) iy jn =
          let both : replaced first value (Tests k y n) (Tests k y n) ≡ join k (replaced first value y y) (replaced first value n n) = rw (eq-refl k) at (join-left first value k y n (Tests k y n) b (omega arith)) in
          both ∙ rw (iy (whole-from ds first (after ds k) y q.yes_from), jn (no-whole b)) (join-differ k y n r.2)
      go (inr (inr b)) iy jn = past (omega arith)
