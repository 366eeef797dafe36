-- An operation on leaves, carried to trees, is carried out at each point, and gives reduced trees.
use Rattle.std.proofs.Common.{◌≡◌, ℕ, ◌-◌, ◌⊎◌, inl, inr, ◌==◌, Bool, true, false, cond, List, refl, sym, ◌∙◌, ap, subst, arith}
use Rattle.std.specs.Prelude.{nat_lt}
use Rattle.std.proofs.lemmas.Bool.Decides.{nat_tests}
use Rattle.spd_nodes.specs.declared.leaf.Leaf.{Leaf}
use Rattle.spd_nodes.specs.Levels.{levels_of, passes}
use Rattle.spd_nodes.specs.Trees.{Tree, Ends, Tests, value_at, IsFrom, IsAt, IsReduced, join, tree_of}
use Rattle.spd_apply.specs.Halves.{yes_at, no_at, IsNotBefore}
use Rattle.spd_apply.specs.Applied.{mapped, against, applied}
use Rattle.spd_nodes.proofs.CallerLemmas.{same_level, after_le, level_of-reduced, tree_of-value_at, value_at-join}
use Rattle.spd_apply.proofs.HalfLaws.{eq-refl}
use Rattle.spd_apply.proofs.MeetingLaws.{GoesDown, made-whole}

pub value_at-mapped : (ds : List ℕ) (b : ℕ) (f : Leaf → Leaf) (t : Tree) (p : List ℕ) → value_at ds b (mapped f t) p ≡ f (value_at ds b t p)
value_at-mapped ds b f (Ends a) p = refl
value_at-mapped ds b f (Tests l y n) p =
    value_at-join ds b l (mapped f y) (mapped f n) p ∙ rw (value_at-mapped ds b f y p, value_at-mapped ds b f n p) (go (passes ds (l - b) p) (value_at ds b y p) (value_at ds b n p))
  where
    go : (t : Bool) (u v : Leaf) → cond t (f u) (f v) ≡ f (cond t u v)
    go true u v = refl
    go false u v = refl

module _ (ds : List ℕ) (b : ℕ) (op : Leaf → Leaf → Leaf) (p : List ℕ) (k : ℕ) (y n : Tree) (fy fn : Tree → Tree)
    (hy : (u : Tree) → value_at ds b (fy u) p ≡ op (value_at ds b y p) (value_at ds b u p))
    (hn : (u : Tree) → value_at ds b (fn u) p ≡ op (value_at ds b n p) (value_at ds b u p)) where
  picked : (t : Bool) (u v : Leaf) (x : Leaf) → cond t (op u x) (op v x) ≡ op (cond t u v) x
  picked true u v x = refl
  picked false u v x = refl

  picked_right : (t : Bool) (u v : Leaf) (x : Leaf) → cond t (op x u) (op x v) ≡ op x (cond t u v)
  picked_right true u v x = refl
  picked_right false u v x = refl

  picked_both : (t : Bool) (u v w x : Leaf) → cond t (op u w) (op v x) ≡ op (cond t u v) (cond t w x)
  picked_both true u v w x = refl
  picked_both false u v w x = refl

  pub value_at-against : (u : Tree) → value_at ds b (against k fy fn u) p ≡ op (cond (passes ds (k - b) p) (value_at ds b y p) (value_at ds b n p)) (value_at ds b u p)
  value_at-against (Ends a) = value_at-join ds b k (fy (Ends a)) (fn (Ends a)) p ∙ rw (hy (Ends a), hn (Ends a)) (picked (passes ds (k - b) p) _ _ a)
  value_at-against (Tests l v m) = go (nat_lt k l) (nat_lt l k) refl refl (value_at-against v) (value_at-against m)
    where
      go : (s t : Bool) → nat_lt k l ≡ s → nat_lt l k ≡ t
          → value_at ds b (against k fy fn v) p ≡ op (cond (passes ds (k - b) p) (value_at ds b y p) (value_at ds b n p)) (value_at ds b v p)
          → value_at ds b (against k fy fn m) p ≡ op (cond (passes ds (k - b) p) (value_at ds b y p) (value_at ds b n p)) (value_at ds b m p)
          → value_at ds b (cond s (join k (fy (Tests l v m)) (fn (Tests l v m))) (cond t (join l (against k fy fn v) (against k fy fn m)) (join k (fy v) (fn m)))) p
          ≡ op (cond (passes ds (k - b) p) (value_at ds b y p) (value_at ds b n p)) (value_at ds b (Tests l v m) p)
      go true t e f iv im = value_at-join ds b k (fy (Tests l v m)) (fn (Tests l v m)) p ∙ rw (hy (Tests l v m), hn (Tests l v m)) (picked (passes ds (k - b) p) _ _ _)
      go false true e f iv im = value_at-join ds b l (against k fy fn v) (against k fy fn m) p ∙ rw (iv, im) (picked_right (passes ds (l - b) p) _ _ _)
      go false false e f iv im =
          value_at-join ds b k (fy v) (fn m) p ∙ rw (hy v, hn m) (subst (λ j. cond (passes ds (k - b) p) (op (value_at ds b y p) (value_at ds b v p)) (op (value_at ds b n p) (value_at ds b m p))
          ≡ op (cond (passes ds (k - b) p) (value_at ds b y p) (value_at ds b n p)) (cond (passes ds (j - b) p) (value_at ds b v p) (value_at ds b m p))) (same_level k l e f) (picked_both (passes ds (k - b) p) _ _ _ _))

-- the operation is carried out at each point
pub value_at-applied : (ds : List ℕ) (b : ℕ) (op : Leaf → Leaf → Leaf) (t u : Tree) (p : List ℕ) → value_at ds b (applied op t u) p ≡ op (value_at ds b t p) (value_at ds b u p)
value_at-applied ds b op (Ends a) u p = value_at-mapped ds b (op a) u p
value_at-applied ds b op (Tests k y n) u p =
    value_at-against ds b op p k y n (applied op y) (applied op n) (λ v. value_at-applied ds b op y v p) (λ v. value_at-applied ds b op n v p) u

module _ (op : Leaf → Leaf → Leaf) where
  -- a level of the right tree alone
  join-right : (l : ℕ) (t v m : Tree) → IsNotBefore l t → applied op t (Tests l v m) ≡ join l (applied op (yes_at l t) v) (applied op (no_at l t) m)
  join-right l (Ends a) v m h = refl
  join-right l (Tests k y n) v m h = go (k == l) refl
    where
      go : (b : Bool) → (k == l) ≡ b → applied op (Tests k y n) (Tests l v m) ≡ join l (applied op (cond b y (Tests k y n)) v) (applied op (cond b n (Tests k y n)) m)
      go true e =
          let a : nat_lt k l ≡ false = grind (arith, nat_tests) in
          let c : nat_lt l k ≡ false = grind (arith, nat_tests) in
          let i : k ≡ l = same_level k l a c in
          rw (a, c) (ap (λ j. join j (applied op y v) (applied op n m)) i)
      go false e =
          let a : nat_lt k l ≡ false = grind (arith, nat_tests) in
          let c : nat_lt l k ≡ true = grind (arith, nat_tests) in
          rw (a, c) refl

  -- a level of the left tree
  join-left : (k : ℕ) (y n u : Tree) → IsNotBefore k u → applied op (Tests k y n) u ≡ join k (applied op y (yes_at k u)) (applied op n (no_at k u))
  join-left k y n (Ends b) h = refl
  join-left k y n (Tests l v m) h = go (l == k) refl
    where
      go : (b : Bool) → (l == k) ≡ b → applied op (Tests k y n) (Tests l v m) ≡ join k (applied op y (cond b v (Tests l v m))) (applied op n (cond b m (Tests l v m)))
      go true e =
          let a : nat_lt k l ≡ false = grind (arith, nat_tests) in
          let c : nat_lt l k ≡ false = grind (arith, nat_tests) in
          rw (a, c) refl
      go false e =
          let a : nat_lt k l ≡ true = grind (arith, nat_tests) in
          rw a refl

  applied-join : (l : ℕ) (t u : Tree) → IsNotBefore l t → IsNotBefore l u → IsAt l t ⊎ IsAt l u → applied op t u ≡ join l (applied op (yes_at l t) (yes_at l u)) (applied op (no_at l t) (no_at l u))
  applied-join l (Ends a) u h i (inl e) = absurd e
  applied-join l (Tests k y n) u h i (inl e) =
      subst (λ j. IsNotBefore j u → applied op (Tests k y n) u ≡ join j (applied op (yes_at j (Tests k y n)) (yes_at j u)) (applied op (no_at j (Tests k y n)) (no_at j u))) e
      (λ g. rw (eq-refl k) (join-left k y n u g)) i
  applied-join l t (Ends b) h i (inr e) = absurd e
  applied-join l t (Tests k v m) h i (inr e) =
      subst (λ j. IsNotBefore j t → applied op t (Tests k v m) ≡ join j (applied op (yes_at j t) (yes_at j (Tests k v m))) (applied op (no_at j t) (no_at j (Tests k v m)))) e
      (λ g. rw (eq-refl k) (join-right k t v m g)) h

module _ (ds : List ℕ) (op : Leaf → Leaf → Leaf) where
  applied-bottom : (e : ℕ) (t u : Tree) → IsReduced ds 0 t → IsReduced ds 0 u → IsNotBefore (levels_of ds) t → IsNotBefore (levels_of ds) u → IsReduced ds 0 (applied op t u) × IsFrom ds 0 e (applied op t u)
  applied-bottom e (Ends a) (Ends b) r s f g = (tt, tt)
  applied-bottom e (Ends a) (Tests l v m) r s f g = absurd (omega (arith, g, level_of-reduced ds l v m s))
  applied-bottom e (Tests k y n) u r s f g = absurd (omega (arith, f, level_of-reduced ds k y n r))

  -- the operation goes down to the leaves
  pub applied-goes : GoesDown ds (levels_of ds) (applied op)
  applied-goes = record {
    within = λ l h i. after_le ds l;
    is_join = λ l t u h f g e. applied-join op l t u f g e;
    bottom = λ e t u h r s f g i j. applied-bottom e t u r s f g;
  }

  -- the operation on whole trees is such a tree
  pub applied-whole : (t u : Tree) → IsReduced ds 0 t → IsReduced ds 0 u → IsFrom ds 0 0 t → IsFrom ds 0 0 u → IsReduced ds 0 (applied op t u) × IsFrom ds 0 0 (applied op t u)
  applied-whole t u r s f g = made-whole ds (levels_of ds) (applied op) applied-goes t u r s f g

  -- on whole trees it is the tree of the function that it gives at each point
  pub applied-tree_of : (t u : Tree) → IsReduced ds 0 t → IsReduced ds 0 u → IsFrom ds 0 0 t → IsFrom ds 0 0 u
      → applied op t u ≡ tree_of ds 0 (λ p. op (value_at ds 0 t p) (value_at ds 0 u p))
  applied-tree_of t u r s f g =
      let w : IsReduced ds 0 (applied op t u) × IsFrom ds 0 0 (applied op t u) = applied-whole t u r s f g in
      sym (tree_of-value_at ds 0 (applied op t u) w.0 w.1) ∙ ap (tree_of ds 0) (λ i p. value_at-applied ds 0 op t u p i)
