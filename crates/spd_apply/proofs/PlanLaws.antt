-- How an operation on leaves goes on from two entries.
use Rattle.std.proofs.Common.{◌≡◌, ℕ, ◌-◌, ◌<◌, ◌≤◌, ◌⊎◌, inl, inr, ◌==◌, Bool, true, false, cond, Some, List, refl, sym, ◌∙◌, ap, arith}
use Rattle.std.specs.Prelude.{nat_lt}
use Rattle.std.proofs.lemmas.Bool.Decides.{nat_tests}
use Rattle.spd_cons_core.specs.declared.key.Entry.{Entry}
use Rattle.spd_nodes.specs.declared.leaf.Leaf.{Leaf}
use Rattle.spd_nodes.specs.declared.leaf.Leaf.TheVariants.{Act}
use Rattle.spd_nodes.specs.declared.layout.Level.{Level}
use Rattle.spd_nodes.specs.declared.forest.View.{View}
use Rattle.spd_nodes.specs.declared.forest.View.TheVariants as V
use Rattle.spd_nodes.specs.Levels.{levels_of, slots, after}
use Rattle.spd_nodes.specs.Trees.{Tree, Ends, Tests, IsNode, Itself, InYes, InNo, tree_eq, tree_rank, join, IsAt}
use Rattle.spd_nodes.specs.Shown.{Shown, IsSound, KnowsAs, IsViewOf}
use Rattle.spd_nodes.proofs.CallerLemmas.{after_above, rank-at, rank-from, tree_eq-true}
use Rattle.spd_apply.specs.declared.rule.Below.TheVariants as B
use Rattle.spd_apply.specs.Halves.{yes_at, no_at, AreLeaves, IsNotBefore, IsAligned, pair_rank}
use Rattle.spd_apply.specs.Applied.{applied, fit_mark, AllFit, MayApply}
use Rattle.spd_apply.specs.Rules.{Making, PlansTest}
use Rattle.spd_apply.specs.Views.{lower_of_views, next_yes, next_no}
use Rattle.spd_apply.proofs.HalfLaws.{Splits}
use Rattle.spd_apply.proofs.MeetingLaws.{top_of, Meets, meets-cases, GoesDown, Descends, descends}
use Rattle.spd_apply.proofs.AppliedLaws.{applied-goes}

-- where an entry goes on
pub next_yes-is : (s : Shown) (v : View) (r : Entry) (l : Level) → s.knows r ≡ true → IsViewOf s r v → KnowsAs s (next_yes v r l) (yes_at l.0 (s.tree r))
next_yes-is s (V.Leaf a) r l k h = record { knows = k; tree = rw h refl }
next_yes-is s (V.Test j y n) r l k h = go (j.0 == l.0) refl
  where
    go : (t : Bool) → (j.0 == l.0) ≡ t → KnowsAs s (cond t y r) (yes_at l.0 (s.tree r))
    go true e = record { knows = h.1; tree = rw (h.0, e) refl }
    go false e = record { knows = k; tree = rw (h.0, e) refl }

pub next_no-is : (s : Shown) (v : View) (r : Entry) (l : Level) → s.knows r ≡ true → IsViewOf s r v → KnowsAs s (next_no v r l) (no_at l.0 (s.tree r))
next_no-is s (V.Leaf a) r l k h = record { knows = k; tree = rw h refl }
next_no-is s (V.Test j y n) r l k h = go (j.0 == l.0) refl
  where
    go : (t : Bool) → (j.0 == l.0) ≡ t → KnowsAs s (cond t n r) (no_at l.0 (s.tree r))
    go true e = record { knows = h.2; tree = rw (h.0, e) refl }
    go false e = record { knows = k; tree = rw (h.0, e) refl }

-- the lower of two views' levels is that of the trees
pub top-of : (s : Shown) (a b : View) (f g : Entry) (l : Level) → IsViewOf s f a → IsViewOf s g b → lower_of_views a b ≡ Some l
    → AreLeaves (s.tree f) (s.tree g) ⊎ Meets (slots s.sizes) (top_of (s.tree f) (s.tree g)) (s.tree f) (s.tree g) → Meets (slots s.sizes) l.0 (s.tree f) (s.tree g)
top-of s (V.Leaf a) (V.Leaf b) f g l h i e m = absurd (cc e)
top-of s (V.Leaf a) (V.Test k v n) f g l h i e m =
    let p : k ≡ l = cc in
    rw (h, i.0) (elim (rw (h, i.0) at m) [ inl q ↦ absurd q | inr q ↦ rw (sym p) q ])
top-of s (V.Test j y n) (V.Leaf a) f g l h i e m =
    let p : j ≡ l = cc in
    rw (h.0, i) (elim (rw (h.0, i) at m) [ inl q ↦ absurd q | inr q ↦ rw (sym p) q ])
top-of s (V.Test j y n) (V.Test k v w) f g l h i e m =
    let p : cond (nat_lt k.0 j.0) k j ≡ l = cc in
    let q : cond (nat_lt k.0 j.0) k.0 j.0 ≡ l.0 = lower (nat_lt k.0 j.0) ∙ ap (λ (x : Level). x.0) p in
    rw (h.0, i.0) (elim (rw (h.0, i.0) at m) [ inl z ↦ absurd z | inr z ↦ rw (sym q) z ])
  where
    lower : (t : Bool) → cond t k.0 j.0 ≡ (cond t k j).0
    lower true = refl
    lower false = refl

-- a half of a tree has levels past its level alone
pub half-yes : (ds : List ℕ) (l : ℕ) (t : Tree) → l < levels_of ds → Splits ds l t → tree_rank ds (yes_at l t) < levels_of ds - l
half-yes ds l t h s = rank-from ds l (after ds l) (yes_at l t) h (after_above ds l h) s.yes_from

pub half-no : (ds : List ℕ) (l : ℕ) (t : Tree) → l < levels_of ds → Splits ds l t → tree_rank ds (no_at l t) < levels_of ds - l
half-no ds l t h s = elim s.no_fits [ inl f ↦ rank-from ds l (after ds l) (no_at l t) h (after_above ds l h) f | inr f ↦ rank-at ds l (no_at l t) h f.0 ]

at-rank : (ds : List ℕ) (l : ℕ) (t : Tree) → IsAt l t → tree_rank ds t ≡ levels_of ds - l
at-rank ds l (Ends a) h = absurd h
at-rank ds l (Tests k y n) h = ap (λ v. levels_of ds - v) h

pub one-rank : (ds : List ℕ) (l : ℕ) (t u : Tree) → IsAt l t ⊎ IsAt l u → levels_of ds - l ≤ pair_rank ds t u
one-rank ds l t u (inl h) = let e : tree_rank ds t ≡ levels_of ds - l = at-rank ds l t h in omega arith
one-rank ds l t u (inr h) = let e : tree_rank ds u ≡ levels_of ds - l = at-rank ds l u h in omega arith

pub join-ends : (l : ℕ) (y n : Tree) (a : Leaf) → join l y n ≡ Ends a → (y ≡ Ends a) × (n ≡ Ends a)
join-ends l y n a = go (tree_eq y n) refl
  where
    go : (t : Bool) → tree_eq y n ≡ t → cond t n (Tests l y n) ≡ Ends a → (y ≡ Ends a) × (n ≡ Ends a)
    go true e h = (tree_eq-true y n e ∙ h, h)
    go false e h = absurd (cc h)

-- where one of two views tests a level first, no tree is before it
pub lower-first : (s : Shown) (a b : View) (f g : Entry) (l : Level) → IsViewOf s f a → IsViewOf s g b → lower_of_views a b ≡ Some l → IsNotBefore l.0 (s.tree f) × IsNotBefore l.0 (s.tree g)
lower-first s (V.Leaf a) (V.Leaf b) f g l h i e = absurd (cc e)
lower-first s (V.Leaf a) (V.Test k v n) f g l h i e =
    let p : k ≡ l = cc in
    rw (h, i.0, p) (tt, omega arith)
lower-first s (V.Test j y n) (V.Leaf a) f g l h i e =
    let p : j ≡ l = cc in
    rw (h.0, i, p) (omega arith, tt)
lower-first s (V.Test j y n) (V.Test k v w) f g l h i e = rw (h.0, i.0) (go (nat_lt k.0 j.0) refl (cc))
  where
    go : (t : Bool) → nat_lt k.0 j.0 ≡ t → cond t k j ≡ l → (l.0 ≤ j.0) × (l.0 ≤ k.0)
    go true q p = (let r : k.0 ≡ l.0 = ap (λ (x : Level). x.0) p in grind (arith, nat_tests), let r : k.0 ≡ l.0 = ap (λ (x : Level). x.0) p in omega arith)
    go false q p = (let r : j.0 ≡ l.0 = ap (λ (x : Level). x.0) p in omega arith, let r : j.0 ≡ l.0 = ap (λ (x : Level). x.0) p in grind (arith, nat_tests))

-- a half of a tree is a node of it
yes-node : (l : ℕ) (t : Tree) → IsNode (yes_at l t) t
yes-node l (Ends a) = Itself
yes-node l (Tests k y n) = go (k == l)
  where
    go : (b : Bool) → IsNode (cond b y (Tests k y n)) (Tests k y n)
    go true = InYes Itself
    go false = Itself

no-node : (l : ℕ) (t : Tree) → IsNode (no_at l t) t
no-node l (Ends a) = Itself
no-node l (Tests k y n) = go (k == l)
  where
    go : (b : Bool) → IsNode (cond b n (Tests k y n)) (Tests k y n)
    go true = InNo Itself
    go false = Itself

-- How an operation that goes down goes on from two entries before its level, if it may meet their halves.
module _ (making : Making) (may : Tree → Tree → Type 0) (stop : ℕ) (s : Shown) (o : IsSound s) (f g : Entry) (kf : s.knows f ≡ true) (kg : s.knows g ≡ true)
    (aligned : IsAligned (slots s.sizes) (s.tree f) (s.tree g)) (d : GoesDown (slots s.sizes) stop making) where
  abbrev ds : List ℕ
  ds = slots s.sizes

  -- it may meet the halves at a level
  pub record MayMeetHalves (l : ℕ) : Type 0 where
    pub yes : may (yes_at l (s.tree f)) (yes_at l (s.tree g))
    pub no : may (no_at l (s.tree f)) (no_at l (s.tree g))

  plans-from : (l : ℕ) (fy fn gy gn : Entry) → l < stop → Meets ds l (s.tree f) (s.tree g) → MayMeetHalves l
      → KnowsAs s fy (yes_at l (s.tree f)) → KnowsAs s fn (no_at l (s.tree f)) → KnowsAs s gy (yes_at l (s.tree g)) → KnowsAs s gn (no_at l (s.tree g))
      → PlansTest making may s f g l (B.Pair fy gy) (B.Pair fn gn)
  plans-from l fy fn gy gn h m halves a b c e =
      let w : Descends ds l making (yes_at l (s.tree f)) (no_at l (s.tree f)) (yes_at l (s.tree g)) (no_at l (s.tree g)) = descends ds stop making d l (s.tree f) (s.tree g) h m in
      let ry = half-yes ds l (s.tree f) m.level m.left in
      let rz = half-yes ds l (s.tree g) m.level m.right in
      let rn = half-no ds l (s.tree f) m.level m.left in
      let rm = half-no ds l (s.tree g) m.level m.right in
      let top = one-rank ds l (s.tree f) (s.tree g) m.one_at in
      record {
        level_in = m.level;
        is = rw (a.tree, b.tree, c.tree, e.tree) (d.is_join l (s.tree f) (s.tree g) h m.left_from m.right_from m.one_at);
        can_test = rw (a.tree, b.tree, c.tree, e.tree) w.can_test;
        yes_goes = record { left = a.knows; right = c.knows; trees = rw (a.tree, c.tree) halves.yes };
        no_goes = record { left = b.knows; right = e.knows; trees = rw (b.tree, e.tree) halves.no };
        yes_nodes = rw (a.tree, c.tree) (yes-node l (s.tree f), yes-node l (s.tree g));
        no_nodes = rw (b.tree, e.tree) (no-node l (s.tree f), no-node l (s.tree g));
        yes_smaller = rw (a.tree, c.tree) (omega (arith, ry, rz, top));
        no_smaller = rw (b.tree, e.tree) (omega (arith, rn, rm, top));
      }

  pub plans-at : (a b : View) (l : Level) → IsViewOf s f a → IsViewOf s g b → lower_of_views a b ≡ Some l → l.0 < stop → (Meets ds l.0 (s.tree f) (s.tree g) → MayMeetHalves l.0)
      → PlansTest making may s f g l.0 (B.Pair (next_yes a f l) (next_yes b g l)) (B.Pair (next_no a f l) (next_no b g l))
  plans-at a b l h i e below halves =
      let m : Meets ds l.0 (s.tree f) (s.tree g) = top-of s a b f g l h i e (meets-cases ds (s.tree f) (s.tree g) (o.reduced f kf) (o.reduced g kg) aligned) in
      plans-from l.0 (next_yes a f l) (next_no a f l) (next_yes b g l) (next_no b g l) below m (halves m)
      (next_yes-is s a f l kf h) (next_no-is s a f l kf h) (next_yes-is s b g l kg i) (next_no-is s b g l kg i)

module _ (fits : Leaf → Leaf → Bool) (op : Leaf → Leaf → Leaf) (s : Shown) (o : IsSound s) (f g : Entry) (kf : s.knows f ≡ true) (kg : s.knows g ≡ true) (may : MayApply fits s.sizes (s.tree f) (s.tree g)) where
  abbrev slots_of : List ℕ
  slots_of = slots s.sizes

  -- the leaves of the halves fit
  fit-halves : (l : ℕ) → Meets slots_of l (s.tree f) (s.tree g) → MayMeetHalves (applied op) (MayApply fits s.sizes) (levels_of slots_of) s o f g kf kg may.aligned (applied-goes slots_of op) l
  fit-halves l m =
      let w = descends slots_of (levels_of slots_of) (applied (fit_mark fits)) (applied-goes slots_of (fit_mark fits)) l (s.tree f) (s.tree g) m.level m in
      let is = (applied-goes slots_of (fit_mark fits)).is_join l (s.tree f) (s.tree g) m.level m.left_from m.right_from m.one_at in
      let both : AllFit fits (yes_at l (s.tree f)) (yes_at l (s.tree g)) × AllFit fits (no_at l (s.tree f)) (no_at l (s.tree g)) = join-ends l _ _ (Act 1) (sym is ∙ may.fit) in
      record { yes = record { aligned = w.aligned_yes; fit = both.0 }; no = record { aligned = w.aligned_no; fit = both.1 } }

  pub applies-at : (a b : View) (l : Level) → IsViewOf s f a → IsViewOf s g b → lower_of_views a b ≡ Some l
      → PlansTest (applied op) (MayApply fits s.sizes) s f g l.0 (B.Pair (next_yes a f l) (next_yes b g l)) (B.Pair (next_no a f l) (next_no b g l))
  applies-at a b l h i e =
      let m : Meets slots_of l.0 (s.tree f) (s.tree g) = top-of s a b f g l h i e (meets-cases slots_of (s.tree f) (s.tree g) (o.reduced f kf) (o.reduced g kg) may.aligned) in
      plans-at (applied op) (MayApply fits s.sizes) (levels_of slots_of) s o f g kf kg may.aligned (applied-goes slots_of op) a b l h i e m.level (fit-halves l.0)
