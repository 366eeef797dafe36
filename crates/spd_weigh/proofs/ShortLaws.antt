-- Past the slot a weight of 0 may go with its value.
use Rattle.std.proofs.Common.{◌≡◌, ℕ, zero, suc, ◌+◌, ◌*◌, ◌<◌, ◌≤◌, inl, inr, true, List, [], ◌∷◌, ◌++◌, map, length, drop, get_or, refl, sym, ◌∙◌, ap, subst, arith, Some, pos, ◌+ℤ◌, ◌*ℤ◌}
use Rattle.std.proofs.lemmas.Int.{ints}
use Rattle.std.proofs.lemmas.List.Elements.{All-append, All-cons, All-get_or, All-nil}
use Rattle.spd_scaled.proofs.CallerLemmas.Ring.{zero-*ℤ}
use Rattle.spd_cons_core.specs.declared.key.Entry.{Entry}
use Rattle.spd_model.specs.Chances.{one}
use Rattle.spd_nodes.specs.declared.leaf.Leaf.{Leaf}
use Rattle.spd_nodes.specs.declared.leaf.Leaf.TheVariants.{Num}
use Rattle.spd_nodes.specs.declared.layout.Level.{Level}
use Rattle.spd_nodes.specs.Levels.{levels_of, slots, IsSlot}
use Rattle.spd_nodes.specs.Trees.{Tree, Ends, IsFrom, IsAtOrPast, IsReduced}
use Rattle.spd_nodes.specs.Shown.{Shown, IsSound}
use Rattle.spd_apply.specs.Halves.{yes_at, no_at, IsNotBefore}
use Rattle.spd_apply.proofs.CallerLemmas.{not-before-lower}
use Rattle.spd_gather.specs.Down.{Each, Stands, last_leaf, at_leaves, at_each_leaf}
use Rattle.spd_gather.specs.Lists.{trees_of, AreKnown, IsLowOf, GoesToTest, GoesBelow, rank_of}
use Rattle.spd_gather.specs.Meeting.{list_rank}
use Rattle.spd_gather.proofs.CallerLemmas.{down-same, each-both, each-map, reduced-all, stands-half}
use Rattle.spd_weigh.specs.declared.way.Way.{Way}
use Rattle.spd_weigh.specs.Leaves.{number_of, rounding_of}
use Rattle.spd_weigh.specs.Summed.{summed, weighed, products, weights, each_fits, fit_mark, zero_tree, IsShorter, MaySum}
use Rattle.spd_weigh.proofs.NumberLaws.{drop-two}
use Rattle.spd_weigh.proofs.RuleLaws.{sum-past}

pub short-map : {A B : Type 0} (f : A → B) (z : A) (y : B) → f z ≡ y → (ts us : List A) → IsShorter z ts us → IsShorter y (map f ts) (map f us)
short-map f z y e [] us h = ap (map f) h
short-map f z y e (w ∷ []) us h = ap (map f) h
short-map f z y e (w ∷ t ∷ ts) us h = elim h [
  | inl q ↦ inl (ap f q.0 ∙ e, short-map f z y e ts us q.1)
  | inr q ↦ inr (map f q.0, ap (map f) q.1, short-map f z y e ts q.0 q.2)
]

-- a list is shorter than itself in this sense
pub short-same : {A : Type 0} (z : A) (ts : List A) → IsShorter z ts ts
short-same z [] = refl
short-same z (w ∷ []) = refl
short-same z (w ∷ t ∷ ts) = inr (ts, refl, short-same z ts)

-- leaves have the same sum
short-products : (ls ms : List Leaf) → IsShorter (Num (pos 0)) ls ms → products ls ≡ products ms
short-products [] ms h = rw h refl
short-products (w ∷ []) ms h = rw h refl
short-products (w ∷ f ∷ ls) ms h = elim h [
  | inl q ↦
      let e : products ls ≡ products ms = short-products ls ms q.1 in
      let a : number_of w ≡ pos 0 = ap number_of q.0 in
      let n : number_of w *ℤ number_of f ≡ pos 0 = rw a (zero-*ℤ (number_of f)) in
      let g : pos 0 +ℤ products ls ≡ products ls = omega (arith, ints) in
      rw n (g ∙ e)
  | inr q ↦ (let e : products ls ≡ products q.0 = short-products ls q.0 q.2 in rw (q.1, e) refl)
]

short-fits : (ls ms : List Leaf) → IsShorter (Num (pos 0)) ls ms → (each_fits ls ≡ each_fits ms) × (weights ls ≡ weights ms)
short-fits [] ms h = rw h (refl, refl)
short-fits (w ∷ []) ms h = rw h (refl, refl)
short-fits (w ∷ f ∷ ls) ms h = elim h [
  | inl q ↦
      let e = short-fits ls ms q.1 in
      let g : pos 0 +ℤ weights ls ≡ weights ls = omega (arith, ints) in
      rw q.0 (e.0, g ∙ e.1)
  | inr q ↦ (let e = short-fits ls q.0 q.2 in rw (q.1, e.0, e.1) (refl, refl))
]

short-weighed : (way : Way) (ls ms : List Leaf) → IsShorter (Num (pos 0)) ls ms → weighed way ls ≡ weighed way ms
short-weighed way ls ms h = ap (λ v. Num (rounding_of way v one)) (short-products ls ms h)

short-mark : (ls ms : List Leaf) → IsShorter (Num (pos 0)) ls ms → fit_mark ls ≡ fit_mark ms
short-mark ls ms h = let q = short-fits ls ms h in rw (q.0, q.1) refl

short-each : (levels : ℕ) (op : List Leaf → Leaf) → ((ls ms : List Leaf) → IsShorter (Num (pos 0)) ls ms → op ls ≡ op ms) → (ts us : List Tree) → IsShorter zero_tree ts us → at_each_leaf levels op ts ≡ at_each_leaf levels op us
short-each levels op same ts us h = down-same (at_leaves op) (at_leaves op) (IsShorter zero_tree) on (λ ts us h. ap Ends (same _ _ (short-map last_leaf zero_tree (Num (pos 0)) refl ts us h))) levels 0 ts us h
  where
    on : (l : ℕ) (ts us : List Tree) → IsShorter zero_tree ts us → IsShorter zero_tree (map (yes_at l) ts) (map (yes_at l) us) × IsShorter zero_tree (map (no_at l) ts) (map (no_at l) us)
    on l ts us h = (short-map (yes_at l) zero_tree zero_tree refl ts us h, short-map (no_at l) zero_tree zero_tree refl ts us h)

-- what holds of each tree holds of each one that is left
each-short : (P : Tree → Type 0) (ts us : List Tree) → IsShorter zero_tree ts us → Each P ts → Each P us
each-short P [] us h a = rw h tt
each-short P (w ∷ []) us h a = rw h a
each-short P (w ∷ t ∷ ts) us h a = elim h [
  | inl q ↦ each-short P ts us q.1 a.1.1
  | inr q ↦ rw q.1 (a.0, (a.1.0, each-short P ts q.0 q.2 a.1.1))
]

length-short : (ts us : List Tree) → IsShorter zero_tree ts us → length us ≤ length ts
length-short [] us h = rw h (omega arith)
length-short (w ∷ []) us h = rw h (omega arith)
length-short (w ∷ t ∷ ts) us h = elim h [
  | inl q ↦ (let i = length-short ts us q.1 in omega (arith, i))
  | inr q ↦ (let i = length-short ts q.0 q.2 in rw q.1 (omega (arith, i)))
]

rank-short : (ds : List ℕ) (ts us : List Tree) → IsShorter zero_tree ts us → list_rank ds us ≤ list_rank ds ts
rank-short ds [] us h = rw h (omega arith)
rank-short ds (w ∷ []) us h = rw h (omega arith)
rank-short ds (w ∷ t ∷ ts) us h = elim h [
  | inl q ↦ (let i = rank-short ds ts us q.1 in omega (arith, i))
  | inr q ↦ (let i = rank-short ds ts q.0 q.2 in rw q.1 (omega (arith, i)))
]

-- past the slot the same is made of such lists
sum-short : (ds : List ℕ) (slot first end : ℕ) (s : IsSlot ds slot first end) (op : List Leaf → Leaf) → ((ls ms : List Leaf) → IsShorter (Num (pos 0)) ls ms → op ls ≡ op ms) → (ts us : List Tree) → Each (IsNotBefore end) ts → IsShorter zero_tree ts us
    → summed (levels_of ds) first end op ts ≡ summed (levels_of ds) first end op us
sum-short ds slot first end s op same ts us p h =
    sum-past ds slot first end s op ts p
    ∙ short-each (levels_of ds) op same ts us h
    ∙ sym (sum-past ds slot first end s op us (each-short (IsNotBefore end) ts us h p))

module _ (levels first end : ℕ) (sizes : List ℕ) (ts us : List Tree) (p : Each (IsNotBefore end) ts) (h : IsShorter zero_tree ts us) (m : MaySum levels first end sizes ts) where
  alike : (op : List Leaf → Leaf) → ((ls ms : List Leaf) → IsShorter (Num (pos 0)) ls ms → op ls ≡ op ms) → summed levels first end op ts ≡ summed levels first end op us
  alike op same = subst (λ v. summed v first end op ts ≡ summed v first end op us) (sym m.same) (sum-short (slots sizes) m.slot first end m.is_slot op same ts us p h)

  weighed-short : (way : Way) → summed levels first end (weighed way) us ≡ summed levels first end (weighed way) ts
  weighed-short way = sym (alike (weighed way) (short-weighed way))

  may-short : MaySum levels first end sizes us
  may-short = record {
    same = m.same;
    slot = m.slot;
    is_slot = m.is_slot;
    short = omega (arith, m.short, length-short ts us h);
    room = m.room;
    meet = elim m.meet [
      | inl w ↦ inl (record { from = w.from; each = each-short (IsFrom (slots sizes) 0 w.from) ts us h w.each })
      | inr w ↦ inr (record { level = w.level; within = w.within; outside = w.outside; each = each-short (IsAtOrPast (slots sizes) w.level) ts us h w.each })
    ];
    all_fit = sym (alike fit_mark short-mark) ∙ m.all_fit;
  }

module _ (way : Way) (levels first end : ℕ) (s : Shown) (ks : List Entry) where
  -- a test of shorter lists
  pub test-short : (l : ℕ) (ys ns yz nz : List Entry) → GoesToTest (summed levels first end (weighed way)) (MaySum levels first end s.sizes) s ks l ys ns
      → Each (IsNotBefore end) (trees_of s ys) → Each (IsNotBefore end) (trees_of s ns) → IsShorter zero_tree (trees_of s ys) (trees_of s yz) → IsShorter zero_tree (trees_of s ns) (trees_of s nz)
      → AreKnown s yz → AreKnown s nz → GoesToTest (summed levels first end (weighed way)) (MaySum levels first end s.sizes) s ks l yz nz
  test-short l ys ns yz nz g py pn hy hn ky kn =
      let ey = weighed-short levels first end s.sizes (trees_of s ys) (trees_of s yz) py hy g.yes_goes.trees way in
      let en = weighed-short levels first end s.sizes (trees_of s ns) (trees_of s nz) pn hn g.no_goes.trees way in
      let ry : rank_of s yz ≤ rank_of s ys = rank-short (slots s.sizes) (trees_of s ys) (trees_of s yz) hy in
      let rn : rank_of s nz ≤ rank_of s ns = rank-short (slots s.sizes) (trees_of s ns) (trees_of s nz) hn in
      record {
        level_in = g.level_in;
        is = rw (ey, en) g.is;
        can_test = rw (ey, en) g.can_test;
        yes_goes = record { known = ky; trees = may-short levels first end s.sizes (trees_of s ys) (trees_of s yz) py hy g.yes_goes.trees };
        no_goes = record { known = kn; trees = may-short levels first end s.sizes (trees_of s ns) (trees_of s nz) pn hn g.no_goes.trees };
        yes_smaller = omega (arith, ry, g.yes_smaller);
        no_smaller = omega (arith, rn, g.no_smaller);
      }

  -- a shorter list below
  pub below-short : (bs cs : List Entry) → GoesBelow (summed levels first end (weighed way)) (MaySum levels first end s.sizes) s ks bs → Each (IsNotBefore end) (trees_of s bs) → IsShorter zero_tree (trees_of s bs) (trees_of s cs) → AreKnown s cs
      → GoesBelow (summed levels first end (weighed way)) (MaySum levels first end s.sizes) s ks cs
  below-short bs cs g p h k =
      let e = weighed-short levels first end s.sizes (trees_of s bs) (trees_of s cs) p h g.goes.trees way in
      let r : rank_of s cs ≤ rank_of s bs = rank-short (slots s.sizes) (trees_of s bs) (trees_of s cs) h in
      record { is = rw e g.is; goes = record { known = k; trees = may-short levels first end s.sizes (trees_of s bs) (trees_of s cs) p h g.goes.trees }; smaller = omega (arith, r, g.smaller) }

-- halves at a level past the slot are past it
module _ (s : Shown) (o : IsSound s) (end : ℕ) (l : Level) (ks : List Entry) (known : AreKnown s ks) (low : IsLowOf s (Some l) ks) (b : end ≤ l.0) where
  stands : Each (Stands (slots s.sizes) l.0) (trees_of s ks)
  stands = each-both (IsReduced (slots s.sizes) 0) (IsNotBefore l.0) (trees_of s ks) (reduced-all s o ks known) low.none_before

  pub past-yes : Each (IsNotBefore end) (map (yes_at l.0) (trees_of s ks))
  past-yes = each-map (Stands (slots s.sizes) l.0) (IsNotBefore end) (yes_at l.0) (λ t h. not-before-lower end (l.0 + 1) (yes_at l.0 t) (omega (arith, b)) (stands-half (slots s.sizes) l.0 t h).0.1) (trees_of s ks) stands

  pub past-no : Each (IsNotBefore end) (map (no_at l.0) (trees_of s ks))
  past-no = each-map (Stands (slots s.sizes) l.0) (IsNotBefore end) (no_at l.0) (λ t h. not-before-lower end (l.0 + 1) (no_at l.0 t) (omega (arith, b)) (stands-half (slots s.sizes) l.0 t h).1.1) (trees_of s ks) stands

-- what is left of a list's end, at a weight that goes and at one that stays
pub short-skip : (s : Shown) (ks : List Entry) (v : ℕ) (d : Entry) → 2 * v + 1 < length ks → s.tree (get_or ks (2 * v) d) ≡ zero_tree → (us : List Tree) → IsShorter zero_tree (trees_of s (drop (2 * (v + 1)) ks)) us → IsShorter zero_tree (trees_of s (drop (2 * v) ks)) us
short-skip s ks v d b z us h =
    let n : 2 * (v + 1) ≡ 2 * v + 2 = omega arith in
    rw (drop-two ks (2 * v) d d b) (inl (z, rw n at h))

pub short-keep : (s : Shown) (ks short : List Entry) (v : ℕ) (d : Entry) → 2 * v + 1 < length ks
    → ((us : List Tree) → IsShorter zero_tree (trees_of s (drop (2 * v) ks)) us → IsShorter zero_tree (trees_of s ks) (trees_of s short ++ us))
    → (us : List Tree) → IsShorter zero_tree (trees_of s (drop (2 * (v + 1)) ks)) us → IsShorter zero_tree (trees_of s ks) (trees_of s (short ++ get_or ks (2 * v) d ∷ get_or ks (2 * v + 1) d ∷ []) ++ us)
short-keep s ks short v d b before us h =
    let n : 2 * (v + 1) ≡ 2 * v + 2 = omega arith in
    let w = s.tree (get_or ks (2 * v) d) in
    let f = s.tree (get_or ks (2 * v + 1) d) in
    let here : IsShorter zero_tree (trees_of s (drop (2 * v) ks)) (w ∷ f ∷ us) = rw (drop-two ks (2 * v) d d b) (inr (us, refl, rw n at h)) in
    subst (λ l. IsShorter zero_tree (trees_of s ks) l) (sym (pushed short)) (before (w ∷ f ∷ us) here)
  where
    pushed : (xs : List Entry) → trees_of s (xs ++ get_or ks (2 * v) d ∷ get_or ks (2 * v + 1) d ∷ []) ++ us ≡ trees_of s xs ++ s.tree (get_or ks (2 * v) d) ∷ s.tree (get_or ks (2 * v + 1) d) ∷ us
    pushed [] = refl
    pushed (x ∷ xs) = ap (λ r. s.tree x ∷ r) (pushed xs)

-- where nothing is left of the list
pub short-end : (s : Shown) (ks short : List Entry) (at : ℕ) → length ks ≤ at → ((us : List Tree) → IsShorter zero_tree (trees_of s (drop at ks)) us → IsShorter zero_tree (trees_of s ks) (trees_of s short ++ us)) → IsShorter zero_tree (trees_of s ks) (trees_of s short)
short-end s ks short at b h = subst (λ l. IsShorter zero_tree (trees_of s ks) l) (none (trees_of s short)) (h [] (rw (over ks at b) refl))
  where
    none : (ts : List Tree) → ts ++ [] ≡ ts
    none [] = refl
    none (t ∷ ts) = ap (λ r. t ∷ r) (none ts)

    over : (xs : List Entry) (n : ℕ) → length xs ≤ n → drop n xs ≡ []
    over [] zero e = refl
    over [] (suc n) e = refl
    over (x ∷ xs) zero e = absurd (omega (arith, e))
    over (x ∷ xs) (suc n) e = over xs n (omega (arith, e))

pub known-keep : (s : Shown) (ks short : List Entry) (v : ℕ) (d : Entry) → 2 * v + 1 < length ks → AreKnown s ks → AreKnown s short → AreKnown s (short ++ get_or ks (2 * v) d ∷ get_or ks (2 * v + 1) d ∷ [])
known-keep s ks short v d b h k =
    let P : Entry → Type 0 = λ r. s.knows r ≡ true in
    let w = get_or ks (2 * v) d in
    let f = get_or ks (2 * v + 1) d in
    All-append P short (w ∷ f ∷ []) k (All-cons P w (f ∷ []) (All-get_or P ks (2 * v) d (omega (arith, b)) h) (All-cons P f [] (All-get_or P ks (2 * v + 1) d b h) (All-nil P)))

pub ruleset short_laws = (short-same)
