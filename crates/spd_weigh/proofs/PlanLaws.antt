-- What the parts of a plan say of lists.
use Rattle.std.proofs.Common.{◌≡◌, ℕ, suc, ◌+◌, ◌-◌, ◌/◌, ◌<◌, ◌≤◌, ◌⊎◌, inl, inr, true, List, [], ◌∷◌, ◌++◌, map, take, Some, refl, sym, ◌∙◌, ap, subst, arith, All, length, get_or}
use Rattle.std.proofs.lemmas.List.{map-append, take_more, length-take-le}
use Rattle.spd_cons_core.specs.declared.key.Entry.{Entry}
use Rattle.spd_nodes.specs.declared.leaf.Leaf.{Leaf}
use Rattle.spd_nodes.specs.declared.leaf.Leaf.TheVariants.{Act}
use Rattle.spd_nodes.specs.declared.layout.Level.{Level}
use Rattle.spd_nodes.specs.declared.forest.View.TheVariants as V
use Rattle.spd_nodes.specs.Levels.{levels_of, slots, after}
use Rattle.spd_nodes.specs.Trees.{Tree, Ends, IsFrom, IsAtOrPast, IsReduced, CanTest, join, tree_rank}
use Rattle.spd_nodes.specs.Shown.{Shown, IsSound, IsViewOf, KnowsAs}
use Rattle.spd_nodes.proofs.CallerLemmas.{Parts, after_above, parts, rank-from, rank-view}
use Rattle.spd_apply.specs.Halves.{yes_at, no_at, IsNotBefore, IsLeaf}
use Rattle.spd_apply.proofs.CallerLemmas.{join-ends, not-before-at, not-before-from, not-before-lower}
use Rattle.spd_restrict.specs.Restricted.{cofactored}
use Rattle.spd_gather.specs.Down.{Each, FitsAt, last_leaf}
use Rattle.spd_gather.specs.Lists.{trees_of, AreKnown, IsLowOf, GoesToTest, GoesBelow}
use Rattle.spd_gather.specs.Meeting.{list_rank}
use Rattle.spd_gather.proofs.CallerLemmas.{all-of, each-weaker, meet-lowest, one-rank, rank-lowest, reduced-all}
use Rattle.spd_weigh.specs.declared.way.Way.{Way}
use Rattle.spd_weigh.specs.Summed.{summed, taken, weighed, fit, fit_mark, MaySum, IsAlone, IsLike}
use Rattle.spd_weigh.proofs.EarlyLaws.{mark-fits, mark-like, weighed-like, each-like, length-like, rank-like, sum-alone}
use Rattle.spd_weigh.proofs.SlotLaws.{taken-all}
use Rattle.spd_weigh.proofs.RuleLaws.{sum-leaves, Goes, goes-before, goes-past, meet-slot, sum-in}

-- what is below a test that isn't before a level
pub record Under (s : Shown) (first : ℕ) (r n : Entry) : Type 0 where
  pub not_before : IsNotBefore first (s.tree n)
  pub smaller : tree_rank (slots s.sizes) (s.tree n) < tree_rank (slots s.sizes) (s.tree r)

pub no-under : (s : Shown) → IsSound s → (first : ℕ) (r y n : Entry) (l : Level) → s.knows r ≡ true → IsViewOf s r (V.Test l y n) → IsNotBefore first (s.tree r) → Under s first r n
no-under s o first r y n l k i b =
    let ds = slots s.sizes in
    let q : Parts ds l.0 (s.tree y) (s.tree n) = parts ds l.0 (s.tree y) (s.tree n) (rw i.0 at (o.reduced r k)) in
    let c : first ≤ l.0 = rw i.0 at b in
    let up : l.0 < after ds l.0 = after_above ds l.0 q.level in
    record {
      not_before = elim q.no_fits [ inl f ↦ not-before-from ds first (after ds l.0) _ (omega arith) f | inr f ↦ not-before-lower first (l.0 + 1) _ (omega arith) (not-before-at (l.0 + 1) _ f.0) ];
      smaller = (rank-view s o r y n l.0 k i.0).1;
    }

-- a list with each tree at the slot's values, and one more
taken-push : (s : Shown) (first end i n : ℕ) (ks : List Entry) (r q : Entry) → n ≡ i + length ks → s.tree q ≡ cofactored first end (n / 2) (s.tree r) → (at : List Entry) → trees_of s at ≡ taken first end i (trees_of s ks)
    → trees_of s (at ++ q ∷ []) ≡ taken first end i (trees_of s (ks ++ r ∷ []))
taken-push s first end i n ks r q e h at a =
    map-append s.tree at (q ∷ []) ∙ ap (λ v. v ++ s.tree q ∷ []) a ∙ ap (λ v. taken first end i (trees_of s ks) ++ v ∷ []) h ∙ sym (go i ks e)
  where
    go : (j : ℕ) (us : List Entry) → n ≡ j + length us → taken first end j (trees_of s (us ++ r ∷ [])) ≡ taken first end j (trees_of s us) ++ cofactored first end (n / 2) (s.tree r) ∷ []
    go j [] f = let g : j ≡ n = omega arith in ap (λ m. cofactored first end (m / 2) (s.tree r) ∷ []) g
    go j (u ∷ us) f = ap (λ v. cofactored first end (j / 2) (s.tree u) ∷ v) (go (j + 1) us (omega arith))

pub taken-more : (s : Shown) (first end i : ℕ) (ks : List Entry) (q d : Entry) → i < length ks → s.tree q ≡ cofactored first end (i / 2) (s.tree (get_or ks i d)) → (at : List Entry) → trees_of s at ≡ taken first end 0 (trees_of s (take i ks))
    → trees_of s (at ++ q ∷ []) ≡ taken first end 0 (trees_of s (take (i + 1) ks))
taken-more s first end i ks q d b h at a = rw (take_more ks i d b) (taken-push s first end 0 i (take i ks) (get_or ks i d) q (let z : length (take i ks) ≡ i = length-take-le i ks (omega arith) in omega arith) h at a)

pub before-all : (s : Shown) (first : ℕ) (l : Level) (ks : List Entry) → first ≤ l.0 → IsLowOf s (Some l) ks → All (λ r. IsNotBefore first (s.tree r)) ks
before-all s first l ks b low = all-of (IsNotBefore first) s ks (each-weaker (IsNotBefore l.0) (IsNotBefore first) (λ t m. not-before-lower first l.0 t b m) _ low.none_before)

length-mapped : (f : Tree → Tree) (ts : List Tree) → length (map f ts) ≡ length ts
length-mapped f [] = refl
length-mapped f (t ∷ ts) = ap suc (length-mapped f ts)

length-taken : (first end i : ℕ) (ts : List Tree) → length (taken first end i ts) ≡ length ts
length-taken first end i [] = refl
length-taken first end i (t ∷ ts) = ap suc (length-taken first end (i + 1) ts)

-- a list that may be met may be met with a weight of 0 in the place of its value
pub may-like : (levels first end : ℕ) (sizes : List ℕ) (ts us : List Tree) → IsLike ts us → MaySum levels first end sizes ts → MaySum levels first end sizes us
may-like levels first end sizes ts us h m = record {
  same = m.same;
  slot = m.slot;
  is_slot = m.is_slot;
  short = rw (length-like ts us h) m.short;
  room = m.room;
  meet = elim m.meet [
    | inl w ↦ inl (record { from = w.from; each = each-like (IsFrom (slots sizes) 0 w.from) tt ts us h w.each })
    | inr w ↦ inr (record { level = w.level; within = w.within; outside = w.outside; each = each-like (IsAtOrPast (slots sizes) w.level) (inl tt) ts us h w.each })
  ];
  all_fit = sym (mark-like levels first end ts us h) ∙ m.all_fit;
}

-- how a sum goes on from a list whose lowest level is known
module _ (way : Way) (levels first end : ℕ) (s : Shown) (o : IsSound s) (ks : List Entry) (known : AreKnown s ks) (may : MaySum levels first end s.sizes (trees_of s ks)) where
  abbrev ds : List ℕ
  ds = slots s.sizes

  abbrev ts : List Tree
  ts = trees_of s ks

  abbrev making : List Tree → Tree
  making = summed levels first end (weighed way)

  same : levels_of ds ≡ levels
  same = sym may.same

  module _ (l : Level) (low : IsLowOf s (Some l) ks) where
    reduced : Each (IsReduced ds 0) ts
    reduced = reduced-all s o ks known

    ranks : (levels_of ds - l.0 ≤ list_rank ds ts) × (l.0 < levels_of ds)
    ranks = one-rank ds l.0 ts reduced low.one_at

    fits : Each (FitsAt ds l.0) ts
    fits = meet-lowest ds first end l.0 ts reduced may.meet low ranks.1

    goes : (op : List Leaf → Leaf) → (l.0 < first) ⊎ (end ≤ l.0) → Goes ds may.slot first end may.is_slot op l.0 ts
    goes op (inl b) = goes-before ds may.slot first end may.is_slot op l.0 ts b fits
    goes op (inr b) = goes-past ds may.slot first end may.is_slot op l.0 ts b ranks.1 fits

    -- a test
    pub plans-test : (l.0 < first) ⊎ (end ≤ l.0) → (ys ns : List Entry) → AreKnown s ys → AreKnown s ns
        → IsLike (map (yes_at l.0) ts) (trees_of s ys) → IsLike (map (no_at l.0) ts) (trees_of s ns)
        → GoesToTest making (MaySum levels first end s.sizes) s ks l.0 ys ns
    plans-test out ys ns ky kn ty tn =
        let g = goes (weighed way) out in
        let m = goes fit_mark out in
        let both = join-ends l.0 _ _ (Act 1) (sym m.is_join ∙ subst (λ v. summed v first end fit_mark ts ≡ Ends (Act 1)) (sym same) may.all_fit) in
        let r = rank-lowest ds l.0 ts fits ranks.1 in
        let gj = subst (λ v. summed v first end (weighed way) ts ≡ join l.0 (summed v first end (weighed way) (map (yes_at l.0) ts)) (summed v first end (weighed way) (map (no_at l.0) ts))) same g.is_join in
        let gc = subst (λ v. CanTest ds l.0 (summed v first end (weighed way) (map (yes_at l.0) ts)) (summed v first end (weighed way) (map (no_at l.0) ts))) same g.can_test in
        let b0 = subst (λ v. summed v first end fit_mark (map (yes_at l.0) ts) ≡ Ends (Act 1)) same both.0 in
        let b1 = subst (λ v. summed v first end fit_mark (map (no_at l.0) ts) ≡ Ends (Act 1)) same both.1 in
        let my : MaySum levels first end s.sizes (map (yes_at l.0) ts) = record { same = may.same; slot = may.slot; is_slot = may.is_slot; short = rw (length-mapped (yes_at l.0) ts) may.short; room = may.room; meet = g.yes_meet; all_fit = b0 } in
        let mn : MaySum levels first end s.sizes (map (no_at l.0) ts) = record { same = may.same; slot = may.slot; is_slot = may.is_slot; short = rw (length-mapped (no_at l.0) ts) may.short; room = may.room; meet = g.no_meet; all_fit = b1 } in
        let ey : making (trees_of s ys) ≡ making (map (yes_at l.0) ts) = sym (weighed-like levels first end way (map (yes_at l.0) ts) (trees_of s ys) ty) in
        let en : making (trees_of s ns) ≡ making (map (no_at l.0) ts) = sym (weighed-like levels first end way (map (no_at l.0) ts) (trees_of s ns) tn) in
        let ry = rank-like ds (map (yes_at l.0) ts) (trees_of s ys) ty in
        let rn = rank-like ds (map (no_at l.0) ts) (trees_of s ns) tn in
        record {
          level_in = ranks.1;
          is = rw (ey, en) gj;
          can_test = rw (ey, en) gc;
          yes_goes = record { known = ky; trees = may-like levels first end s.sizes (map (yes_at l.0) ts) (trees_of s ys) ty my };
          no_goes = record { known = kn; trees = may-like levels first end s.sizes (map (no_at l.0) ts) (trees_of s ns) tn mn };
          yes_smaller = omega (arith, r.0, ranks.0, ry);
          no_smaller = omega (arith, r.1, ranks.0, rn);
        }

    -- taken at the slot all are past it
    pub past-slot : first ≤ l.0 → l.0 < end → Each (IsNotBefore end) (taken first end 0 ts)
    past-slot a b =
        let come = meet-slot ds may.slot first end may.is_slot l.0 ts reduced may.meet low a b in
        each-weaker (λ t. IsReduced ds 0 t × IsFrom ds 0 end t) (IsNotBefore end) (λ t c. not-before-from ds end end t (omega arith) c.1) _ (taken-all ds may.slot first end may.is_slot 0 ts come)

    -- in the slot
    pub plans-slot : first ≤ l.0 → l.0 < end → (below : List Entry) → AreKnown s below → IsLike (taken first end 0 ts) (trees_of s below)
        → GoesBelow making (MaySum levels first end s.sizes) s ks below
    plans-slot a b below kb tb =
        let come = meet-slot ds may.slot first end may.is_slot l.0 ts reduced may.meet low a b in
        let i = subst (λ v. summed v first end (weighed way) ts ≡ summed v first end (weighed way) (taken first end 0 ts)) same (sum-in ds may.slot first end may.is_slot (weighed way) ts come) in
        let m = subst (λ v. summed v first end fit_mark ts ≡ summed v first end fit_mark (taken first end 0 ts)) same (sum-in ds may.slot first end may.is_slot fit_mark ts come) in
        let q = taken-all ds may.slot first end may.is_slot 0 ts come in
        let mt : MaySum levels first end s.sizes (taken first end 0 ts) = record {
          same = may.same;
          slot = may.slot;
          is_slot = may.is_slot;
          short = rw (length-taken first end 0 ts) may.short;
          room = may.room;
          meet = inl (record { from = end; each = each-weaker (λ t. IsReduced ds 0 t × IsFrom ds 0 end t) (IsFrom ds 0 end) (λ t c. c.1) _ q });
          all_fit = sym m ∙ may.all_fit;
        } in
        record {
          is = i ∙ weighed-like levels first end way (taken first end 0 ts) (trees_of s below) tb;
          goes = record { known = kb; trees = may-like levels first end s.sizes (taken first end 0 ts) (trees_of s below) tb mt };
          smaller = omega (arith, rank-past ds end l.0 (taken first end 0 ts) b ranks.1 q, ranks.0, rank-like ds (taken first end 0 ts) (trees_of s below) tb);
        }
      where
        rank-past : (ds : List ℕ) (end l : ℕ) (ts : List Tree) → l < end → l < levels_of ds → Each (λ t. IsReduced ds 0 t × IsFrom ds 0 end t) ts → list_rank ds ts < levels_of ds - l
        rank-past ds end l [] b c h = omega arith
        rank-past ds end l (t ∷ ts) b c h = let i = rank-past ds end l ts b c h.1 in let j = rank-from ds l end t c b h.0.1 in omega (arith, i, j)

-- of leaves a sum is a leaf, and they fit
module _ (way : Way) (levels first end : ℕ) (s : Shown) (ks : List Entry) (may : MaySum levels first end s.sizes (trees_of s ks)) (leaves : Each IsLeaf (trees_of s ks)) where
  pub bottom-tree : summed levels first end (weighed way) (trees_of s ks) ≡ Ends (weighed way (map last_leaf (trees_of s ks)))
  bottom-tree = rw may.same (sum-leaves (slots s.sizes) may.slot first end may.is_slot (weighed way) (trees_of s ks) leaves)

  pub bottom-fit : fit (map last_leaf (trees_of s ks)) ≡ true
  bottom-fit = mark-fits (map last_leaf (trees_of s ks)) (sym (rw may.same (sum-leaves (slots s.sizes) may.slot first end may.is_slot fit_mark (trees_of s ks) leaves)) ∙ may.all_fit)

-- a known value that alone has weight, and is past the slot, is the sum
pub known-alone : (way : Way) (levels first end : ℕ) (s : Shown) → IsSound s → (ks : List Entry) → MaySum levels first end s.sizes (trees_of s ks) → (r : Entry) → s.knows r ≡ true → IsNotBefore end (s.tree r) → IsAlone (s.tree r) (trees_of s ks)
    → KnowsAs s r (summed levels first end (weighed way) (trees_of s ks))
known-alone way levels first end s o ks may r k past alone =
    let fits = subst (λ v. summed v first end fit_mark (trees_of s ks) ≡ Ends (Act 1)) may.same may.all_fit in
    let is = sum-alone (slots s.sizes) way may.slot first end may.is_slot (trees_of s ks) (s.tree r) (o.reduced r k) past alone fits in
    record { knows = k; tree = sym (subst (λ v. summed v first end (weighed way) (trees_of s ks) ≡ s.tree r) (sym may.same) is) }
