-- A function times the discount: how the operation goes on from a list, and what it makes of a whole entry.
use Rattle.std.proofs.Common.{◌≡◌, ℕ, ◌-◌, ◌<◌, ◌≤◌, Bool, true, false, cond, List, [], ◌∷◌, map, length, get_or, Some, refl, sym, ◌∙◌, ap, subst, arith, inl, inr, ℤ, pos, ◌*ℤ◌, ◌≤ℤ◌, FitsSigned}
use Rattle.std.specs.Int.{w128}
use Rattle.std.specs.Prelude.{Contains}
use Rattle.std.proofs.lemmas.Int.{ints}
use Rattle.spd_scaled.specs.Scaled.{IsWithin}
use Rattle.spd_scaled.proofs.CallerLemmas.Ring.{*ℤ_mono}
use Rattle.spd_scaled.proofs.CallerLemmas.Magnitude.{IsWithin-*ℤ, IsWithin_mono, fits_within}
use Rattle.spd_cons_core.specs.declared.key.Entry.{Entry}
use Rattle.spd_model.specs.Chances.{discount_one}
use Rattle.spd_nodes.specs.declared.leaf.Leaf.{Leaf}
use Rattle.spd_nodes.specs.declared.leaf.Leaf.TheVariants.{Num, Act}
use Rattle.spd_nodes.specs.declared.layout.Level.{Level}
use Rattle.spd_nodes.specs.Levels.{levels_of, slots}
use Rattle.spd_nodes.specs.Trees.{Tree, Ends, IsReduced}
use Rattle.spd_nodes.specs.States.{Function, point}
use Rattle.spd_nodes.specs.Shown.{Shown, IsSound, IsWhole, Grows, meaning}
use Rattle.spd_nodes.proofs.CallerLemmas.{IsTreeFor, tree-for}
use Rattle.spd_apply.specs.Halves.{yes_at, no_at, IsNotBefore, IsLeaf}
use Rattle.spd_apply.proofs.CallerLemmas.{join-ends, not-before-from}
use Rattle.spd_gather.specs.Down.{Each, FitsAt, last_leaf, at_leaves, at_each_leaf}
use Rattle.spd_gather.specs.Lists.{trees_of, AreKnown, IsLowOf, GoesToTest, HoldsRows, IsListReady}
use Rattle.spd_gather.specs.Meeting.{list_rank}
use Rattle.spd_gather.specs.Rows.{Row}
use Rattle.spd_gather.proofs.CallerLemmas.{down-whole, each-weaker, from-start, halves, leaf-before, leaves-end, meet-lowest, meets, one-rank, rank-lowest, reduced-all, rows-grow, value_at-each}
use Rattle.std.proofs.lemmas.List.Elements.{All-nil, All-cons}
use Rattle.spd_weigh.specs.declared.way.Way.{Way}
use Rattle.spd_weigh.specs.Discounting.{discounted}
use Rattle.spd_weigh.specs.Leaves.{rounding_of, number_of, greatest_value, HasValues}
use Rattle.spd_weigh.specs.Summed.{discounted_leaf, fits_one, is_value, value_mark, MayDiscount, HoldsDiscounts}
use Rattle.spd_weigh.proofs.NumberLaws.{value-within}
use Rattle.spd_weigh.proofs.TopLaws.{value-holds}

mark-is : (b : Bool) → Ends (cond b (Act 1) (Act 0)) ≡ Ends (Act 1) → b ≡ true
mark-is true e = refl
mark-is false e = absurd (cc e)

-- how it goes on from a list
module _ (way : Way) (levels discount : ℕ) (s : Shown) (o : IsSound s) (ks : List Entry) (known : AreKnown s ks) (may : MayDiscount levels discount s.sizes (trees_of s ks)) where
  abbrev ds : List ℕ
  ds = slots s.sizes

  abbrev ts : List Tree
  ts = trees_of s ks

  abbrev making : List Tree → Tree
  making = at_each_leaf levels (discounted_leaf way discount)

  same : levels_of ds ≡ levels
  same = sym may.same

  pub discount-plans : (l : Level) → IsLowOf s (Some l) ks → (ys ns : List Entry) → AreKnown s ys → AreKnown s ns → trees_of s ys ≡ map (yes_at l.0) ts → trees_of s ns ≡ map (no_at l.0) ts
      → GoesToTest making (MayDiscount levels discount s.sizes) s ks l.0 ys ns
  discount-plans l low ys ns ky kn ty tn =
      let reduced : Each (IsReduced ds 0) ts = reduced-all s o ks known in
      let ranks : (levels_of ds - l.0 ≤ list_rank ds ts) × (l.0 < levels_of ds) = one-rank ds l.0 ts reduced low.one_at in
      let fits : Each (FitsAt ds l.0) ts = meet-lowest ds 0 0 l.0 ts reduced may.meet low ranks.1 in
      let meet = meets ds 0 0 (λ k b i. absurd (omega (arith, b))) l.0 ts ranks.1 fits (inr (omega arith)) in
      let g = halves ds (levels_of ds) (at_leaves (discounted_leaf way discount)) (leaves-end ds (discounted_leaf way discount)) l.0 ts ranks.1 fits in
      let m = halves ds (levels_of ds) (at_leaves value_mark) (leaves-end ds value_mark) l.0 ts ranks.1 fits in
      let both = join-ends l.0 _ _ (Act 1) (sym m.is_join ∙ subst (λ v. at_each_leaf v value_mark ts ≡ Ends (Act 1)) may.same may.all_fit) in
      let r = rank-lowest ds l.0 ts fits ranks.1 in
      record {
        level_in = ranks.1;
        is = rw (ty, tn, may.same) g.is_join;
        can_test = rw (ty, tn, may.same) g.can_test;
        yes_goes = record { known = ky; trees = rw ty (record { same = may.same; small = may.small; meet = meet.0; all_fit = rw (may.same) both.0 }) };
        no_goes = record { known = kn; trees = rw tn (record { same = may.same; small = may.small; meet = meet.1; all_fit = rw (may.same) both.1 }) };
        yes_smaller = rw ty (omega (arith, r.0, ranks.0));
        no_smaller = rw tn (omega (arith, r.1, ranks.0));
      }

  module _ (leaves : Each IsLeaf ts) where
    of-leaves : (op : List Leaf → Leaf) → at_each_leaf (levels_of ds) op ts ≡ Ends (op (map last_leaf ts))
    of-leaves op = from-start ds (levels_of ds) (at_leaves op) (leaves-end ds op) (levels_of ds) 0 (omega arith) ts (each-weaker IsLeaf (IsNotBefore (levels_of ds)) (leaf-before (levels_of ds)) ts leaves)

    pub discount-bottom : making ts ≡ Ends (discounted_leaf way discount (map last_leaf ts))
    discount-bottom = rw may.same (of-leaves (discounted_leaf way discount))

    pub discount-fits : fits_one (map last_leaf ts) ≡ true
    discount-fits = mark-is (fits_one (map last_leaf ts)) (sym (of-leaves value_mark) ∙ subst (λ v. at_each_leaf v value_mark ts ≡ Ends (Act 1)) may.same may.all_fit)

-- what it makes of a whole entry
module _ (way : Way) (levels discount : ℕ) (s : Shown) (o : IsSound s) (same : levels ≡ levels_of (slots s.sizes)) (f : Entry) (kf : s.knows f ≡ true) (wf : IsWhole s f) where
  one-tree : (op : List Leaf → Leaf) → IsTreeFor s (at_each_leaf (levels_of (slots s.sizes)) op (s.tree f ∷ [])) (λ x y. op (meaning s f x y ∷ []))
  one-tree op =
      let w = down-whole (slots s.sizes) (levels_of (slots s.sizes)) (at_leaves op) (leaves-end (slots s.sizes) op) (s.tree f ∷ []) (o.reduced f kf, tt) (wf, tt) in
      record {
        reduced = w.0;
        whole = w.1;
        value = record { at = λ x y i j. value_at-each (slots s.sizes) op (s.tree f ∷ []) (point x y) ((o.reduced f kf, not-before-from (slots s.sizes) 0 0 (s.tree f) (omega arith) wf), tt) };
      }

  pub discount-tree : IsTreeFor s (at_each_leaf levels (discounted_leaf way discount) (s.tree f ∷ [])) (discounted way discount (meaning s f))
  discount-tree = subst (λ v. IsTreeFor s (at_each_leaf v (discounted_leaf way discount) (s.tree f ∷ [])) (discounted way discount (meaning s f))) (sym same) (one-tree (discounted_leaf way discount))

  all-values : HasValues s.sizes (meaning s f) → at_each_leaf (levels_of (slots s.sizes)) value_mark (s.tree f ∷ []) ≡ Ends (Act 1)
  all-values h =
      let mark : Function = λ x y. value_mark (meaning s f x y ∷ []) in
      let all : IsTreeFor s (Ends (Act 1)) mark = record {
        reduced = tt;
        whole = tt;
        value = record { at = λ x y p q. (let e : is_value (meaning s f x y) ≡ true = value-holds 0 (meaning s f) x y (meaning s f x y) (h.at x y p q) in rw e refl) };
      } in
      tree-for {s = s} {u = at_each_leaf (levels_of (slots s.sizes)) value_mark (s.tree f ∷ [])} {f = mark} o (one-tree value_mark) ∙ sym (tree-for {s = s} {u = Ends (Act 1)} {f = mark} o all)

  pub discount-ready : (rows : List Row) → discount ≤ 999999 → HasValues s.sizes (meaning s f) → HoldsDiscounts way discount s rows
      → IsListReady (at_each_leaf levels (discounted_leaf way discount)) (MayDiscount levels discount s.sizes) s (f ∷ []) rows
  discount-ready rows small h holds = record {
    sound = o;
    met = record {
      known = All-cons (λ k. s.knows k ≡ true) f [] kf (All-nil (λ k. s.knows k ≡ true));
      trees = record { same = same; small = small; meet = inl (record { from = 0; each = (wf, tt) }); all_fit = rw same (all-values h) };
    };
    table = rw same holds;
  }

-- afterwards the table holds such functions again
pub discount-holds : (way : Way) (discount levels : ℕ) (s t : Shown) → levels ≡ levels_of (slots s.sizes) → t.sizes ≡ s.sizes → (rows : List Row) → HoldsRows (at_each_leaf levels (discounted_leaf way discount)) t rows → HoldsDiscounts way discount t rows
discount-holds way discount levels s t same e rows h =
    subst (λ v. HoldsRows (at_each_leaf v (discounted_leaf way discount)) t rows) (same ∙ ap (λ (z : List ℕ). levels_of (slots z)) (sym e)) h

pub discounts-none : (way : Way) (discount : ℕ) (s : Shown) (rows : List Row) → rows ≡ [] → HoldsDiscounts way discount s rows
discounts-none way discount s rows e = record { each = λ ks r m. absurd (let n = subst (λ (l : List Row). Contains l (ks, r)) e m in omega (arith, n.1)) }

pub discounts-grow : (way : Way) (discount : ℕ) (s t : Shown) (rows : List Row) → Grows s t → HoldsDiscounts way discount s rows → HoldsDiscounts way discount t rows
discounts-grow way discount s t rows g h =
    subst (λ (z : List ℕ). HoldsRows (at_each_leaf (levels_of (slots z)) (discounted_leaf way discount)) t rows) (sym g.sizes) (rows-grow h g)

-- the one leaf of a list, and its product
pub leaf-times : (way : Way) (discount : ℕ) (s : Shown) (list : List Entry) (d : Entry) (x : ℤ) → 0 < length list → s.tree (get_or list 0 d) ≡ Ends (Num x)
    → discounted_leaf way discount (map last_leaf (trees_of s list)) ≡ Num (rounding_of way (pos discount *ℤ x) (pos discount_one))
leaf-times way discount s [] d x b h = absurd (omega arith)
leaf-times way discount s (k ∷ ks) d x b h = ap (λ t. Num (rounding_of way (pos discount *ℤ number_of (last_leaf t)) (pos discount_one))) h

pub fits-some : (s : Shown) (list : List Entry) → fits_one (map last_leaf (trees_of s list)) ≡ true → 0 < length list
fits-some s [] f = absurd (cc f)
fits-some s (k ∷ ks) f = omega arith

pub product-fits : (discount : ℕ) (s : Shown) (list : List Entry) (d : Entry) (x : ℤ) → discount ≤ 999999 → fits_one (map last_leaf (trees_of s list)) ≡ true → s.tree (get_or list 0 d) ≡ Ends (Num x) → FitsSigned w128 (pos discount *ℤ x)
product-fits discount s [] d x b f h = absurd (cc f)
product-fits discount s (k ∷ ks) d x b f h =
    let v : is_value (Num x) ≡ true = ap (λ t. is_value (last_leaf t)) (sym h) ∙ f in
    let w : IsWithin greatest_value x = value-within (Num x) v in
    let few : pos discount ≤ℤ pos 999999 = omega (arith, ints) in
    fits_within w128 (pos 999999 *ℤ greatest_value) (pos discount *ℤ x) (omega (arith, ints))
    (IsWithin_mono (pos discount *ℤ greatest_value) (pos 999999 *ℤ greatest_value) (pos discount *ℤ x) (*ℤ_mono (pos discount) (pos 999999) greatest_value (omega (arith, ints)) few) (IsWithin-*ℤ (pos discount) greatest_value x (omega (arith, ints)) w))
