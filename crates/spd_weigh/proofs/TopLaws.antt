-- What a sum over whole entries is: the test tree of the sum's function.
use Rattle.std.proofs.Common.{◌≡◌, ℕ, zero, suc, ◌+◌, ◌-◌, ◌*◌, ◌/◌, ◌<◌, ◌≤◌, ◌||◌, true, false, List, [], ◌∷◌, ◌++◌, map, length, set, take, get_or, refl, sym, ◌∙◌, ap, subst, arith, All, inl, ℤ, pos, ◌+ℤ◌, ◌*ℤ◌, ◌≤ℤ◌, neg_ℤ}
use Rattle.std.specs.Prelude.{int_le, Contains}
use Rattle.std.specs.Ordering.{int_eq}
use Rattle.std.proofs.lemmas.Bool.{and_from, or_right}
use Rattle.std.proofs.lemmas.Bool.Decides.{nat_tests}
use Rattle.std.proofs.lemmas.Int.{ints}
use Rattle.std.proofs.lemmas.List.{take_more, length-map}
use Rattle.std.proofs.lemmas.List.Elements.{All-head, All-tail, All-nil, All-cons}
use Rattle.spd_scaled.proofs.CallerLemmas.Ring.{int_eq-holds}
use Rattle.spd_cons_core.specs.declared.key.Entry.{Entry}
use Rattle.spd_model.specs.Chances.{one}
use Rattle.spd_model.specs.Numbers.{sum_below}
use Rattle.spd_model.specs.States.{IsState}
use Rattle.spd_model.proofs.CallerLemmas.Sums.{sum_below-cong}
use Rattle.spd_nodes.specs.declared.leaf.Leaf.{Leaf}
use Rattle.spd_nodes.specs.declared.leaf.Leaf.TheVariants.{Num, Pair, Act}
use Rattle.spd_nodes.specs.Levels.{levels_of, slots, slot_of, level_at, IsSlot}
use Rattle.spd_nodes.specs.Trees.{Tree, Ends, IsFrom, IsReduced}
use Rattle.spd_nodes.specs.States.{Function, point}
use Rattle.spd_nodes.specs.Shown.{Shown, IsSound, IsWhole, Grows, meaning}
use Rattle.spd_nodes.proofs.CallerLemmas.{IsState-point, IsTreeFor, levels_of-slots, slot-of, tree-for}
use Rattle.spd_apply.proofs.CallerLemmas.{not-before-from}
use Rattle.spd_restrict.specs.Chosen.{function_at}
use Rattle.spd_restrict.proofs.CallerLemmas.{set-primed, whole-from}
use Rattle.spd_gather.specs.Down.{Each}
use Rattle.spd_gather.specs.Lists.{trees_of, AreKnown, HoldsRows, IsListReady}
use Rattle.spd_gather.specs.Rows.{Row}
use Rattle.spd_gather.proofs.CallerLemmas.{each-both, each-weaker, rows-grow}
use Rattle.spd_weigh.specs.declared.way.Way.{Way}
use Rattle.spd_weigh.specs.Leaves.{number_of, rounding_of, greatest_value, IsWeight, IsValue, HasValues}
use Rattle.spd_weigh.specs.Summed.{summed, weighed, products, weights, is_weight, is_value, each_fits, fit, fit_mark, beside, MaySum, IsLike, HoldsSums}
use Rattle.spd_weigh.specs.Weighing.{summed_out, product_at, weight_at, AreWeights}
use Rattle.spd_weigh.proofs.EarlyLaws.{weighed-like}
use Rattle.spd_weigh.proofs.PlanLaws.{may-like}
use Rattle.spd_weigh.proofs.SlotLaws.{first-within, Comes, slot_values, summed-whole, value_at-summed}

-- ---- the sum's function, by its list of leaves

-- the weights and a function's values: each weight at its value, and the function there
abbrev pub weights_at : List Function → ℕ → ℕ → Function → List ℕ → List ℕ → List Leaf
weights_at [] var value f s t = []
weights_at (w ∷ ws) var value f s t = w s (set t var value) ∷ f s (set t var value) ∷ weights_at ws var (value + 1) f s t

sum_below-front : (n : ℕ) (g : ℕ → ℤ) → sum_below (suc n) g ≡ g 0 +ℤ sum_below n (λ v. g (suc v))
sum_below-front zero g = omega (arith, ints)
sum_below-front (suc n) g =
    let i : sum_below (suc n) g ≡ g 0 +ℤ sum_below n (λ v. g (suc v)) = sum_below-front n g in
    ap (λ x. x +ℤ g (suc n)) i ∙ (let a : ((g 0 +ℤ sum_below n (λ v. g (suc v))) +ℤ g (suc n)) ≡ g 0 +ℤ (sum_below n (λ v. g (suc v)) +ℤ g (suc n)) = omega (arith, ints) in a)

module _ (var : ℕ) (f : Function) (s t : List ℕ) where
  -- a weight at a value, and its product
  abbrev weight : List Function → ℕ → ℕ → Leaf
  weight ws k v = function_at ws v s (set t var (k + v))

  abbrev value : ℕ → Leaf
  value k = f s (set t var k)

  next : (k v : ℕ) → (k + 1) + v ≡ k + suc v
  next k v = omega arith

  at-start : (k : ℕ) → k + 0 ≡ k
  at-start k = omega arith

  products-sum : (ws : List Function) (k : ℕ) → products (weights_at ws var k f s t) ≡ sum_below (length ws) (λ v. number_of (weight ws k v) *ℤ number_of (value (k + v)))
  products-sum [] k = refl
  products-sum (w ∷ ws) k =
      ap (λ x. number_of (w s (set t var k)) *ℤ number_of (value k) +ℤ x) (
      products-sum ws (k + 1)
      ∙ sum_below-cong (length ws) _ (λ v. number_of (weight (w ∷ ws) k (suc v)) *ℤ number_of (value (k + suc v))) (λ v b. ap (λ j. number_of (function_at ws v s (set t var j)) *ℤ number_of (value j)) (next k v)))
      ∙ ap (λ j. number_of (w s (set t var j)) *ℤ number_of (value j) +ℤ sum_below (length ws) (λ v. number_of (weight (w ∷ ws) k (suc v)) *ℤ number_of (value (k + suc v)))) (sym (at-start k))
      ∙ sym (sum_below-front (length ws) (λ v. number_of (weight (w ∷ ws) k v) *ℤ number_of (value (k + v))))

  weights-sum : (ws : List Function) (k : ℕ) → weights (weights_at ws var k f s t) ≡ sum_below (length ws) (λ v. number_of (weight ws k v))
  weights-sum [] k = refl
  weights-sum (w ∷ ws) k =
      ap (λ x. number_of (w s (set t var k)) +ℤ x) (
      weights-sum ws (k + 1)
      ∙ sum_below-cong (length ws) _ (λ v. number_of (weight (w ∷ ws) k (suc v))) (λ v b. ap (λ j. number_of (function_at ws v s (set t var j))) (next k v)))
      ∙ ap (λ j. number_of (w s (set t var j)) +ℤ sum_below (length ws) (λ v. number_of (weight (w ∷ ws) k (suc v)))) (sym (at-start k))
      ∙ sym (sum_below-front (length ws) (λ v. number_of (weight (w ∷ ws) k v)))

  weight-holds : (a : Leaf) → IsWeight a → is_weight a ≡ true
  weight-holds (Num x) h = grind (arith, ints, nat_tests)
  weight-holds (Pair x y) h = absurd h
  weight-holds (Act x) h = absurd h

  pub value-holds : (a : Leaf) → IsValue a → is_value a ≡ true
  value-holds (Num x) h =
      let low : neg_ℤ greatest_value ≤ℤ x = h.low in
      let high : x ≤ℤ greatest_value = h.high in
      let a : int_le x greatest_value ≡ true = grind (arith, ints, nat_tests) in
      let b : int_le (neg_ℤ greatest_value) x ≡ true = grind (arith, ints, nat_tests) in
      and_from (int_le x greatest_value) (int_le (neg_ℤ greatest_value) x) a b
  value-holds (Pair x y) h = absurd h
  value-holds (Act x) h = absurd h

  fits-each : (ws : List Function) (k : ℕ) → ((v : ℕ) → v < length ws → IsWeight (weight ws k v)) → ((v : ℕ) → v < length ws → IsValue (value (k + v))) → each_fits (weights_at ws var k f s t) ≡ true
  fits-each [] k h g = refl
  fits-each (w ∷ ws) k h g =
      let a : is_weight (w s (set t var k)) ≡ true = weight-holds _ (subst (λ j. IsWeight (w s (set t var j))) (at-start k) (h 0 (omega arith))) in
      let b : is_value (value k) ≡ true = value-holds _ (subst (λ j. IsValue (value j)) (at-start k) (g 0 (omega arith))) in
      let c : each_fits (weights_at ws var (k + 1) f s t) ≡ true = fits-each ws (k + 1) (λ v i. subst (λ j. IsWeight (function_at ws v s (set t var j))) (sym (next k v)) (h (suc v) (omega arith))) (λ v i. subst (λ j. IsValue (value j)) (sym (next k v)) (g (suc v) (omega arith))) in
      and_from _ (each_fits (weights_at ws var (k + 1) f s t))
      (and_from (is_weight (w s (set t var k))) (int_eq (number_of (w s (set t var k))) (pos 0) || is_value (value k)) a (or_right (int_eq (number_of (w s (set t var k))) (pos 0)) (is_value (value k)) b)) c

zero-plus : (v : ℕ) → 0 + v ≡ v
zero-plus v = omega arith

-- the weighed sum of the list is the sum's number
weighed-sum : (way : Way) (var : ℕ) (ws : List Function) (f : Function) (s t : List ℕ) → weighed way (weights_at ws var 0 f s t) ≡ summed_out way var ws f s t
weighed-sum way var ws f s t =
    ap (λ x. Num (rounding_of way x one)) (
    products-sum var f s t ws 0
    ∙ sum_below-cong (length ws) _ (λ v. product_at var ws f v s t) (λ v b. ap (λ j. number_of (function_at ws v s (set t var j)) *ℤ number_of (f s (set t var j))) (zero-plus v)))

-- a state with another value of a variable is a state
pub set-state : (sizes t : List ℕ) (var v : ℕ) → IsState sizes t → v < get_or sizes var 0 → IsState sizes (set t var v)
set-state [] [] var v h b = tt
set-state [] (x ∷ t) var v h b = absurd h
set-state (d ∷ ds) [] var v h b = absurd h
set-state (d ∷ ds) (x ∷ t) zero v h b = (b, h.1)
set-state (d ∷ ds) (x ∷ t) (suc var) v h b = (h.0, set-state ds t var v h.1 b)

-- weights and values that meet the conditions fit at all states
fit-at : (sizes : List ℕ) (var : ℕ) (ws : List Function) (f : Function) → length ws ≡ get_or sizes var 0 → AreWeights sizes var ws → HasValues sizes f
    → (s t : List ℕ) → IsState sizes s → IsState sizes t → fit (weights_at ws var 0 f s t) ≡ true
fit-at sizes var ws f count h g s t p q =
    let a : each_fits (weights_at ws var 0 f s t) ≡ true =
    fits-each var f s t ws 0 (λ v b. subst (λ j. IsWeight (function_at ws v s (set t var j))) (sym (zero-plus v)) (h.each v b s t p q))
    (λ v b. subst (λ j. IsValue (f s (set t var j))) (sym (zero-plus v)) (g.at s (set t var v) p (set-state sizes t var v q (omega (arith, b, count))))) in
    let e : weights (weights_at ws var 0 f s t) ≡ one =
    weights-sum var f s t ws 0
    ∙ sum_below-cong (length ws) _ (λ v. number_of (weight_at var ws v s t)) (λ v b. ap (λ j. number_of (function_at ws v s (set t var j))) (zero-plus v))
    ∙ h.sum s t p q in
    and_from (each_fits (weights_at ws var 0 f s t)) (int_eq (weights (weights_at ws var 0 f s t)) one) a (int_eq-holds (weights (weights_at ws var 0 f s t)) one e)

-- ---- entries side by side

beside-push : (ws : List Entry) (w f : Entry) → beside (ws ++ w ∷ []) f ≡ (beside ws f ++ w ∷ []) ++ f ∷ []
beside-push [] w f = refl
beside-push (v ∷ ws) w f = ap (λ z. v ∷ f ∷ z) (beside-push ws w f)

pub beside-more : (ws : List Entry) (i : ℕ) (d f : Entry) → i < length ws → beside (take (i + 1) ws) f ≡ (beside (take i ws) f ++ get_or ws i d ∷ []) ++ f ∷ []
beside-more ws i d f h = ap (λ z. beside z f) (take_more ws i d h) ∙ beside-push (take i ws) (get_or ws i d) f

even-half : (k : ℕ) → (2 * k) / 2 ≡ k
even-half k = omega arith

odd-half : (k : ℕ) → (2 * k + 1) / 2 ≡ k
odd-half k = omega arith

pub known-beside : (s : Shown) (f : Entry) → s.knows f ≡ true → (ws : List Entry) → AreKnown s ws → AreKnown s (beside ws f)
known-beside s f kf [] h = All-nil (λ w. s.knows w ≡ true)
known-beside s f kf (u ∷ us) h =
    All-cons (λ w. s.knows w ≡ true) u (f ∷ beside us f) (All-head (λ w. s.knows w ≡ true) u us h)
    (All-cons (λ w. s.knows w ≡ true) f (beside us f) kf (known-beside s f kf us (All-tail (λ w. s.knows w ≡ true) u us h)))

-- the levels of a variable's next value, and the number of all levels
pub record IsPlaced (sizes : List ℕ) (var levels first end : ℕ) : Type 0 where
  pub same : levels ≡ levels_of (slots sizes)
  pub first_is : first ≡ level_at sizes var true 0
  pub end_is : end ≡ first + (get_or sizes var 0 - 1)

-- the levels end with the last variable's plain ones
pub last-levels : (sizes : List ℕ) (k : ℕ) → k + 1 ≡ length sizes → level_at sizes k false 0 + (get_or sizes k 0 - 1) ≡ levels_of (slots sizes)
last-levels [] k e = absurd (omega (arith, e))
last-levels (d ∷ []) zero e = omega arith
last-levels (d ∷ e ∷ ds) zero h = absurd (omega (arith, h))
last-levels (d ∷ ds) (suc k) h =
    let i : level_at ds k false 0 + (get_or ds k 0 - 1) ≡ levels_of (slots ds) = last-levels ds k (omega (arith, h)) in
    let e : 2 * suc k + 1 ≡ suc (suc (2 * k + 1)) = omega arith in
    let f : levels_of (take (2 * suc k + 1) (slots (d ∷ ds))) ≡ (d - 1) + ((d - 1) + levels_of (take (2 * k + 1) (slots ds))) = ap (λ n. levels_of (take n (d ∷ d ∷ slots ds))) e in
    omega (arith, f, i)

-- what a layout tells of the levels
pub levels-from : (sizes own all : List ℕ) (last levels : ℕ) → own ≡ sizes → all ≡ own → 0 < length sizes → last ≡ level_at own (length all - 1) false 0 → levels ≡ last + (get_or own (length all - 1) 0 - 1) → levels ≡ levels_of (slots sizes)
levels-from sizes own all last levels e a some h i =
    let count : length all ≡ length sizes = ap length (a ∙ e) in
    let h' : last ≡ level_at sizes (length all - 1) false 0 = rw e at h in
    let i' : levels ≡ last + (get_or sizes (length all - 1) 0 - 1) = rw e at i in
    i' ∙ ap (λ v. v + (get_or sizes (length all - 1) 0 - 1)) h' ∙ last-levels sizes (length all - 1) (omega (arith, count, some))

-- and of the variable
pub placed-from : (sizes own all : List ℕ) (var first end last levels : ℕ) → own ≡ sizes → all ≡ own → 0 < length sizes → first ≡ level_at own var true 0 → end ≡ first + (get_or own var 0 - 1)
    → last ≡ level_at own (length all - 1) false 0 → levels ≡ last + (get_or own (length all - 1) 0 - 1) → IsPlaced sizes var levels first end
placed-from sizes own all var first end last levels e a some f g h i = record { same = levels-from sizes own all last levels e a some h i; first_is = rw e at f; end_is = rw e at g }

module _ (s : Shown) (o : IsSound s) (var levels first end : ℕ) (b : var < length s.sizes) (placed : IsPlaced s.sizes var levels first end)
    (f : Entry) (kf : s.knows f ≡ true) (wf : IsWhole s f) (ws : List Entry) (kw : AreKnown s ws) (ww : All (λ w. IsWhole s w) ws) where
  abbrev ds : List ℕ
  ds = slots s.sizes

  abbrev slot : ℕ
  slot = slot_of var true

  sl : IsSlot ds slot first end
  sl = slot-of s.sizes var first end true b placed.first_is placed.end_is

  each-beside : (P : Tree → Type 0) → P (s.tree f) → (ws : List Entry) → All (λ w. P (s.tree w)) ws → Each P (trees_of s (beside ws f))
  each-beside P p [] h = tt
  each-beside P p (w ∷ ws) h = (All-head (λ w. P (s.tree w)) w ws h, (p, each-beside P p ws (All-tail (λ w. P (s.tree w)) w ws h)))

  values-are : (x y : List ℕ) → IsState s.sizes x → IsState s.sizes y → (k i : ℕ) (ws : List Entry) → i ≡ 2 * k → slot_values ds slot (point x y) i (trees_of s (beside ws f)) ≡ weights_at (map (meaning s) ws) var k (meaning s f) x y
  values-are x y p q k i [] e = refl
  values-are x y p q k i (w ∷ ws) e =
      let h : i / 2 ≡ k = ap (λ j. j / 2) e ∙ even-half k in
      let g : (i + 1) / 2 ≡ k = ap (λ j. (j + 1) / 2) e ∙ odd-half k in
      let z = set-primed s.sizes x y var k p q b in
      rw (h, g, z, values-are x y p q (k + 1) (i + 1 + 1) ws (omega arith)) refl

  abbrev ts : List Tree
  ts = trees_of s (beside ws f)

  abbrev fs : List Function
  fs = map (meaning s) ws

  reduced-of : (us : List Entry) → AreKnown s us → All (λ w. IsReduced ds 0 (s.tree w)) us
  reduced-of us h = λ k d l. o.reduced _ (h k d l)

  reduced : Each (IsReduced ds 0) ts
  reduced = each-beside (IsReduced ds 0) (o.reduced f kf) ws (reduced-of ws kw)

  whole : Each (IsFrom ds 0 0) ts
  whole = each-beside (IsFrom ds 0 0) wf ws ww

  comes : Each (Comes ds slot first end sl 0) ts
  comes = each-weaker (λ t. IsReduced ds 0 t × IsFrom ds 0 0 t) (Comes ds slot first end sl 0) (λ t a. ((a.0, not-before-from ds 0 0 t (omega arith) a.1), whole-from ds first 0 t a.1)) ts (each-both (IsReduced ds 0) (IsFrom ds 0 0) ts reduced whole)

  module _ (op : List Leaf → Leaf) where
    abbrev made : Tree
    made = summed (levels_of ds) first end op ts

    -- what is made is the tree of the operation at each state
    top-tree : IsTreeFor s (summed (levels_of ds) first end op ts) (λ x y. op (weights_at fs var 0 (meaning s f) x y))
    top-tree = record {
      reduced = (summed-whole ds slot first end sl op ts reduced whole).0;
      whole = (summed-whole ds slot first end sl op ts reduced whole).1;
      value = record { at = λ x y p q. value_at-summed ds slot first end sl op ts (point x y) (IsState-point s.sizes x y p q) comes ∙ ap op (values-are x y p q 0 0 ws (omega arith)) };
    }

  -- weights and numbers that fit at all states fit wherever they meet
  top-fit : length ws ≡ get_or s.sizes var 0 → AreWeights s.sizes var fs → HasValues s.sizes (meaning s f) → summed (levels_of ds) first end fit_mark ts ≡ Ends (Act 1)
  top-fit count h g =
      let mark : Function = λ x y. fit_mark (weights_at fs var 0 (meaning s f) x y) in
      let all : IsTreeFor s (Ends (Act 1)) mark = record {
        reduced = tt;
        whole = tt;
        value = record { at = λ x y p q. (let e : fit (weights_at fs var 0 (meaning s f) x y) ≡ true = fit-at s.sizes var fs (meaning s f) (length-map ws (meaning s) ∙ count) h g x y p q in rw e refl) };
      } in
      tree-for {s = s} {u = summed (levels_of ds) first end fit_mark ts} {f = mark} o (top-tree fit_mark) ∙ sym (tree-for {s = s} {u = Ends (Act 1)} {f = mark} o all)

  length-beside : (us : List Entry) → length (trees_of s (beside us f)) ≡ 2 * length us
  length-beside [] = refl
  length-beside (u ∷ us) = let e : length (trees_of s (beside us f)) ≡ 2 * length us = length-beside us in omega arith

  module _ (way : Way) (ks : List Entry) (kk : AreKnown s ks) (like : IsLike ts (trees_of s ks)) where
    -- the sum's tree is the test tree of the sum's function
    pub sum-tree : IsTreeFor s (summed levels first end (weighed way) (trees_of s ks)) (summed_out way var fs (meaning s f))
    sum-tree =
        let q = top-tree (weighed way) in
        let e : summed levels first end (weighed way) (trees_of s ks) ≡ summed (levels_of ds) first end (weighed way) ts = sym (weighed-like levels first end way ts (trees_of s ks) like) ∙ ap (λ v. summed v first end (weighed way) ts) placed.same in
        subst (λ u. IsTreeFor s u (summed_out way var fs (meaning s f))) (sym e)
        (record { reduced = q.reduced; whole = q.whole; value = record { at = λ x y i j. q.value.at x y i j ∙ weighed-sum way var fs (meaning s f) x y } })

    pub sum-ready : (rows : List Row) → length ws ≡ get_or s.sizes var 0 → AreWeights s.sizes var fs → HasValues s.sizes (meaning s f) → HoldsSums way var s rows
        → IsListReady (summed levels first end (weighed way)) (MaySum levels first end s.sizes) s ks rows
    sum-ready rows count h g holds =
        let size : (0 < get_or s.sizes var 0) × (get_or s.sizes var 0 ≤ 64) = o.layout.values var 0 b in
        let in-levels : first ≤ levels_of ds = first-within ds slot first end sl in
        let few : levels_of ds ≤ 512 = omega (arith, levels_of-slots s.sizes, o.layout.tests) in
        let may : MaySum levels first end s.sizes ts = record {
          same = placed.same;
          slot = slot;
          is_slot = sl;
          short = omega (arith, length-beside ws, count, size.1);
          room = omega (arith, in-levels, few);
          meet = inl (record { from = 0; each = whole });
          all_fit = rw (placed.same) (top-fit count h g);
        } in
        record {
          sound = o;
          met = record { known = kk; trees = may-like levels first end s.sizes ts (trees_of s ks) like may };
          table = rw (placed.end_is, placed.first_is, placed.same) holds;
        }

-- afterwards the table holds such sums again
pub sum-holds : (way : Way) (s t : Shown) (var levels first end : ℕ) → IsPlaced s.sizes var levels first end → t.sizes ≡ s.sizes → (rows : List Row)
    → HoldsRows (summed levels first end (weighed way)) t rows → HoldsSums way var t rows
sum-holds way s t var levels first end p e rows h =
    let P : List ℕ → Type 0 = λ z. HoldsRows (summed (levels_of (slots z)) (level_at z var true 0) (level_at z var true 0 + (get_or z var 0 - 1)) (weighed way)) t rows in
    subst P (sym e) (rw (p.end_is, p.first_is, p.same) at h)

-- a table without rows holds such sums, and goes on to hold them
pub sums-none : (way : Way) (var : ℕ) (s : Shown) (rows : List Row) → rows ≡ [] → HoldsSums way var s rows
sums-none way var s rows e = record { each = λ ks r m. absurd (let n = subst (λ (l : List Row). Contains l (ks, r)) e m in omega (arith, n.1)) }

pub sums-grow : (way : Way) (var : ℕ) (s t : Shown) (rows : List Row) → Grows s t → HoldsSums way var s rows → HoldsSums way var t rows
sums-grow way var s t rows g h =
    let P : List ℕ → Type 0 = λ z. HoldsRows (summed (levels_of (slots z)) (level_at z var true 0) (level_at z var true 0 + (get_or z var 0 - 1)) (weighed way)) t rows in
    subst P (sym g.sizes) (rows-grow h g)
