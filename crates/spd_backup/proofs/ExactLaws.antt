-- Where no rounding happens a sum is the same rounded down and up, and so is a diagram times the discount.
use Rattle.std.proofs.Common.{◌≡◌, ℕ, zero, suc, ◌-◌, ◌<◌, inl, inr, true, cond, Bool, false, List, [], ◌∷◌, length, map, set, refl, sym, ◌∙◌, ap, subst, arith, ℤ, pos, ◌+ℤ◌, ◌*ℤ◌, All}
use Rattle.std.proofs.lemmas.Int.{ints}
use Rattle.std.proofs.lemmas.List.Elements.{Contains-push_cases, All-head, All-tail}
use Rattle.spd_scaled.specs.Scaled.{floor_div, ceil_div}
use Rattle.spd_scaled.proofs.CallerLemmas.DivisionLaws.{floor_div_at_most, ceil_div_at_least}
use Rattle.spd_scaled.proofs.CallerLemmas.Ring.{≤ℤ_antisymm, *ℤ_assoc, *ℤ_swap, *ℤ_comm, one-*ℤ, *ℤ-one}
use Rattle.spd_cons_core.specs.declared.key.Entry.{Entry}
use Rattle.spd_model.specs.Chances.{one}
use Rattle.spd_model.specs.Numbers.{sum_below}
use Rattle.spd_nodes.specs.declared.leaf.Leaf.{Leaf}
use Rattle.spd_nodes.specs.declared.leaf.Leaf.TheVariants.{Num}
use Rattle.spd_nodes.specs.Levels.{slots, passes}
use Rattle.spd_nodes.specs.Refs.{AddsRef}
use Rattle.spd_nodes.specs.Shown.{Shown, IsSound, StandsFor, Grows, meaning}
use Rattle.spd_nodes.specs.States.{Function, Agree, point}
use Rattle.spd_nodes.specs.Trees.{Tree, Ends, Tests, value_at}
use Rattle.spd_nodes.proofs.CallerLemmas.{stands-for}
use Rattle.spd_restrict.specs.Chosen.{function_at}
use Rattle.spd_weigh.specs.declared.way.Way.{Way}
use Rattle.spd_weigh.specs.declared.way.Way.TheVariants.{Down, Up}
use Rattle.spd_weigh.specs.Discounting.{discounted}
use Rattle.spd_weigh.specs.Leaves.{rounding_of, number_of}
use Rattle.spd_weigh.specs.Weighing.{summed_out, product_at, weight_at}
use Rattle.spd_backup.specs.declared.exact.Ratio.{Ratio}
use Rattle.spd_backup.specs.declared.tables.SumTables.{SumTables}
use Rattle.spd_backup.specs.Keeping.{HoldEachSum}
use Rattle.spd_backup.specs.Exact.{IsExact, HasExactLeaves, HaveExactLeaves, IsExactSum, HoldDown}
use Rattle.spd_backup.proofs.FreeLaws.{rounded-one}
use Rattle.spd_backup.proofs.KeepingLaws.{last-sum-grows}

-- ---- whole numbers

abbrev pub IsMultiple : ℤ → ℤ → Type 0
IsMultiple d n = (q : ℤ) × (n ≡ q *ℤ d)

-- what is the same rounded down and up is a multiple
exact-multiple : (n : ℤ) (d : ℕ) → 0 < d → floor_div n (pos d) ≡ ceil_div n (pos d) → IsMultiple (pos d) n
exact-multiple n d some whole =
    let q : ℤ = floor_div n (pos d) in
    (q, ≤ℤ_antisymm n (q *ℤ pos d) (rw whole (ceil_div_at_least n (pos d) (omega (arith, ints)))) (floor_div_at_most n (pos d) (omega (arith, ints))))

-- where a scale times a weight is a multiple of one, and a value is a multiple of the scale, their product is a multiple of one
scaled-product : (w x scale : ℤ) → IsMultiple one (scale *ℤ w) → IsMultiple scale x → IsMultiple one (w *ℤ x)
scaled-product w x scale a b =
    let p : ℤ = a.0 in
    let q : ℤ = b.0 in
    (q *ℤ p, ap (λ z. w *ℤ z) b.1 ∙ *ℤ_swap w q scale ∙ ap (λ z. q *ℤ z) (*ℤ_comm w scale ∙ a.1) ∙ sym (*ℤ_assoc q p one))

-- a sum of multiples of one is one
sum-multiple : (n : ℕ) (f : ℕ → ℤ) → ((v : ℕ) → v < n → IsMultiple one (f v)) → IsMultiple one (sum_below n f)
sum-multiple zero f h = (pos 0, refl)
sum-multiple (suc n) f h =
    let a = sum-multiple n f (λ v b. h v (omega arith)) in
    let b = h n (omega arith) in
    let p : ℤ = a.0 in
    let q : ℤ = b.0 in
    let e : p *ℤ one +ℤ q *ℤ one ≡ (p +ℤ q) *ℤ one = omega (arith, ints) in
    (p +ℤ q, ap (λ x. x +ℤ f n) a.1 ∙ ap (λ x. p *ℤ one +ℤ x) b.1 ∙ e)

-- a scale makes weights whole, and values are multiples of it
abbrev pub AreWholeTimes : ℤ → List Function → Type 0
AreWholeTimes scale ws = (v : ℕ) → v < length ws → (x y : List ℕ) → IsMultiple one (scale *ℤ number_of (function_at ws v x y))

abbrev pub IsMultipleOf : ℤ → Function → Type 0
IsMultipleOf scale f = (x y : List ℕ) → IsMultiple scale (number_of (f x y))

-- then a sum is the same both ways
exact-ways : (sizes : List ℕ) (way : Way) (var : ℕ) (ws : List Function) (f : Function) (scale : ℤ) → AreWholeTimes scale ws → IsMultipleOf scale f → Agree sizes (summed_out Down var ws f) (summed_out way var ws f)
exact-ways sizes way var ws f scale whole multiple = record {
  at = λ s t p q.
      let sum = sum-multiple (length ws) (λ v. product_at var ws f v s t) (λ v b. scaled-product (number_of (weight_at var ws v s t)) (number_of (f s (set t var v))) scale (whole v b s (set t var v)) (multiple s (set t var v))) in
      let down = ap (λ z. rounding_of Down z one) sum.1 ∙ rounded-one Down sum.0 in
      let there = ap (λ z. rounding_of way z one) sum.1 ∙ rounded-one way sum.0 in
      ap Num (down ∙ sym there);
}

-- ---- entries

-- what a tree with such leaves has at a point
leaf-exact : (r : Ratio) (ds : List ℕ) (b : ℕ) (t : Tree) (p : List ℕ) → HasExactLeaves r t → IsExact r (value_at ds b t p)
leaf-exact r ds b (Ends a) p h = h
leaf-exact r ds b (Tests l y n) p h = branch (passes ds (l - b) p) (value_at ds b y p) (value_at ds b n p) (leaf-exact r ds b y p h.0) (leaf-exact r ds b n p h.1)
  where
    branch : (c : Bool) (x y : Leaf) → IsExact r x → IsExact r y → IsExact r (cond c x y)
    branch true x y a b = a
    branch false x y a b = b

meaning-exact : (r : Ratio) (s : Shown) (f : Entry) → HasExactLeaves r (s.tree f) → (x y : List ℕ) → IsExact r (meaning s f x y)
meaning-exact r s f h x y = leaf-exact r (slots s.sizes) 0 (s.tree f) (point x y) h

-- weights that a scale makes whole
whole-weights : (s : Shown) (scale : ℕ) (ws : List Entry) → All (λ w. HasExactLeaves (record { times = scale; by = 1000000000000 }) (s.tree w)) ws → AreWholeTimes (pos scale) (map (meaning s) ws)
whole-weights s scale [] h v b x y = absurd (omega arith)
whole-weights s scale (w ∷ ws) h zero b x y =
    let k = meaning-exact (record { times = scale; by = 1000000000000 }) s w (All-head (λ q. HasExactLeaves (record { times = scale; by = 1000000000000 }) (s.tree q)) w ws h) x y in
    exact-multiple (pos scale *ℤ number_of (meaning s w x y)) 1000000000000 k.some k.whole
whole-weights s scale (w ∷ ws) h (suc v) b x y = whole-weights s scale ws (All-tail (λ q. HasExactLeaves (record { times = scale; by = 1000000000000 }) (s.tree q)) w ws h) v (omega arith) x y

-- values that are multiples of a scale
multiple-values : (s : Shown) (f : Entry) (weights : List Entry) (h : IsExactSum s f weights) → IsMultipleOf (pos h.scale) (meaning s f)
multiple-values s f weights h x y = elim h.values [
  | inl e ↦ subst (λ (n : ℕ). IsMultiple (pos n) (number_of (meaning s f x y))) (sym e) (number_of (meaning s f x y), sym (*ℤ-one (number_of (meaning s f x y))))
  | inr k ↦ (let e = meaning-exact (record { times = 1; by = h.scale }) s f k x y in
      let z : ℤ = number_of (meaning s f x y) in
      subst (IsMultiple (pos h.scale)) (one-*ℤ z) (exact-multiple (pos 1 *ℤ z) h.scale e.some e.whole))
]

-- what stands for the sum rounded down stands for the sum
pub exact-stands : (s : Shown) → IsSound s → (var : ℕ) (ws : List Entry) (f r : Entry) → IsExactSum s f ws → StandsFor s r (summed_out Down var (map (meaning s) ws) (meaning s f))
    → (way : Way) → StandsFor s r (summed_out way var (map (meaning s) ws) (meaning s f))
exact-stands s o var ws f r exact h way =
    let same = exact-ways s.sizes way var (map (meaning s) ws) (meaning s f) (pos exact.scale) (whole-weights s exact.scale ws exact.weights_whole) (multiple-values s f ws exact) in
    stands-for s o r (summed_out way var (map (meaning s) ws) (meaning s f)) h.knows h.whole (record { at = λ x y p q. h.value.at x y p q ∙ same.at x y p q })

-- a diagram of which the discount makes whole numbers is the same discounted down and up
pub exact-discounts : (s : Shown) (f : Entry) (discount : ℕ) → HasExactLeaves (record { times = discount; by = 1000000 }) (s.tree f) → Agree s.sizes (discounted Down discount (meaning s f)) (discounted Up discount (meaning s f))
exact-discounts s f discount h = record { at = λ x y p q. ap Num (meaning-exact (record { times = discount; by = 1000000 }) s f h x y).whole }

pub same-discounts : (s : Shown) (f : Entry) (discount : ℕ) (way : Way) → Agree s.sizes (discounted way discount (meaning s f)) (discounted way discount (meaning s f))
same-discounts s f discount way = record { at = λ x y p q. refl }

-- ---- the search

-- a test of whose children both have such leaves
pub both-exact : (r : Ratio) (s : Shown) (q y n : Entry) (l : ℕ) → s.tree q ≡ Tests l (s.tree y) (s.tree n) → HasExactLeaves r (s.tree y) → HasExactLeaves r (s.tree n) → HasExactLeaves r (s.tree q)
both-exact r s q y n l e a b = rw e (a, b)

-- one more was seen
pub one-exact : (r : Ratio) (s : Shown) (old new : List Entry) (q : Entry) → HaveExactLeaves r s old → HasExactLeaves r (s.tree q) → AddsRef old new q → HaveExactLeaves r s new
one-exact r s old new q h k (inl a) = subst (HaveExactLeaves r s) (sym a.0) h
one-exact r s old new q h k (inr a) =
    subst (HaveExactLeaves r s) (sym a.0)
    (record { each = λ v m. elim (Contains-push_cases old q v m) [ inl b ↦ h.each v b | inr b ↦ subst (λ (u : Entry). HasExactLeaves r (s.tree u)) b k ] })

-- ---- tables of sums rounded down

pub down-grows : (s t : Shown) (tables : List SumTables) → Grows s t → HoldDown s tables → HoldDown t tables
down-grows s t tables g h = record { each = λ var d b. last-sum-grows Down var s t _ g (h.each var d b) }

pub down-none : (s : Shown) (tables : List SumTables) → length tables ≡ 0 → HoldDown s tables
down-none s tables e = record { each = λ var d b. absurd (omega (arith, e, b)) }

pub down-held : (s : Shown) (n : ℕ) (tables : List SumTables) → HoldEachSum Down n s tables → HoldDown s tables
down-held s n tables h = record { each = λ var d b. (h.each var d (omega (arith, b, h.count))).last }
