-- The gaps and the actions that bounds and their best have.
use Rattle.std.proofs.Common.{◌≡◌, ℕ, ◌+◌, ◌<◌, true, not, cond, List, [], ◌∷◌, All, length, map, ℤ, pos, ◌-ℤ◌, ◌≤ℤ◌, refl, sym, ◌∙◌, ap, subst, arith}
use Rattle.std.specs.Int.{int_max}
use Rattle.std.specs.List.{position_or_len, AllZip}
use Rattle.std.specs.Ordering.{int_eq}
use Rattle.std.proofs.lemmas.Int.{ints, int_max_is}
use Rattle.std.proofs.lemmas.List.{length-map}
use Rattle.std.proofs.lemmas.List.Elements.{All-nil, All-cons, All-head, All-tail, All-weaker}
use Rattle.spd_scaled.specs.Scaled.{IsWithin}
use Rattle.spd_cons_core.specs.declared.key.Entry.{Entry}
use Rattle.spd_model.specs.declared.process.Action.{Action}
use Rattle.spd_model.specs.Process.{Process}
use Rattle.spd_model.specs.Numbers.{greatest, first_place}
use Rattle.spd_model.specs.States.{IsState}
use Rattle.spd_model.specs.Backup.{return_of, expectation}
use Rattle.spd_model.proofs.CallerLemmas.Greatest.{greatest_ordered, greatest_reached, greatest_within}
use Rattle.spd_nodes.specs.declared.leaf.Leaf.{Leaf}
use Rattle.spd_nodes.specs.declared.leaf.Leaf.TheVariants.{Num, Pair, Act}
use Rattle.spd_nodes.specs.Shown.{Shown, Grows, StandsFor, meaning}
use Rattle.spd_nodes.specs.States.{Function}
use Rattle.spd_nodes.specs.Trees.{leaf_eq}
use Rattle.spd_weigh.specs.declared.way.Way.{Way}
use Rattle.spd_weigh.specs.declared.way.Way.TheVariants.{Down, Up}
use Rattle.spd_weigh.specs.Leaves.{number_of, greatest_value, rounding_of, IsValue}
use Rattle.spd_backup.specs.declared.backing.Bounds.{Bounds}
use Rattle.spd_backup.specs.Expected.{bound}
use Rattle.spd_backup.specs.Thawing.{HasNumbers}
use Rattle.spd_policy.specs.declared.chosen.Best.{Best}
use Rattle.spd_policy.specs.Best.{numbers_at, greatest_of, policy_by, lows_in, highs_in, lows_of, highs_of, AreBest, AreBoundsOf}
use Rattle.spd_policy.proofs.CallerLemmas.{place-found}
use Rattle.spd_residual.specs.Residual.{Gaps, gaps_in, gaps_of, IsValued, IsValueOfState, AreOrdered, first_upper}
use Rattle.spd_residual.specs.inner.Finding.{HaveGaps, HaveActions, HasGap}
use Rattle.spd_residual.proofs.GapLaws.{meaning-grows}

value-within : (a : Leaf) → IsValue a → IsWithin greatest_value (number_of a)
value-within (Num x) h = h
value-within (Pair x y) h = absurd h
value-within (Act x) h = absurd h

pub within-value : (a : Leaf) (x : ℤ) → a ≡ Num x → IsWithin greatest_value x → IsValue a
within-value a x e h = subst IsValue (sym e) h

-- ---- the numbers of one bound of each action

module _ (s : Shown) (side : Bounds → Entry) where
  abbrev functions : List Bounds → List Function
  functions bounds = map (meaning s) (map side bounds)

  number-list : (bounds : List Bounds) (x y : List ℕ) → numbers_at (functions bounds) x y ≡ map (λ b. number_of (meaning s (side b) x y)) bounds
  number-list [] x y = refl
  number-list (b ∷ bounds) x y = ap (λ zs. number_of (meaning s (side b) x y) ∷ zs) (number-list bounds x y)

  number-count : (bounds : List Bounds) (x y : List ℕ) → length (numbers_at (functions bounds) x y) ≡ length bounds
  number-count bounds x y = ap length (number-list bounds x y) ∙ length-map bounds (λ b. number_of (meaning s (side b) x y))

  numbers-within : (bounds : List Bounds) → All (λ b. IsValueOfState s (side b)) bounds → (x y : List ℕ) → IsState s.sizes x → IsState s.sizes y → All (IsWithin greatest_value) (numbers_at (functions bounds) x y)
  numbers-within [] h x y i j = All-nil (IsWithin greatest_value)
  numbers-within (b ∷ bounds) h x y i j =
      let own = All-head (λ c. IsValueOfState s (side c)) b bounds h in
      All-cons (IsWithin greatest_value) (number_of (meaning s (side b) x y)) (numbers_at (functions bounds) x y) (value-within (meaning s (side b) x y) (own.valued.values.at x y i j))
      (numbers-within bounds (All-tail (λ c. IsValueOfState s (side c)) b bounds h) x y i j)

  numbers-present : (bounds : List Bounds) → All (λ b. IsValueOfState s (side b)) bounds → (x y : List ℕ) → IsState s.sizes x → IsState s.sizes y → numbers_at (functions bounds) x y ≡ numbers_at (functions bounds) x x
  numbers-present [] h x y i j = refl
  numbers-present (b ∷ bounds) h x y i j =
      let own = All-head (λ c. IsValueOfState s (side c)) b bounds h in
      let rest : numbers_at (functions bounds) x y ≡ numbers_at (functions bounds) x x = numbers-present bounds (All-tail (λ c. IsValueOfState s (side c)) b bounds h) x y i j in
      λ n. number_of (own.present x y i j n) ∷ rest n

  -- the greatest of them is valued
  greatest-valued : (bounds : List Bounds) → All (λ b. IsValueOfState s (side b)) bounds → 0 < length bounds → (r : Entry) → StandsFor s r (greatest_of (functions bounds)) → IsValued s r
  greatest-valued bounds h some r stands = record {
    known = stands.knows;
    whole = stands.whole;
    values = record {
      at = λ x y i j.
          within-value (meaning s r x y) (greatest (numbers_at (functions bounds) x y)) (stands.value.at x y i j)
          (greatest_within greatest_value (numbers_at (functions bounds) x y) (omega (arith, some, number-count bounds x y)) (numbers-within bounds h x y i j));
    };
  }

-- ---- the first action with a number

same-number : (g : ℤ) (a : Leaf) → IsValue a → leaf_eq (Num g) a ≡ int_eq g (number_of a)
same-number g (Num x) h = refl
same-number g (Pair x y) h = absurd h
same-number g (Act x) h = absurd h

first-number : (s : Shown) (bounds : List Bounds) → All (λ b. IsValueOfState s b.hi) bounds → (g : ℤ) (x : List ℕ) → IsState s.sizes x
    → first_upper s bounds (Num g) x ≡ position_or_len (int_eq g) (numbers_at (highs_in s bounds) x x)
first-number s [] h g x i = refl
first-number s (b ∷ bounds) h g x i =
    let own = All-head (λ (c : Bounds). IsValueOfState s c.hi) b bounds h in
    let here : leaf_eq (Num g) (meaning s b.hi x x) ≡ int_eq g (number_of (meaning s b.hi x x)) = same-number g (meaning s b.hi x x) (own.valued.values.at x x i i) in
    let rest : first_upper s bounds (Num g) x ≡ position_or_len (int_eq g) (numbers_at (highs_in s bounds) x x) = first-number s bounds (All-tail (λ (c : Bounds). IsValueOfState s c.hi) b bounds h) g x i in
    λ n. cond (not (here n)) (1 + rest n) 0

first-grows : (s t : Shown) → Grows s t → (bounds : List Bounds) → All (λ b. s.knows b.hi ≡ true) bounds → (leaf : Leaf) (x : List ℕ) → first_upper t bounds leaf x ≡ first_upper s bounds leaf x
first-grows s t grows [] h leaf x = refl
first-grows s t grows (b ∷ bounds) h leaf x =
    let here : meaning t b.hi ≡ meaning s b.hi = meaning-grows s t grows b.hi (All-head (λ (c : Bounds). s.knows c.hi ≡ true) b bounds h) in
    let rest : first_upper t bounds leaf x ≡ first_upper s bounds leaf x = first-grows s t grows bounds (All-tail (λ (c : Bounds). s.knows c.hi ≡ true) b bounds h) leaf x in
    λ n. cond (not (leaf_eq leaf (here n x x))) (1 + rest n) 0

pub actions-grow : (s t : Shown) → Grows s t → (g : Gaps) (bounds : List Bounds) (best : Best) → All (λ b. s.knows b.hi ≡ true) bounds → s.knows best.high ≡ true → s.knows best.act ≡ true → HaveActions g s bounds best → HaveActions g t bounds best
actions-grow s t grows g bounds best known kh ka h = record {
  highest = λ x i. first-grows s t grows bounds known (meaning t best.high x x) x ∙ ap (λ (f : Function). first_upper s bounds (f x x) x) (meaning-grows s t grows best.high kh) ∙ h.highest x (rw (sym grows.sizes) i);
  policy = λ x i. ap (λ (f : Function). f x x) (meaning-grows s t grows best.act ka) ∙ h.policy x (rw (sym grows.sizes) i);
}

-- ---- the gaps of bounds and their best

module _ (s : Shown) (w : Entry) (bounds : List Bounds) (best : Best) (value : IsValueOfState s w) (ordered : All (AreOrdered s) bounds) (some : 0 < length bounds)
    (is : AreBest (greatest_of (lows_in s bounds)) (greatest_of (highs_in s bounds)) (policy_by (lows_in s bounds)) s best) where
  lower : All (λ b. IsValueOfState s b.lo) bounds
  lower = All-weaker (AreOrdered s) (λ b. IsValueOfState s b.lo) (λ b h. h.lower) bounds ordered

  upper : All (λ b. IsValueOfState s b.hi) bounds
  upper = All-weaker (AreOrdered s) (λ b. IsValueOfState s b.hi) (λ b h. h.upper) bounds ordered

  pub upper-known : All (λ b. s.knows b.hi ≡ true) bounds
  upper-known = All-weaker (AreOrdered s) (λ b. s.knows b.hi ≡ true) (λ b h. h.upper.valued.known) bounds ordered

  pub low-valued : IsValued s best.low
  low-valued = greatest-valued s (λ b. b.lo) bounds lower some best.low is.low

  pub high-valued : IsValued s best.high
  high-valued = greatest-valued s (λ b. b.hi) bounds upper some best.high is.high

  pub have-gaps : HaveGaps (gaps_in s w bounds) s w best
  have-gaps = record {
    above = λ x y i j. (
        let high : number_of (meaning s best.high x y) ≡ greatest (numbers_at (highs_in s bounds) x x) =
        ap number_of (is.high.value.at x y i j) ∙ ap greatest (numbers-present s (λ b. b.hi) bounds upper x y i j) in
        λ n. high n -ℤ number_of (value.present x y i j n));
    below = λ x y i j. (
        let low : number_of (meaning s best.low x y) ≡ greatest (numbers_at (lows_in s bounds) x x) =
        ap number_of (is.low.value.at x y i j) ∙ ap greatest (numbers-present s (λ b. b.lo) bounds lower x y i j) in
        λ n. number_of (value.present x y i j n) -ℤ low n);
  }

  pub have-actions : HaveActions (gaps_in s w bounds) s bounds best
  have-actions = record {
    highest = λ x i. (
        let xs : List ℤ = numbers_at (highs_in s bounds) x x in
        ap (λ a. first_upper s bounds a x) (is.high.value.at x x i i)
        ∙ first-number s bounds upper (greatest xs) x i
        ∙ place-found (greatest xs) xs (greatest_reached xs (omega (arith, some, number-count s (λ b. b.hi) bounds x x))));
    policy = λ x i. is.act.value.at x x i i;
  }

  -- the greatest lower bound is at most the greatest upper one, so that the value can't be above the one and below the other
  pub has-gap : HasGap (gaps_in s w bounds) s.sizes
  has-gap = record {
    at = λ x i. (
        let low : ℤ = greatest (numbers_at (lows_in s bounds) x x) in
        let high : ℤ = greatest (numbers_at (highs_in s bounds) x x) in
        let own : ℤ = number_of (meaning s w x x) in
        let all = greatest_ordered (λ (b : Bounds). number_of (meaning s b.lo x x)) (λ (b : Bounds). number_of (meaning s b.hi x x)) bounds
        (All-weaker (AreOrdered s) (λ b. number_of (meaning s b.lo x x) ≤ℤ number_of (meaning s b.hi x x)) (λ b h. h.ordered x i) bounds ordered) in
        let lows : low ≡ greatest (map (λ (b : Bounds). number_of (meaning s b.lo x x)) bounds) = ap greatest (number-list s (λ b. b.lo) bounds x x) in
        let highs : high ≡ greatest (map (λ (b : Bounds). number_of (meaning s b.hi x x)) bounds) = ap greatest (number-list s (λ b. b.hi) bounds x x) in
        let at_most : low ≤ℤ high = rw (lows, highs) all in
        omega (arith, ints, int_max_is (high -ℤ own) (own -ℤ low), at_most));
  }

-- ---- the gaps of a process

-- gaps that are the same at each state
pub record AreSame (sizes : List ℕ) (g h : Gaps) : Type 0 where
  pub above : (x : List ℕ) → IsState sizes x → g.above x ≡ h.above x
  pub below : (x : List ℕ) → IsState sizes x → g.below x ≡ h.below x
  pub highest : (x : List ℕ) → IsState sizes x → g.highest x ≡ h.highest x
  pub policy : (x : List ℕ) → IsState sizes x → g.policy x ≡ h.policy x

module _ (s : Shown) (g h : Gaps) (same : AreSame s.sizes g h) where
  pub gaps-same : (w : Entry) (best : Best) → HaveGaps g s w best → HaveGaps h s w best
  gaps-same w best k = record { above = λ x y i j. k.above x y i j ∙ same.above x i; below = λ x y i j. k.below x y i j ∙ same.below x i }

  pub actions-same : (bounds : List Bounds) (best : Best) → HaveActions g s bounds best → HaveActions h s bounds best
  actions-same bounds best k = record { highest = λ x i. k.highest x i ∙ same.highest x i; policy = λ x i. k.policy x i ∙ ap Act (same.policy x i) }

  pub gap-same : HasGap g s.sizes → HasGap h s.sizes
  gap-same k = record { at = λ x i. subst (λ z. pos 0 ≤ℤ z) (λ n. int_max (same.above x i n) (same.below x i n)) (k.at x i) }

module _ (s : Shown) (m : Process) (v : List ℕ → ℤ) (way : Way) (x y : List ℕ) (i : IsState s.sizes x) (j : IsState s.sizes y) where
  pub bound-numbers : (rs : List Entry) (actions : List Action) → AllZip (StandsFor s) rs (map (λ a. bound way m a v) actions)
      → numbers_at (map (meaning s) rs) x y ≡ map (λ a. return_of (rounding_of way) m (expectation (rounding_of way) m v) a x) actions
  bound-numbers [] [] h = refl
  bound-numbers [] (a ∷ actions) h = absurd h
  bound-numbers (r ∷ rs) [] h = absurd h
  bound-numbers (r ∷ rs) (a ∷ actions) h =
      let own = h.0 in
      let rest : numbers_at (map (meaning s) rs) x y ≡ map (λ b. return_of (rounding_of way) m (expectation (rounding_of way) m v) b x) actions = bound-numbers rs actions h.1 in
      λ n. number_of (own.value.at x y i j n) ∷ rest n

pub process-same : (s : Shown) (m : Process) (v : List ℕ → ℤ) (w : Entry) (bounds : List Bounds) → HasNumbers s w v → AreBoundsOf m v s bounds → AreSame s.sizes (gaps_in s w bounds) (gaps_of m v)
process-same s m v w bounds numbers are = record {
  above = λ x i. (λ n. greatest (bound-numbers s m v Up x x i i (highs_of bounds) m.actions are.high n) -ℤ number_of (numbers.at x i n));
  below = λ x i. (λ n. number_of (numbers.at x i n) -ℤ greatest (bound-numbers s m v Down x x i i (lows_of bounds) m.actions are.low n));
  highest = λ x i. ap (λ z. first_place (greatest z) z) (bound-numbers s m v Up x x i i (highs_of bounds) m.actions are.high);
  policy = λ x i. ap (λ z. first_place (greatest z) z) (bound-numbers s m v Down x x i i (lows_of bounds) m.actions are.low);
}
