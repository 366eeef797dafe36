-- The bounds of a process where a value follows, and the best of them, may be taken for a residual.
use Rattle.std.proofs.Common.{◌≡◌, ℕ, true, refl, List, [], ◌∷◌, All, Contains, length, map, ℤ, pos, ◌≤ℤ◌, ◌<ℤ◌, sym, ◌∙◌, ap, subst, arith}
use Rattle.std.specs.List.{AllZip}
use Rattle.std.proofs.lemmas.Int.{ints}
use Rattle.std.proofs.lemmas.List.Elements.{All-contains_itself, All-cons, All-head, All-nil, All-tail, All-weaker}
use Rattle.spd_scaled.specs.Scaled.{IsWithin}
use Rattle.spd_scaled.proofs.CallerLemmas.Ring.{*ℤ_mono_right}
use Rattle.spd_cons_core.specs.declared.key.Entry.{Entry}
use Rattle.spd_model.specs.declared.process.Action.{Action}
use Rattle.spd_model.specs.Process.{Process}
use Rattle.spd_model.specs.Lawful.{IsLawful}
use Rattle.spd_model.specs.Numbers.{greatest, first_place}
use Rattle.spd_model.specs.States.{sizes, IsState}
use Rattle.spd_model.specs.Chances.{discount_one, probability, IsValid}
use Rattle.spd_model.specs.Backup.{return_of, expectation, low_of, high_of, best_low, best_high, policy_of}
use Rattle.spd_model.specs.Turns.{IsBounded}
use Rattle.spd_model.proofs.CallerLemmas.Bounded.{KeepsWithin, ceil_keeps, floor_keeps, return_limited}
use Rattle.spd_model.proofs.CallerLemmas.Chances.{chances_of}
use Rattle.spd_model.proofs.CallerLemmas.Gaps.{expected_ordered, floor-≤ℤ-ceil}
use Rattle.spd_model.proofs.CallerLemmas.StateOrder.{IsState-none, length-sizes}
use Rattle.spd_nodes.specs.declared.leaf.Leaf.TheVariants.{Num, Act}
use Rattle.spd_nodes.specs.Shown.{Shown, IsSound, Grows, StandsFor, meaning}
use Rattle.spd_nodes.specs.States.{Function, Agree}
use Rattle.spd_nodes.proofs.CallerLemmas.{positive-slots, test_tree-agree}
use Rattle.spd_weigh.specs.declared.way.Way.{Way}
use Rattle.spd_weigh.specs.declared.way.Way.TheVariants.{Down, Up}
use Rattle.spd_weigh.specs.Leaves.{number_of, greatest_value, rounding_of}
use Rattle.spd_build.specs.Functions.{numbers}
use Rattle.spd_backup.specs.declared.backing.Bounds.{Bounds}
use Rattle.spd_backup.specs.Expected.{bound}
use Rattle.spd_policy.specs.declared.chosen.Best.{Best}
use Rattle.spd_policy.specs.Best.{greatest_of, policy_by, lows_in, highs_in, lows_of, highs_of, AreBest, AreBoundsOf}
use Rattle.spd_residual.specs.Residual.{IsValueOfState, AreOrdered}
use Rattle.spd_residual.proofs.GapLaws.{meaning-grows, valued-grows}
use Rattle.spd_residual.proofs.ActionLaws.{bound-numbers, within-value}

-- ---- values of states

-- an entry that stands for a value of states is one
pub value-of-state : (s : Shown) (r : Entry) (v : List ℕ → ℤ) → StandsFor s r (numbers (λ x y. v x)) → ((x : List ℕ) → IsState s.sizes x → IsWithin greatest_value (v x)) → IsValueOfState s r
value-of-state s r v stands within = record {
  valued = record {
    known = stands.knows;
    whole = stands.whole;
    values = record { at = λ x y i j. within-value (meaning s r x y) (v x) (stands.value.at x y i j) (within x i) };
  };
  present = λ x y i j. stands.value.at x y i j ∙ sym (stands.value.at x x i i);
}

-- ---- the bounds of a process

way-keeps : (way : Way) → KeepsWithin (rounding_of way)
way-keeps Down = floor_keeps
way-keeps Up = ceil_keeps

module _ (m : Process) (law : IsLawful m) (valid : IsValid m) (v : List ℕ → ℤ) (bounded : IsBounded (sizes m) v) (s : Shown) (same : s.sizes ≡ sizes m) where
  bound-value : (way : Way) (r : Entry) (a : Action) → Contains m.actions a → StandsFor s r (bound way m a v) → IsValueOfState s r
  bound-value way r a offered stands =
      value-of-state s r (return_of (rounding_of way) m (expectation (rounding_of way) m v) a) stands
      (λ x i. return_limited m law valid (rounding_of way) (way-keeps way) v bounded a offered x (rw same at i))

  return-ordered : (a : Action) → Contains m.actions a → (x : List ℕ) → IsState (sizes m) x → low_of m v a x ≤ℤ high_of m v a x
  return-ordered a offered x i =
      let e = expected_ordered (sizes m) (probability m a x) (chances_of m valid a offered x i) v (length m.vars) [] (omega (arith, length-sizes m))
      (IsState-none (sizes m) (length m.vars) (omega (arith, length-sizes m))) in
      let d = floor-≤ℤ-ceil _ _ (pos discount_one) (omega (arith, ints)) (*ℤ_mono_right (pos m.discount) _ _ (omega (arith, ints)) e) in
      omega (arith, ints, d)

  action-ordered : (b : Bounds) (a : Action) → Contains m.actions a → StandsFor s b.lo (bound Down m a v) → StandsFor s b.hi (bound Up m a v) → AreOrdered s b
  action-ordered b a offered low high = record {
    lower = bound-value Down b.lo a offered low;
    upper = bound-value Up b.hi a offered high;
    ordered = λ x i. subst (λ z. z ≤ℤ number_of (meaning s b.hi x x)) (sym (ap number_of (low.value.at x x i i)))
        (subst (λ z. low_of m v a x ≤ℤ z) (sym (ap number_of (high.value.at x x i i))) (return-ordered a offered x (rw same at i)));
  }

  actions-ordered : (bs : List Bounds) (actions : List Action) → All (Contains m.actions) actions → AllZip (StandsFor s) (lows_of bs) (map (λ a. bound Down m a v) actions)
      → AllZip (StandsFor s) (highs_of bs) (map (λ a. bound Up m a v) actions) → All (AreOrdered s) bs
  actions-ordered [] actions offered low high = All-nil (AreOrdered s)
  actions-ordered (b ∷ bs) [] offered low high = absurd low
  actions-ordered (b ∷ bs) (a ∷ actions) offered low high =
      All-cons (AreOrdered s) b bs (action-ordered b a (All-head (Contains m.actions) a actions offered) low.0 high.0)
      (actions-ordered bs actions (All-tail (Contains m.actions) a actions offered) low.1 high.1)

  -- of each action the lower bound is at most the upper one, and both are values of states
  pub bounds-ordered : (bounds : List Bounds) → AreBoundsOf m v s bounds → All (AreOrdered s) bounds
  bounds-ordered bounds are = actions-ordered bounds m.actions (All-contains_itself m.actions) are.low are.high

-- ---- the best of them

stands-agrees : (s : Shown) → IsSound s → (r : Entry) (f g : Function) → Agree s.sizes f g → StandsFor s r f → StandsFor s r g
stands-agrees s o r f g same h = record {
  knows = h.knows;
  whole = h.whole;
  value = record { at = λ x y i j. h.value.at x y i j ∙ same.at x y i j };
  tree = h.tree ∙ test_tree-agree s.sizes (positive-slots s.sizes o.layout.values) f g same;
}

-- the best bounds and the policy of a process are the best of its bounds
pub best-of : (s : Shown) → IsSound s → (m : Process) (v : List ℕ → ℤ) (bounds : List Bounds) (best : Best) → AreBoundsOf m v s bounds
    → AreBest (numbers (λ x y. best_low m v x)) (numbers (λ x y. best_high m v x)) (λ x y. Act (policy_of m v x)) s best
    → AreBest (greatest_of (lows_in s bounds)) (greatest_of (highs_in s bounds)) (policy_by (lows_in s bounds)) s best
best-of s o m v bounds best are h = record {
  low = stands-agrees s o best.low (numbers (λ x y. best_low m v x)) (greatest_of (lows_in s bounds)) (record { at = λ x y i j. ap (λ z. Num (greatest z)) (sym (bound-numbers s m v Down x y i j (lows_of bounds) m.actions are.low)) }) h.low;
  high = stands-agrees s o best.high (numbers (λ x y. best_high m v x)) (greatest_of (highs_in s bounds)) (record { at = λ x y i j. ap (λ z. Num (greatest z)) (sym (bound-numbers s m v Up x y i j (highs_of bounds) m.actions are.high)) }) h.high;
  act = stands-agrees s o best.act (λ x y. Act (policy_of m v x)) (policy_by (lows_in s bounds)) (record { at = λ x y i j. ap (λ z. Act (first_place (greatest z) z)) (sym (bound-numbers s m v Down x y i j (lows_of bounds) m.actions are.low)) }) h.act;
}

-- ---- a forest that grows

module _ (s t : Shown) (grows : Grows s t) where
  -- values of states stay so
  pub value-grows : (r : Entry) → IsValueOfState s r → IsValueOfState t r
  value-grows r h = record {
    valued = valued-grows s t grows r h.valued;
    present = rw (grows.sizes, grows.trees r h.valued.known) h.present;
  }

  one-grows : (b : Bounds) → AreOrdered s b → AreOrdered t b
  one-grows b h = record {
    lower = value-grows b.lo h.lower;
    upper = value-grows b.hi h.upper;
    ordered = rw (grows.sizes, grows.trees b.lo h.lower.valued.known, grows.trees b.hi h.upper.valued.known) h.ordered;
  }

  -- and so do bounds
  pub ordered-grows : (bounds : List Bounds) → All (AreOrdered s) bounds → All (AreOrdered t) bounds
  ordered-grows bounds h = All-weaker (AreOrdered s) (AreOrdered t) one-grows bounds h

  functions-grow : (side : Bounds → Entry) (bounds : List Bounds) → All (λ b. s.knows (side b) ≡ true) bounds → map (meaning t) (map side bounds) ≡ map (meaning s) (map side bounds)
  functions-grow side [] h = refl
  functions-grow side (b ∷ bounds) h =
      let here : meaning t (side b) ≡ meaning s (side b) = meaning-grows s t grows (side b) (All-head (λ c. s.knows (side c) ≡ true) b bounds h) in
      let rest : map (meaning t) (map side bounds) ≡ map (meaning s) (map side bounds) = functions-grow side bounds (All-tail (λ c. s.knows (side c) ≡ true) b bounds h) in
      λ n. here n ∷ rest n

  -- the best of some bounds, made after them, is the best of what they go on to stand for
  pub best-after : (bounds : List Bounds) (best : Best) → All (AreOrdered s) bounds → AreBest (greatest_of (lows_in s bounds)) (greatest_of (highs_in s bounds)) (policy_by (lows_in s bounds)) t best
      → AreBest (greatest_of (lows_in t bounds)) (greatest_of (highs_in t bounds)) (policy_by (lows_in t bounds)) t best
  best-after bounds best h is =
      let lows : lows_in t bounds ≡ lows_in s bounds = functions-grow (λ b. b.lo) bounds (All-weaker (AreOrdered s) (λ b. s.knows b.lo ≡ true) (λ b o. o.lower.valued.known) bounds h) in
      let highs : highs_in t bounds ≡ highs_in s bounds = functions-grow (λ b. b.hi) bounds (All-weaker (AreOrdered s) (λ b. s.knows b.hi ≡ true) (λ b o. o.upper.valued.known) bounds h) in
      rw (lows, highs) is
