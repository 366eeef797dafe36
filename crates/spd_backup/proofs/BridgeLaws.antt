-- Summing out over a process's weights, and discounting, give its expectations and bounds.
use Rattle.std.proofs.Common.{◌≡◌, ℕ, zero, suc, ◌<◌, ◌≤◌, List, [], ◌∷◌, length, map, drop, set, get_or, slice_index, sym, ◌∙◌, ap, subst, arith, ℤ, ◌*ℤ◌, Contains, add-one}
use Rattle.std.specs.List.{AllZip}
use Rattle.std.proofs.lemmas.List.{drop_all, drop-set, drop-set-lt, get_or-map}
use Rattle.spd_cons_core.specs.declared.key.Entry.{Entry}
use Rattle.spd_model.specs.declared.process.Action.{Action}
use Rattle.spd_model.specs.Process.{Process}
use Rattle.spd_model.specs.Lawful.{IsLawful}
use Rattle.spd_model.specs.Numbers.{numbers_below, sum_below}
use Rattle.spd_model.specs.States.{sizes, IsState}
use Rattle.spd_model.specs.Chances.{one, probability, IsValid}
use Rattle.spd_model.specs.Backup.{expected_by, expectation}
use Rattle.spd_model.specs.Turns.{IsBounded}
use Rattle.spd_model.proofs.CallerLemmas.Bounded.{KeepsWithin, floor_keeps, ceil_keeps, expected_limited}
use Rattle.spd_model.proofs.CallerLemmas.Chances.{chances_of}
use Rattle.spd_model.proofs.CallerLemmas.Lists.{length-numbers_below, get_or-numbers_below}
use Rattle.spd_model.proofs.CallerLemmas.StateOrder.{length-IsState, length-sizes, IsState-own}
use Rattle.spd_model.proofs.CallerLemmas.Sums.{sum_below-cong}
use Rattle.spd_nodes.specs.declared.leaf.Leaf.TheVariants.{Num, Act}
use Rattle.spd_nodes.specs.Shown.{Shown, StandsFor, meaning}
use Rattle.spd_nodes.specs.States.{Function, Agree}
use Rattle.spd_restrict.specs.Chosen.{function_at}
use Rattle.spd_weigh.specs.declared.way.Way.{Way}
use Rattle.spd_weigh.specs.declared.way.Way.TheVariants.{Down, Up}
use Rattle.spd_weigh.specs.Leaves.{rounding_of, number_of, IsWeight, IsValue, HasValues}
use Rattle.spd_weigh.specs.Weighing.{summed_out, product_at, weight_at, AreWeights}
use Rattle.spd_build.specs.Functions.{weight, weights_of}
use Rattle.spd_backup.specs.Expected.{expected}
use Rattle.spd_backup.proofs.PartLaws.{length-weights}
use Rattle.spd_weigh.proofs.CallerLemmas.{set-state}

pub way-keeps : (way : Way) → KeepsWithin (rounding_of way)
way-keeps Down = floor_keeps
way-keeps Up = ceil_keeps

-- functions that agree are summed out alike
pub summed-agrees : (sizes : List ℕ) (way : Way) (i : ℕ) (fs gs : List Function) (f g : Function) → length fs ≡ length gs → length gs ≡ get_or sizes i 0
    → ((v : ℕ) → v < length gs → Agree sizes (function_at fs v) (function_at gs v)) → Agree sizes f g → Agree sizes (summed_out way i fs f) (summed_out way i gs g)
summed-agrees sizes way i fs gs f g count size each same = record {
  at = λ x y p q.
      ap (λ z. Num (rounding_of way z one)) (
      ap (λ n. sum_below n (λ v. product_at i fs f v x y)) count
      ∙ sum_below-cong (length gs) (λ v. product_at i fs f v x y) (λ v. product_at i gs g v x y) (λ v b.
      let there : IsState sizes (set y i v) = set-state sizes y i v q (omega (arith, b, size)) in
      let w : function_at fs v x (set y i v) ≡ function_at gs v x (set y i v) = (each v b).at x (set y i v) p there in
      let u : f x (set y i v) ≡ g x (set y i v) = same.at x (set y i v) p there in
      (λ k. number_of (w k) *ℤ number_of (u k))));
}

-- entries stand for functions at each place
pub zip-agrees : (s : Shown) (ws : List Entry) (fs : List Function) → AllZip (StandsFor s) ws fs → (v : ℕ) → v < length fs → Agree s.sizes (function_at (map (meaning s) ws) v) (function_at fs v)
zip-agrees s [] [] h v b = absurd (omega arith)
zip-agrees s [] (f ∷ fs) h v b = absurd h
zip-agrees s (w ∷ ws) [] h v b = absurd h
zip-agrees s (w ∷ ws) (f ∷ fs) h zero b = h.0.value
zip-agrees s (w ∷ ws) (f ∷ fs) h (suc v) b = zip-agrees s ws fs h.1 v (omega arith)

module _ (m : Process) (a : Action) where
  pub weight-at : (i v : ℕ) → v < slice_index (sizes m) i → function_at (weights_of m a i) v ≡ weight m a i v
  weight-at i v b =
      get_or-map (weight m a i) (numbers_below (slice_index (sizes m) i)) v 0 (λ s t. Act 0) (omega (arith, length-numbers_below (slice_index (sizes m) i)))
      ∙ ap (weight m a i) (get_or-numbers_below (slice_index (sizes m) i) v b)

  -- what is left of the next values after variable i
  past-set : (y : List ℕ) (i v : ℕ) → drop (suc i) (set y i v) ≡ drop (suc i) y
  past-set y i v = drop-set-lt (suc i) y i v (omega arith)

  from-set : (y : List ℕ) (i v : ℕ) → i < length y → drop i (set y i v) ≡ v ∷ drop (suc i) y
  from-set y i v b = rw add-one at (drop-set y i v b)

  module _ (way : Way) (w : List ℕ → ℤ) where
    -- one step of summing out over the weights is the next expectation
    pub summed-expected : (i : ℕ) → i < length (sizes m) → Agree (sizes m) (summed_out way i (weights_of m a i) (expected way m a w i)) (expected way m a w (suc i))
    summed-expected i b = record {
      at = λ x y p q.
          let near : i < length y = omega (arith, length-IsState (sizes m) y q) in
          ap (λ z. Num (rounding_of way z one)) (
          ap (λ n. sum_below n (λ v. product_at i (weights_of m a i) (expected way m a w i) v x y)) (length-weights m a i)
          ∙ sum_below-cong (slice_index (sizes m) i) (λ v. product_at i (weights_of m a i) (expected way m a w i) v x y)
          (λ v. probability m a x i v (drop (suc i) y) *ℤ expected_by (rounding_of way) (slice_index (sizes m)) (probability m a x) w i (v ∷ drop (suc i) y)) (λ v c.
          ap (λ (f : Function). number_of (f x (set y i v)) *ℤ number_of (expected way m a w i x (set y i v))) (weight-at i v c)
          ∙ ap (λ (r : List ℕ). probability m a x i v r *ℤ number_of (expected way m a w i x (set y i v))) (past-set y i v)
          ∙ ap (λ (r : List ℕ). probability m a x i v (drop (suc i) y) *ℤ expected_by (rounding_of way) (slice_index (sizes m)) (probability m a x) w i r) (from-set y i v near)));
    }

    -- no next value is left at the end
    pub expected-all : (x y : List ℕ) → IsState (sizes m) y → expected way m a w (length m.vars) x y ≡ Num (expectation (rounding_of way) m w a x)
    expected-all x y q =
        ap (λ (r : List ℕ). Num (expected_by (rounding_of way) (slice_index (sizes m)) (probability m a x) w (length m.vars) r))
        (drop_all (length m.vars) y (omega (arith, length-IsState (sizes m) y q, length-sizes m)))

  module _ (law : IsLawful m) (valid : IsValid m) (offered : Contains m.actions a) where
    -- a process's weights are weights
    pub are-weights : (i : ℕ) → i < length (sizes m) → (fs : List Function) → length fs ≡ slice_index (sizes m) i
        → ((v : ℕ) → v < slice_index (sizes m) i → Agree (sizes m) (function_at fs v) (weight m a i v)) → AreWeights (sizes m) i fs
    are-weights i b fs count same =
        let near : i < length m.vars = omega (arith, length-sizes m) in
        let rest : (y : List ℕ) → IsState (sizes m) y → IsState (drop (suc i) (sizes m)) (drop (suc i) y) = IsState-own (sizes m) (suc i) in
        let is : (v : ℕ) → v < slice_index (sizes m) i → (x y : List ℕ) → IsState (sizes m) x → IsState (sizes m) y → weight_at i fs v x y ≡ Num (probability m a x i v (drop (suc i) y)) =
        λ v c x y p q. (same v c).at x (set y i v) p (set-state (sizes m) y i v q c) ∙ ap (λ (r : List ℕ). Num (probability m a x i v r)) (past-set y i v) in
        record {
          each = λ v c x y p q.
              let below : v < slice_index (sizes m) i = omega (arith, c, count) in
              subst IsWeight (sym (is v below x y p q)) (valid.chances a offered i near x (drop (suc i) y) p (rest y q) v below);
          sum = λ x y p q.
              ap (λ n. sum_below n (λ v. number_of (weight_at i fs v x y))) count
              ∙ sum_below-cong (slice_index (sizes m) i) (λ v. number_of (weight_at i fs v x y)) (λ v. probability m a x i v (drop (suc i) y)) (λ v c. ap number_of (is v c x y p q))
              ∙ valid.sums a offered i near x (drop (suc i) y) p (rest y q);
        }

    -- an expectation of values within limits is one
    pub has-values : (way : Way) (w : List ℕ → ℤ) → IsBounded (sizes m) w → (i : ℕ) → i ≤ length (sizes m) → (f : Function) → Agree (sizes m) f (expected way m a w i) → HasValues (sizes m) f
    has-values way w bounded i b f same = record {
      at = λ x y p q.
          subst IsValue (sym (same.at x y p q))
          (expected_limited (rounding_of way) (way-keeps way) (sizes m) (probability m a x) (chances_of m valid a offered x p) w bounded i (drop i y) b (IsState-own (sizes m) i y q));
    }
