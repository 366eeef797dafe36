-- The joint probabilities of a process, and the bounds of an action round its exact return.
use Rattle.std.proofs.Common.{◌≡◌, ℕ, suc, ◌+◌, List, [], ◌∷◌, length, drop, slice_index, Contains, ℤ, pos, ◌+ℤ◌, ◌*ℤ◌, ◌≤ℤ◌, refl, ap, sym, ◌∙◌, subst, arith}
use Rattle.std.proofs.lemmas.Int.{ints}
use Rattle.spd_scaled.specs.Scaled.{floor_div, ceil_div}
use Rattle.spd_scaled.proofs.CallerLemmas.Ring.{ring, *ℤ_mono_right}
use Rattle.spd_scaled.proofs.CallerLemmas.DivisionLaws.{floor_div_at_most, ceil_div_at_least}
use Rattle.spd_model.specs.declared.process.Action.{Action}
use Rattle.spd_model.specs.Process.{Process}
use Rattle.spd_model.specs.States.{sizes, IsState, sum_over_states}
use Rattle.spd_model.specs.Chances.{IsValid, discount_one, probability, reward_of, joint_from, joint, scale_of}
use Rattle.spd_model.specs.Backup.{expectation, low_of, high_of}
use Rattle.spd_bellman.specs.Courses.{exact_return}
use Rattle.spd_model.proofs.CallerLemmas.Sums.{sum_over_states-cong}
use Rattle.spd_model.proofs.CallerLemmas.StateOrder.{length-sizes, IsState-none}
use Rattle.spd_model.proofs.CallerLemmas.Chances.{Chance, AreChances, chances_of}
use Rattle.spd_bellman.proofs.Signs.{natural_nonnegative, discount_above}
use Rattle.spd_bellman.proofs.Expectations.{exact_by, scale_by, scale_by_nonnegative, encloses_below, encloses_above, joint_by, exact_by-sum, joint_by_nonnegative, joint_by-sum}

-- the joint probability is the product of the chances of its values
joint_by-is : (m : Process) (a : Action) (s : List ℕ) (first : ℕ) (var : ℕ → ℕ) → ((i : ℕ) → var i ≡ first + i) → (t : List ℕ)
    → joint_by (λ i. probability m a s (var i)) t ≡ joint_from m a s first t
joint_by-is m a s first var is [] = refl
joint_by-is m a s first var is (v ∷ t) =
    let here : var 0 ≡ first = is 0 ∙ omega arith in
    ap (λ i. probability m a s i v t *ℤ joint_by (λ i. probability m a s (var (suc i))) t) here
    ∙ ap (λ x. probability m a s first v t *ℤ x) (joint_by-is m a s (suc first) (λ i. var (suc i)) (λ i. is (suc i) ∙ omega arith) t)

low_step : (d p g reward f e s : ℤ) → (p *ℤ (f *ℤ d)) ≤ℤ (p *ℤ (g *ℤ e)) → (g *ℤ (p *ℤ e)) ≤ℤ (g *ℤ s)
    → ((d *ℤ p) *ℤ (reward +ℤ f)) ≤ℤ ((d *ℤ p) *ℤ reward +ℤ g *ℤ s)
low_step d p g reward f e s h k = let h' = simp ring at h in let k' = simp ring at k in simp ring (omega (arith, ints))

high_step : (d p g reward f e s : ℤ) → (p *ℤ (g *ℤ e)) ≤ℤ (p *ℤ (f *ℤ d)) → (g *ℤ s) ≤ℤ (g *ℤ (p *ℤ e))
    → ((d *ℤ p) *ℤ reward +ℤ g *ℤ s) ≤ℤ ((d *ℤ p) *ℤ (reward +ℤ f))
high_step d p g reward f e s h k = let h' = simp ring at h in let k' = simp ring at k in simp ring (omega (arith, ints))

module _ (m : Process) (valid : IsValid m) (a : Action) (offered : Contains m.actions a) (s : List ℕ) (is : IsState (sizes m) s) where
  abbrev chance : Chance
  chance = probability m a s

  chances : AreChances (sizes m) chance
  chances = chances_of m valid a offered s is

  joint_is : (t : List ℕ) → joint_by chance t ≡ joint m a s t
  joint_is t = joint_by-is m a s 0 (λ i. i) (λ i. omega arith) t

  pub joint_nonnegative : (t : List ℕ) → IsState (sizes m) t → pos 0 ≤ℤ joint m a s t
  joint_nonnegative t there = subst (λ x. pos 0 ≤ℤ x) (joint_is t) (joint_by_nonnegative (sizes m) chance chances t there)

  pub joint-sum : sum_over_states (sizes m) (joint m a s) ≡ scale_by (length m.vars)
  joint-sum =
      sum_over_states-cong (sizes m) _ _ (λ t there. sym (joint_is t)) ∙ joint_by-sum (sizes m) chance chances ∙ ap scale_by (length-sizes m)

  module _ (w : List ℕ → ℤ) where
    exact-sum : exact_by (slice_index (sizes m)) chance w (length m.vars) [] ≡ sum_over_states (sizes m) (λ t. joint m a s t *ℤ w t)
    exact-sum =
        ap (λ n. exact_by (slice_index (sizes m)) chance w n []) (sym (length-sizes m))
        ∙ exact_by-sum (sizes m) chance w
        ∙ sum_over_states-cong (sizes m) _ _ (λ t there. ap (λ x. x *ℤ w t) (joint_is t))

    none_left : IsState (drop (length m.vars) (sizes m)) []
    none_left = IsState-none (sizes m) (length m.vars) (omega (arith, length-sizes m))

    pub low_encloses : (pos (scale_of m) *ℤ low_of m w a s) ≤ℤ exact_return m (joint m) (scale_of m) w a s
    low_encloses =
        let e = expectation floor_div m w a s in
        let p = scale_by (length m.vars) in
        let g = pos m.discount in
        low_step (pos discount_one) p g (reward_of m a s) (floor_div (g *ℤ e) (pos discount_one)) e (sum_over_states (sizes m) (λ t. joint m a s t *ℤ w t))
        (*ℤ_mono_right p _ _ (scale_by_nonnegative (length m.vars)) (floor_div_at_most (g *ℤ e) (pos discount_one) discount_above))
        (*ℤ_mono_right g _ _ (natural_nonnegative m.discount)
        (subst (λ x. (p *ℤ e) ≤ℤ x) exact-sum
        (encloses_below (sizes m) chance chances w (length m.vars) [] (omega (arith, length-sizes m)) none_left)))

    pub high_encloses : exact_return m (joint m) (scale_of m) w a s ≤ℤ (pos (scale_of m) *ℤ high_of m w a s)
    high_encloses =
        let e = expectation ceil_div m w a s in
        let p = scale_by (length m.vars) in
        let g = pos m.discount in
        high_step (pos discount_one) p g (reward_of m a s) (ceil_div (g *ℤ e) (pos discount_one)) e (sum_over_states (sizes m) (λ t. joint m a s t *ℤ w t))
        (*ℤ_mono_right p _ _ (scale_by_nonnegative (length m.vars)) (ceil_div_at_least (g *ℤ e) (pos discount_one) discount_above))
        (*ℤ_mono_right g _ _ (natural_nonnegative m.discount)
        (subst (λ x. x ≤ℤ (p *ℤ e)) exact-sum
        (encloses_above (sizes m) chance chances w (length m.vars) [] (omega (arith, length-sizes m)) none_left)))
