-- The expectation that sums out one variable after another: the rounded ones enclose the exact one, and the exact one is the sum
-- over all next states. Here a chance may depend on the next values of the later variables too.
use Rattle.std.proofs.Common.{◌≡◌, ℕ, zero, suc, ◌^◌, ◌≤◌, List, [], ◌∷◌, length, drop, slice_index, ℤ, pos, ◌*ℤ◌, ◌≤ℤ◌, refl, ap, sym, ◌∙◌, subst, arith}
use Rattle.std.proofs.lemmas.Int.{ints}
use Rattle.std.proofs.Math.Nat.{pow-suc}
use Rattle.spd_scaled.specs.Scaled.{floor_div, ceil_div}
use Rattle.spd_scaled.proofs.CallerLemmas.Ring.{ring, *ℤ_comm, *ℤ_assoc, *ℤ_swap, one-*ℤ, *ℤ-one, *ℤ_nonnegative, *ℤ_mono_right, ≤ℤ_trans}
use Rattle.spd_scaled.proofs.CallerLemmas.DivisionLaws.{floor_div_at_most, ceil_div_at_least}
use Rattle.spd_model.specs.Numbers.{sum_below}
use Rattle.spd_model.specs.States.{IsState, sum_over_states}
use Rattle.spd_model.specs.Chances.{one}
use Rattle.spd_model.specs.Backup.{expected_by}
use Rattle.spd_model.proofs.CallerLemmas.StateOrder.{IsState-drop, IsState-none}
use Rattle.spd_model.proofs.CallerLemmas.Chances.{Chance, AreChances}
use Rattle.spd_model.proofs.CallerLemmas.Sums.{sum_below-cong, sum_below_mono, sum_below-*ℤ, sum_over_states-cong, sum_over_states_swap}
use Rattle.spd_bellman.proofs.Signs.{one_above}

-- the expectation of w with no rounding, in parts of one to the power of the number of variables
abbrev pub exact_by : (ℕ → ℕ) → Chance → (List ℕ → ℤ) → ℕ → List ℕ → ℤ
exact_by size chance w zero rest = w rest
exact_by size chance w (suc i) rest = sum_below (size i) (λ v. chance i v rest *ℤ exact_by size chance w i (v ∷ rest))

-- the scale of i variables, in parts of one
abbrev pub scale_by : ℕ → ℤ
scale_by i = pos ((10 ^ 12) ^ i)

pub scale_by-suc : (i : ℕ) → scale_by (suc i) ≡ scale_by i *ℤ one
scale_by-suc i = ap pos (pow-suc (10 ^ 12) i)

pub scale_by_nonnegative : (i : ℕ) → pos 0 ≤ℤ scale_by i
scale_by_nonnegative i = omega (arith, ints)

-- ---- the rounded expectations enclose the exact one

at_most : (x : ℤ) → (one *ℤ floor_div x one) ≤ℤ x
at_most x = rw (*ℤ_comm one (floor_div x one)) (floor_div_at_most x one one_above)

at_least : (x : ℤ) → x ≤ℤ (one *ℤ ceil_div x one)
at_least x = rw (*ℤ_comm one (ceil_div x one)) (ceil_div_at_least x one one_above)

one_times_below : (x : ℤ) → (pos 1 *ℤ x) ≤ℤ x
one_times_below x = omega (arith, ints)

one_times_above : (x : ℤ) → x ≤ℤ (pos 1 *ℤ x)
one_times_above x = omega (arith, ints)

regrouped : (i : ℕ) (x : ℤ) → scale_by i *ℤ (one *ℤ x) ≡ scale_by (suc i) *ℤ x
regrouped i x = sym (*ℤ_assoc (scale_by i) one x) ∙ ap (λ k. k *ℤ x) (sym (scale_by-suc i))

-- a factor goes into the weighted sum over one variable's values
into_sum : (k : ℤ) (n : ℕ) (p f : ℕ → ℤ) → k *ℤ sum_below n (λ v. p v *ℤ f v) ≡ sum_below n (λ v. p v *ℤ (k *ℤ f v))
into_sum k n p f = sym (sum_below-*ℤ n k (λ v. p v *ℤ f v)) ∙ sum_below-cong n _ _ (λ v q. *ℤ_swap k (p v) (f v))

module _ (sizes : List ℕ) (chance : Chance) (chances : AreChances sizes chance) (w : List ℕ → ℤ) where
  abbrev low : ℕ → List ℕ → ℤ
  low = expected_by floor_div (slice_index sizes) chance w

  abbrev high : ℕ → List ℕ → ℤ
  high = expected_by ceil_div (slice_index sizes) chance w

  abbrev exact : ℕ → List ℕ → ℤ
  exact = exact_by (slice_index sizes) chance w

  pub encloses_below : (i : ℕ) (rest : List ℕ) → i ≤ length sizes → IsState (drop i sizes) rest → (scale_by i *ℤ low i rest) ≤ℤ exact i rest
  encloses_below zero rest near is = one_times_below (w rest)
  encloses_below (suc i) rest near is =
      let k = scale_by i in
      let size = slice_index sizes i in
      let sum = sum_below size (λ v. chance i v rest *ℤ low i (v ∷ rest)) in
      let rounded = *ℤ_mono_right k _ _ (scale_by_nonnegative i) (at_most sum) in
      let inner : (k *ℤ sum) ≤ℤ exact (suc i) rest =
      subst (λ x. x ≤ℤ exact (suc i) rest) (sym (into_sum k size (λ v. chance i v rest) (λ v. low i (v ∷ rest))))
      (sum_below_mono size _ _ (λ v below. *ℤ_mono_right (chance i v rest) _ _ (chances.nonnegative i v rest near below is)
      (encloses_below i (v ∷ rest) (omega arith) (IsState-drop sizes i v rest near below is)))) in
      subst (λ x. x ≤ℤ exact (suc i) rest) (regrouped i (floor_div sum one))
      (≤ℤ_trans _ (k *ℤ sum) _ rounded inner)

  pub encloses_above : (i : ℕ) (rest : List ℕ) → i ≤ length sizes → IsState (drop i sizes) rest → exact i rest ≤ℤ (scale_by i *ℤ high i rest)
  encloses_above zero rest near is = one_times_above (w rest)
  encloses_above (suc i) rest near is =
      let k = scale_by i in
      let size = slice_index sizes i in
      let sum = sum_below size (λ v. chance i v rest *ℤ high i (v ∷ rest)) in
      let rounded = *ℤ_mono_right k _ _ (scale_by_nonnegative i) (at_least sum) in
      let inner : exact (suc i) rest ≤ℤ (k *ℤ sum) =
      subst (λ x. exact (suc i) rest ≤ℤ x) (sym (into_sum k size (λ v. chance i v rest) (λ v. high i (v ∷ rest))))
      (sum_below_mono size _ _ (λ v below. *ℤ_mono_right (chance i v rest) _ _ (chances.nonnegative i v rest near below is)
      (encloses_above i (v ∷ rest) (omega arith) (IsState-drop sizes i v rest near below is)))) in
      subst (λ x. exact (suc i) rest ≤ℤ x) (regrouped i (ceil_div sum one))
      (≤ℤ_trans _ (k *ℤ sum) _ inner rounded)

-- ---- the exact expectation is the sum over all next states

-- the product of the chances of the values of t
abbrev pub joint_by : Chance → List ℕ → ℤ
joint_by chance [] = pos 1
joint_by chance (v ∷ t) = chance 0 v t *ℤ joint_by (λ i. chance (suc i)) t

-- the first variable may be summed out beforehand
first_out : (size : ℕ → ℕ) (chance : Chance) (w : List ℕ → ℤ) (i : ℕ) (rest : List ℕ)
    → exact_by size chance w (suc i) rest
    ≡ exact_by (λ j. size (suc j)) (λ j. chance (suc j)) (λ t. sum_below (size 0) (λ v. chance 0 v t *ℤ w (v ∷ t))) i rest
first_out size chance w zero rest = refl
first_out size chance w (suc i) rest =
    sum_below-cong (size (suc i)) _ _ (λ v p. ap (λ x. chance (suc i) v rest *ℤ x) (first_out size chance w i (v ∷ rest)))

factors : (j c x : ℤ) → j *ℤ (c *ℤ x) ≡ (c *ℤ j) *ℤ x
factors j c x = simp ring

pub exact_by-sum : (sizes : List ℕ) (chance : Chance) (w : List ℕ → ℤ)
    → exact_by (slice_index sizes) chance w (length sizes) [] ≡ sum_over_states sizes (λ t. joint_by chance t *ℤ w t)
exact_by-sum [] chance w = sym (one-*ℤ (w []))
exact_by-sum (size ∷ sizes) chance w =
    let later : Chance = λ i. chance (suc i) in
    first_out (slice_index (size ∷ sizes)) chance w (length sizes) []
    ∙ exact_by-sum sizes later (λ t. sum_below size (λ v. chance 0 v t *ℤ w (v ∷ t)))
    ∙ sum_over_states-cong sizes _ _ (λ t is. sym (sum_below-*ℤ size (joint_by later t) (λ v. chance 0 v t *ℤ w (v ∷ t)))
    ∙ sum_below-cong size _ _ (λ v p. factors (joint_by later t) (chance 0 v t) (w (v ∷ t))))
    ∙ sum_over_states_swap sizes size (λ v t. (chance 0 v t *ℤ joint_by later t) *ℤ w (v ∷ t))

-- ---- the chances of all next states

later_chances : (size : ℕ) (sizes : List ℕ) (chance : Chance) → AreChances (size ∷ sizes) chance → AreChances sizes (λ i. chance (suc i))
later_chances size sizes chance chances = record {
  nonnegative = λ i v rest near below is. chances.nonnegative (suc i) v rest (omega arith) below is;
  whole = λ i rest near is. chances.whole (suc i) rest (omega arith) is;
}

pub joint_by_nonnegative : (sizes : List ℕ) (chance : Chance) → AreChances sizes chance → (t : List ℕ) → IsState sizes t → pos 0 ≤ℤ joint_by chance t
joint_by_nonnegative [] chance chances [] is = record { le = tt }
joint_by_nonnegative [] chance chances (v ∷ t) is = absurd is
joint_by_nonnegative (size ∷ sizes) chance chances [] is = absurd is
joint_by_nonnegative (size ∷ sizes) chance chances (v ∷ t) is =
    *ℤ_nonnegative _ _ (chances.nonnegative 0 v t (omega arith) is.0 is.1)
    (joint_by_nonnegative sizes (λ i. chance (suc i)) (later_chances size sizes chance chances) t is.1)

-- the exact expectation of 1 is one to the power of the number of variables
exact_by-one : (sizes : List ℕ) (chance : Chance) → AreChances sizes chance
    → (i : ℕ) (rest : List ℕ) → i ≤ length sizes → IsState (drop i sizes) rest → exact_by (slice_index sizes) chance (λ t. pos 1) i rest ≡ scale_by i
exact_by-one sizes chance chances zero rest near is = refl
exact_by-one sizes chance chances (suc i) rest near is =
    sum_below-cong (slice_index sizes i) _ _ (λ v below. ap (λ x. chance i v rest *ℤ x)
    (exact_by-one sizes chance chances i (v ∷ rest) (omega arith) (IsState-drop sizes i v rest near below is))
    ∙ *ℤ_comm (chance i v rest) (scale_by i))
    ∙ sum_below-*ℤ (slice_index sizes i) (scale_by i) (λ v. chance i v rest)
    ∙ ap (λ x. scale_by i *ℤ x) (chances.whole i rest near is)
    ∙ sym (scale_by-suc i)

pub joint_by-sum : (sizes : List ℕ) (chance : Chance) → AreChances sizes chance → sum_over_states sizes (joint_by chance) ≡ scale_by (length sizes)
joint_by-sum sizes chance chances =
    sum_over_states-cong sizes _ _ (λ t is. sym (*ℤ-one (joint_by chance t)))
    ∙ sym (exact_by-sum sizes chance (λ t. pos 1))
    ∙ exact_by-one sizes chance chances (length sizes) [] (omega arith) (IsState-none sizes (length sizes) (omega arith))
