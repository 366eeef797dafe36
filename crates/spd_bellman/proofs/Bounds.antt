-- What a certificate that holds says of every course, of the policy, and of every number of steps.
use Rattle.std.proofs.Common.{◌≡◌, ℕ, zero, suc, ◌-◌, ◌*◌, ◌^◌, ◌<◌, ◌≤◌, List, length, Contains, ℤ, pos, ◌+ℤ◌, ◌-ℤ◌, ◌*ℤ◌, ◌≤ℤ◌, ◌<ℤ◌, inl, inr, ap, sym, ◌∙◌, subst, subst₂, arith}
use Rattle.std.specs.Prelude.{slice_get, Some}
use Rattle.std.specs.Int.{int_max}
use Rattle.std.proofs.lemmas.Int.{ints, int_max_is}
use Rattle.std.proofs.Math.Nat.{pow-zero, pow-suc, one-le-pow}
use Rattle.std.proofs.lemmas.Bool.{cases_lt}
use Rattle.spd_scaled.proofs.CallerLemmas.Ring.{ring, *ℤ_comm, *ℤ_mono_right, *ℤ_nonnegative, *ℤ_cancel_≤ℤ, ≤ℤ_trans}
use Rattle.spd_model.specs.declared.process.Action.{Action}
use Rattle.spd_model.specs.Process.{Process}
use Rattle.spd_model.specs.States.{sizes, IsState, sum_over_states}
use Rattle.spd_model.specs.Chances.{IsValid, discount_one, reward_of, joint, scale_of}
use Rattle.spd_model.specs.Backup.{low_of, high_of, best_high, policy_of}
use Rattle.spd_model.specs.Turns.{gap_above, gap_below, residual_of}
use Rattle.spd_bellman.specs.Courses.{Course, stop, act, always, exact_return, return_of_course, return_of_policy}
use Rattle.spd_bellman.specs.Certificate.{Holds}
use Rattle.spd_bellman.specs.Bound.{IsWithinError, IsBoundAbove, IsBoundBelow, IsPolicyNear, IsNearOptimal}
use Rattle.spd_model.proofs.CallerLemmas.Gaps.{gap_at_most, high_at_most, policy_low, policy_near}
use Rattle.spd_model.proofs.CallerLemmas.Sums.{sum_over_states_mono, sum_over_states-*ℤ, sum_over_states_affine}
use Rattle.spd_bellman.proofs.Expectations.{scale_by}
use Rattle.spd_bellman.proofs.Signs.{natural_nonnegative}
use Rattle.spd_bellman.proofs.Returns.{joint_nonnegative, joint-sum, low_encloses, high_encloses}
use Rattle.spd_bellman.proofs.Policies.{numbered, offered_by, step-return_of_policy}

-- ---- the step from n to n + 1 steps, in whole numbers

-- e is one minus the discount g, in parts of d; p is one, as a joint probability; q is the scale of n steps. `next` and `worth` are the
-- expectations, over the next states, of the return of n steps and of the value.
step_above : (e g d p q r reward next value worth : ℤ) → d ≡ g +ℤ e
    → (g *ℤ (e *ℤ next)) ≤ℤ (g *ℤ ((e *ℤ q) *ℤ worth +ℤ (r *ℤ (d *ℤ q)) *ℤ p))
    → ((e *ℤ q) *ℤ ((d *ℤ p) *ℤ reward +ℤ g *ℤ worth)) ≤ℤ ((e *ℤ q) *ℤ ((d *ℤ p) *ℤ (value +ℤ r)))
    → (e *ℤ ((q *ℤ (d *ℤ p)) *ℤ reward +ℤ g *ℤ next)) ≤ℤ ((e *ℤ (q *ℤ (d *ℤ p))) *ℤ value +ℤ r *ℤ (d *ℤ (q *ℤ (d *ℤ p))))
step_above e g d p q r reward next value worth is h k =
    let h' = simp ring at (rw is at h) in let k' = simp ring at (rw is at k) in rw is (simp ring (omega (arith, ints)))

step_below : (e g d p q r reward next value worth : ℤ) → d ≡ g +ℤ e
    → (g *ℤ ((e *ℤ q) *ℤ worth)) ≤ℤ (g *ℤ (e *ℤ next +ℤ (r *ℤ (d *ℤ q)) *ℤ p))
    → ((e *ℤ q) *ℤ ((d *ℤ p) *ℤ value)) ≤ℤ ((e *ℤ q) *ℤ ((d *ℤ p) *ℤ reward +ℤ g *ℤ worth +ℤ (d *ℤ p) *ℤ r))
    → ((e *ℤ (q *ℤ (d *ℤ p))) *ℤ value) ≤ℤ (e *ℤ ((q *ℤ (d *ℤ p)) *ℤ reward +ℤ g *ℤ next) +ℤ r *ℤ (d *ℤ (q *ℤ (d *ℤ p))))
step_below e g d p q r reward next value worth is h k =
    let h' = simp ring at (rw is at h) in let k' = simp ring at (rw is at k) in rw is (simp ring (omega (arith, ints)))

-- ---- a certificate at a state

-- an exact return x, of which k parts make one unit, passes the value by at most r where the action's bounds do
raised : (k x high value r : ℤ) → pos 0 ≤ℤ k → x ≤ℤ (k *ℤ high) → (high -ℤ value) ≤ℤ r → x ≤ℤ (k *ℤ (value +ℤ r))
raised k x high value r some h l =
    let more = *ℤ_mono_right k high (value +ℤ r) some (omega (arith, ints)) in omega (arith, ints)

lowered : (k x low value r : ℤ) → pos 0 ≤ℤ k → (k *ℤ low) ≤ℤ x → (value -ℤ low) ≤ℤ r → (k *ℤ value) ≤ℤ (x +ℤ k *ℤ r)
lowered k x low value r some h l =
    let more = *ℤ_mono_right k value (low +ℤ r) some (omega (arith, ints)) in
    let parts : k *ℤ (low +ℤ r) ≡ k *ℤ low +ℤ k *ℤ r = simp ring in
    omega (arith, ints)

-- two gaps that enclose each other leave a residual of at least 0
residual_some : (low high value r k x : ℤ) → pos 0 <ℤ k → (k *ℤ low) ≤ℤ x → x ≤ℤ (k *ℤ high) → (high -ℤ value) ≤ℤ r
    → (value -ℤ low) ≤ℤ r → pos 0 ≤ℤ r
residual_some low high value r k x some h l above below =
    let ordered = *ℤ_cancel_≤ℤ low high k some (rw (*ℤ_comm low k, *ℤ_comm high k) (≤ℤ_trans (k *ℤ low) x (k *ℤ high) h l)) in
    omega (arith, ints)

-- ---- the ends of the induction

begun_above : (e value r d : ℤ) → pos 0 ≤ℤ r → pos 0 ≤ℤ d → (e *ℤ value) ≤ℤ ((e *ℤ pos 1) *ℤ value +ℤ r *ℤ (d *ℤ pos 1))
begun_above e value r d some parts = let error = *ℤ_nonnegative r d some parts in simp ring (omega (arith, ints))

begun_below : (e value r d : ℤ) → pos 0 ≤ℤ r → pos 0 ≤ℤ d → ((e *ℤ pos 1) *ℤ value) ≤ℤ (e *ℤ value +ℤ r *ℤ (d *ℤ pos 1))
begun_below e value r d some parts = let error = *ℤ_nonnegative r d some parts in simp ring (omega (arith, ints))

ended_above : (e q value r d x : ℤ) → (e *ℤ x) ≤ℤ ((e *ℤ q) *ℤ value +ℤ r *ℤ (d *ℤ q))
    → (e *ℤ (x -ℤ q *ℤ value)) ≤ℤ (r *ℤ d *ℤ q)
ended_above e q value r d x h = let h' = simp ring at h in simp ring (omega (arith, ints))

ended_below : (e q value r d x : ℤ) → ((e *ℤ q) *ℤ value) ≤ℤ (e *ℤ x +ℤ r *ℤ (d *ℤ q))
    → (e *ℤ (q *ℤ value -ℤ x)) ≤ℤ (r *ℤ d *ℤ q)
ended_below e q value r d x h = let h' = simp ring at h in simp ring (omega (arith, ints))

-- ---- the scale

scale_positive : (n : ℕ) → pos 0 <ℤ pos (10 ^ 6 * (10 ^ 12) ^ n)
scale_positive n = let power : 1 ≤ (10 ^ 12) ^ n = one-le-pow n (10 ^ 12) (omega arith) in omega (arith, ints)

-- ---- every course, and the policy

module _ (m : Process) (valid : IsValid m) (w : List ℕ → ℤ) (policy : List ℕ → ℕ) (r : ℤ)
    (holds : Holds m w policy r) where
  -- one minus the discount, and the discount, in parts of 10^6
  abbrev rest_of : ℤ
  rest_of = pos (discount_one - m.discount)

  abbrev discount : ℤ
  discount = pos m.discount

  -- what one unit counts in n steps, and what one counts as a joint probability
  abbrev scale : ℕ → ℤ
  scale n = pos (scale_of m ^ n)

  abbrev sure : ℤ
  sure = scale_by (length m.vars)

  scale-zero : pos 1 ≡ scale 0
  scale-zero = sym (ap pos (pow-zero (scale_of m)))

  scale-suc : (n : ℕ) → scale n *ℤ (pos discount_one *ℤ sure) ≡ scale (suc n)
  scale-suc n = sym (ap pos (pow-suc (scale_of m) n))

  -- a return x from s, of which k parts make one unit, keeps the bound above, and below
  abbrev KeepsAbove : ℤ → List ℕ → ℤ → Type 0
  KeepsAbove k s x = (rest_of *ℤ x) ≤ℤ ((rest_of *ℤ k) *ℤ w s +ℤ r *ℤ (pos discount_one *ℤ k))

  abbrev KeepsBelow : ℤ → List ℕ → ℤ → Type 0
  KeepsBelow k s x = ((rest_of *ℤ k) *ℤ w s) ≤ℤ (rest_of *ℤ x +ℤ r *ℤ (pos discount_one *ℤ k))

  weight_nonnegative : (n : ℕ) → pos 0 ≤ℤ (rest_of *ℤ scale n)
  weight_nonnegative n = *ℤ_nonnegative rest_of (scale n) (natural_nonnegative (discount_one - m.discount)) (natural_nonnegative (scale_of m ^ n))

  residual_nonnegative : (s : List ℕ) → IsState (sizes m) s → pos 0 ≤ℤ r
  residual_nonnegative s is =
      let chosen = numbered m.actions (policy s) (holds.named s is) in
      let a = chosen.0 in
      let offered = offered_by m (policy s) a chosen.1 in
      residual_some (low_of m w a s) (high_of m w a s) (w s) r (pos (scale_of m)) (exact_return m (joint m) (scale_of m) w a s) (scale_positive (length m.vars))
      (low_encloses m valid a offered s is w) (high_encloses m valid a offered s is w) (holds.above s is a offered) (holds.below s is a chosen.1)

  -- one step by an action, before returns `next` of n steps that keep the bound
  module _ (discounted : m.discount ≤ discount_one) (a : Action) (offered : Contains m.actions a) (s : List ℕ) (is : IsState (sizes m) s)
      (n : ℕ) (next : List ℕ → ℤ) where
    -- the expectation of f over the next states
    abbrev expected : (List ℕ → ℤ) → ℤ
    expected f = sum_over_states (sizes m) (λ t. joint m a s t *ℤ f t)

    -- the return of the step, of which k parts make one unit
    abbrev stepped : ℤ → ℤ
    stepped k = k *ℤ reward_of m a s +ℤ discount *ℤ expected next

    whole : pos discount_one ≡ discount +ℤ rest_of
    whole = omega (arith, ints)

    expected_mono : (f g : List ℕ → ℤ) → ((t : List ℕ) → IsState (sizes m) t → f t ≤ℤ g t) → expected f ≤ℤ expected g
    expected_mono f g below = sum_over_states_mono (sizes m) _ _
        (λ t there. *ℤ_mono_right (joint m a s t) _ _ (joint_nonnegative m valid a offered s is t there) (below t there))

    expected-*ℤ : (x : ℤ) (f : List ℕ → ℤ) → expected (λ t. x *ℤ f t) ≡ x *ℤ expected f
    expected-*ℤ x f = sum_over_states-*ℤ (sizes m) x (joint m a s) f

    expected_affine : (x y : ℤ) (f : List ℕ → ℤ) → expected (λ t. x *ℤ f t +ℤ y) ≡ x *ℤ expected f +ℤ y *ℤ sure
    expected_affine x y f =
        sum_over_states_affine (sizes m) x y (joint m a s) f ∙ ap (λ j. x *ℤ expected f +ℤ y *ℤ j) (joint-sum m valid a offered s is)

    step_keeps_above : ((t : List ℕ) → IsState (sizes m) t → KeepsAbove (scale n) t (next t))
        → KeepsAbove (scale (suc n)) s (exact_return m (joint m) (scale_of m ^ suc n) next a s)
    step_keeps_above keeps =
        let weight = rest_of *ℤ scale n in
        let error = r *ℤ (pos discount_one *ℤ scale n) in
        let weighed = subst₂ (λ x y. x ≤ℤ y) (expected-*ℤ rest_of next) (expected_affine weight error w) (expected_mono _ _ keeps) in
        let here = raised (pos (scale_of m)) (exact_return m (joint m) (scale_of m) w a s) (high_of m w a s) (w s) r (natural_nonnegative (scale_of m))
        (high_encloses m valid a offered s is w) (holds.above s is a offered) in
        subst (λ k. KeepsAbove k s (stepped k)) (scale-suc n)
        (step_above rest_of discount (pos discount_one) sure (scale n) r (reward_of m a s) (expected next) (w s) (expected w) whole
        (*ℤ_mono_right discount _ _ (natural_nonnegative m.discount) weighed) (*ℤ_mono_right weight _ _ (weight_nonnegative n) here))

    step_keeps_below : slice_get m.actions (policy s) ≡ Some a → ((t : List ℕ) → IsState (sizes m) t → KeepsBelow (scale n) t (next t))
        → KeepsBelow (scale (suc n)) s (exact_return m (joint m) (scale_of m ^ suc n) next a s)
    step_keeps_below chosen keeps =
        let weight = rest_of *ℤ scale n in
        let error = r *ℤ (pos discount_one *ℤ scale n) in
        let weighed = subst₂ (λ x y. x ≤ℤ y) (expected-*ℤ weight w) (expected_affine rest_of error next) (expected_mono _ _ keeps) in
        let here = lowered (pos (scale_of m)) (exact_return m (joint m) (scale_of m) w a s) (low_of m w a s) (w s) r (natural_nonnegative (scale_of m))
        (low_encloses m valid a offered s is w) (holds.below s is a chosen) in
        subst (λ k. KeepsBelow k s (stepped k)) (scale-suc n)
        (step_below rest_of discount (pos discount_one) sure (scale n) r (reward_of m a s) (expected next) (w s) (expected w) whole
        (*ℤ_mono_right discount _ _ (natural_nonnegative m.discount) weighed) (*ℤ_mono_right weight _ _ (weight_nonnegative n) here))

  module _ (discounted : m.discount ≤ discount_one) where
    course_keeps : {n : ℕ} (course : Course m n) (s : List ℕ) → IsState (sizes m) s → KeepsAbove (scale n) s (return_of_course m (always (joint m)) w course s)
    course_keeps stop s is =
        subst (λ k. KeepsAbove k s (w s)) scale-zero
        (begun_above rest_of (w s) r (pos discount_one) (residual_nonnegative s is) (natural_nonnegative discount_one))
    course_keeps (act {n} a offered next) s is =
        step_keeps_above discounted a offered s is n (λ t. return_of_course m (always (joint m)) w (next t) t) (λ t there. course_keeps (next t) t there)

    policy_keeps : (n : ℕ) (s : List ℕ) → IsState (sizes m) s → KeepsBelow (scale n) s (return_of_policy m (always (joint m)) w (always policy) n s)
    policy_keeps zero s is =
        subst (λ k. KeepsBelow k s (w s)) scale-zero
        (begun_below rest_of (w s) r (pos discount_one) (residual_nonnegative s is) (natural_nonnegative discount_one))
    policy_keeps (suc n) s is =
        let chosen = numbered m.actions (policy s) (holds.named s is) in
        rw (step-return_of_policy m (always (joint m)) w (always policy) n s chosen.0 chosen.1)
        (step_keeps_below discounted chosen.0 (offered_by m (policy s) chosen.0 chosen.1) s is n (return_of_policy m (always (joint m)) w (always policy) n) chosen.1
        (λ t there. policy_keeps n t there))

  -- a discount of one or more leaves nothing to compare
  no_rest : (n : ℕ) (gain : ℤ) → discount_one < m.discount → pos 0 ≤ℤ r → IsWithinError m r n gain
  no_rest n gain over some =
      let none : rest_of ≡ pos 0 = omega (arith, ints) in
      let error = *ℤ_nonnegative r (pos discount_one) some (natural_nonnegative discount_one) in
      let scaled = *ℤ_nonnegative (r *ℤ pos discount_one) (scale n) error (natural_nonnegative (scale_of m ^ n)) in
      rw none (omega (arith, ints))

  pub bound_above : IsBoundAbove m w r
  bound_above n course s is = elim (cases_lt discount_one m.discount) [
    | inl over ↦ no_rest n (return_of_course m (always (joint m)) w course s -ℤ scale n *ℤ w s) over (residual_nonnegative s is)
    | inr under ↦ ended_above rest_of (scale n) (w s) r (pos discount_one) (return_of_course m (always (joint m)) w course s) (course_keeps under course s is)
  ]

  pub bound_below : IsBoundBelow m w policy r
  bound_below n s is = elim (cases_lt discount_one m.discount) [
    | inl over ↦ no_rest n (scale n *ℤ w s -ℤ return_of_policy m (always (joint m)) w (always policy) n s) over (residual_nonnegative s is)
    | inr under ↦ ended_below rest_of (scale n) (w s) r (pos discount_one) (return_of_policy m (always (joint m)) w (always policy) n s) (policy_keeps under n s is)
  ]

-- ---- a value with its own policy and residual

within : (high best value r : ℤ) → high ≤ℤ best → (best -ℤ value) ≤ℤ r → (high -ℤ value) ≤ℤ r
within high best value r h k = omega (arith, ints)

int_max_left : (x y r : ℤ) → int_max x y ≤ℤ r → x ≤ℤ r
int_max_left x y r h = omega (arith, ints, int_max_is x y)

int_max_right : (x y r : ℤ) → int_max x y ≤ℤ r → y ≤ℤ r
int_max_right x y r h = omega (arith, ints, int_max_is x y)

pub residual_holds : (m : Process) → 0 < length m.actions → (w : List ℕ → ℤ) → Holds m w (policy_of m w) (residual_of m w)
residual_holds m some w = record {
  named = λ s is. policy_near m w some s;
  above = λ s is a offered. within (high_of m w a s) (best_high m w s) (w s) (residual_of m w) (high_at_most m w a offered s)
      (int_max_left (gap_above m w s) (gap_below m w s) (residual_of m w) (gap_at_most m w s is));
  below = λ s is a chosen. subst (λ x. (w s -ℤ x) ≤ℤ residual_of m w) (policy_low m w some s a chosen)
      (int_max_right (gap_above m w s) (gap_below m w s) (residual_of m w) (gap_at_most m w s is));
}

-- every value of a valid process with an action is near optimal, by its residual
pub near_optimal : (m : Process) → IsValid m → 0 < length m.actions → (w : List ℕ → ℤ) → IsNearOptimal m w
near_optimal m valid some w = record {
  courses = bound_above m valid w (policy_of m w) (residual_of m w) (residual_holds m some w);
  policy = bound_below m valid w (policy_of m w) (residual_of m w) (residual_holds m some w);
}

twice : (x d q : ℤ) → (pos 2 *ℤ x) *ℤ d *ℤ q ≡ x *ℤ d *ℤ q +ℤ x *ℤ d *ℤ q
twice x d q = let two : pos 2 *ℤ x ≡ x +ℤ x = omega (arith, ints) in rw two (simp ring)

added : (e x y z r d q : ℤ) → (e *ℤ (x -ℤ y)) ≤ℤ (r *ℤ d *ℤ q) → (e *ℤ (y -ℤ z)) ≤ℤ (r *ℤ d *ℤ q)
    → (e *ℤ (x -ℤ z)) ≤ℤ ((pos 2 *ℤ r) *ℤ d *ℤ q)
added e x y z r d q h k =
    let parts : e *ℤ (x -ℤ z) ≡ e *ℤ (x -ℤ y) +ℤ e *ℤ (y -ℤ z) = simp ring (omega (arith, ints)) in
    omega (arith, ints, twice r d q)

-- no course returns more than the policy by more than twice the bound
pub policy_bound : (m : Process) → IsValid m → 0 < length m.actions → (w : List ℕ → ℤ)
    → IsPolicyNear m w (policy_of m w) (pos 2 *ℤ residual_of m w)
policy_bound m valid some w n course s is =
    let near = near_optimal m valid some w in
    added (pos (discount_one - m.discount)) (return_of_course m (always (joint m)) w course s) (pos (scale_of m ^ n) *ℤ w s) (return_of_policy m (always (joint m)) w (always (policy_of m w)) n s)
    (residual_of m w) (pos discount_one) (pos (scale_of m ^ n)) (near.courses n course s is) (near.policy n s is)
