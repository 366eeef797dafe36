-- One variable after another is summed out of a table of values: what the table has after each.
use Rattle.std.proofs.Common.{◌≡◌, ℕ, suc, ◌+◌, ◌*◌, ◌/◌, ◌%◌, ◌<◌, List, [], ◌∷◌, length, drop, get_or, slice_index, All, Contains, Result, Ok, Err, ℤ, pos, ◌*ℤ◌, ◌≤ℤ◌, ap, sym, ◌∙◌, subst, arith}
use Rattle.std.specs.Result.{OnOk}
use Rattle.std.proofs.Math.Nat.{div-add-mod', mod-lt}
use Rattle.std.proofs.lemmas.List.{drop_all}
use Rattle.spd_scaled.specs.Scaled.{IsWithin}
use Rattle.spd_model.proofs.CallerLemmas.StateOrder.{quotient_below}
use Rattle.spd_model.specs.declared.process.Action.{Action}
use Rattle.spd_model.specs.Process.{Process}
use Rattle.spd_model.specs.Numbers.{sum_below}
use Rattle.spd_model.specs.States.{sizes, states, state_count, at, IsState}
use Rattle.spd_model.specs.Chances.{one, sizes_after, probability, IsValid}
use Rattle.spd_model.specs.Backup.{Rounding, expected_by, expectation}
use Rattle.spd_model.specs.Turns.{value_limit}
use Rattle.spd_model.proofs.CallerLemmas.StateOrder.{IsState-get_or, at-get_or, length-sizes, sizes_some}
use Rattle.spd_model.proofs.CallerLemmas.Sums.{sum_below-cong}
use Rattle.spd_plain.specs.declared.space.Axis.{Axis}
use Rattle.spd_plain.specs.inner.Axes.{IsAxis}
use Rattle.spd_plain.specs.declared.reach.Reach.TheVariants.{Own}
use Rattle.spd_plain.specs.inner.Chances.{chance_of, values_of, TellsChances, HoldFor}
use Rattle.spd_plain.specs.inner.Reach.{reach_at}
use Rattle.spd_plain.specs.inner.Expectations.{entry, weighted, AreWeights, IsReady}
use Rattle.spd_plain.proofs.Known.{values_hold}
use Rattle.spd_plain.proofs.Tables.{size_is, after_is, axis_more, after_some, counted}
use Rattle.spd_plain.proofs.Weights.{entry_below}

pub on_both : {T E P Q R : Type 0} (r : Result T E) → (P → Q → R) → OnOk r P → OnOk r Q → OnOk r R
on_both (Ok x) f p q = f p q
on_both (Err e) f p q = tt

module _ (m : Process) (a : Action) (s : List ℕ) (axis : Axis) (is : IsAxis m axis) where
  -- what is told of the value v, where the variables after it are in their k-th state
  module _ (chances : List ℤ) (tells : TellsChances m a s axis.var chances) (v k : ℕ) (below : v < axis.size) (near : k < axis.after) where
    pub chance_told : entry axis.after chances v k ≡ probability m a s axis.var v (get_or (states (sizes_after m axis.var)) k [])
    chance_told =
        let place = entry_below v axis.size k axis.after below near in
        tells.each (v * axis.after + k) (subst (λ (n : ℕ). v * axis.after + k < n) (λ i. size_is m axis is i * after_is m axis is i) place)
        ∙ ap (chance_of m a s axis.var) (axis_more m axis is v k below near)

  -- probabilities that don't follow later variables, each at all places of these
  module _ (offered : Contains m.actions a) (state : IsState (sizes m) s) (own : reach_at m a axis.var ≡ Own) (kept : List ℤ) (are : kept ≡ values_of m a s axis.var) where
    holds : HoldFor m a s axis.var kept
    holds = subst (HoldFor m a s axis.var) (sym are) (values_hold m is.law a offered axis.var is.near own s state)

    pub own_count : length kept ≡ axis.size
    own_count = holds.count ∙ sym (size_is m axis is)

    pub own_tells : (chances : List ℤ) → length chances ≡ length kept * axis.after
        → ((v k : ℕ) → v < length kept → k < axis.after → get_or chances (v * axis.after + k) (pos 0) ≡ get_or kept v (pos 0)) → TellsChances m a s axis.var chances
    own_tells chances len spread = record {
      count = len ∙ (λ i. holds.count i * after_is m axis is i);
      each = λ k near.
          let v = k / axis.after in
          let j = k % axis.after in
          let inside : k < axis.size * axis.after = subst (λ (n : ℕ). k < n) (sym (λ i. size_is m axis is i * after_is m axis is i)) near in
          let below : k / axis.after < axis.size = quotient_below axis.size axis.after k inside in
          let place : k % axis.after < axis.after = mod-lt k (after_some m axis is) in
          let parts : k ≡ k / axis.after * axis.after + k % axis.after = omega (arith, div-add-mod' k axis.after) in
          ap (λ (n : ℕ). get_or chances n (pos 0)) parts
          ∙ spread v j (omega (arith, own_count)) place
          ∙ holds.each v (get_or (states (sizes_after m axis.var)) j []) (omega (arith, size_is m axis is)) (IsState-get_or (sizes_after m axis.var) j (omega (arith, after_is m axis is)))
          ∙ ap (chance_of m a s axis.var) (sym (axis_more m axis is v j below place))
          ∙ ap (λ (n : ℕ). chance_of m a s axis.var (get_or (states (drop axis.var (sizes m))) n [])) (sym parts);
    }

-- the table of the expectations of w over the first i variables, by the states of the others
pub record Expects (m : Process) (a : Action) (s : List ℕ) (w : List ℕ → ℤ) (round : Rounding) (i : ℕ) (values : List ℤ) : Type 0 where
  pub count : length values ≡ state_count (drop i (sizes m))
  pub each : (k : ℕ) → k < state_count (drop i (sizes m))
      → get_or values k (pos 0) ≡ expected_by round (slice_index (sizes m)) (probability m a s) w i (get_or (states (drop i (sizes m))) k [])
  pub bounded : All (IsWithin (pos value_limit)) values

module _ (m : Process) (a : Action) (s : List ℕ) where
  -- none is summed out yet
  pub expects_start : (round : Rounding) (values : List ℤ) → length values ≡ state_count (sizes m) → All (IsWithin (pos value_limit)) values
      → Expects m a s (at (sizes m) values) round 0 values
  expects_start round values count bounded = record { count = count; each = λ k near. sym (at-get_or (sizes m) values k near); bounded = bounded }

  -- the probabilities of a valid model are weights
  pub are_weights : IsValid m → Contains m.actions a → IsState (sizes m) s → (axis : Axis) (is : IsAxis m axis) (chances : List ℤ) → TellsChances m a s axis.var chances
      → AreWeights axis.size axis.after chances
  are_weights valid offered state axis is chances tells =
      let rest = λ (k : ℕ). get_or (states (sizes_after m axis.var)) k [] in
      let later = λ (k : ℕ) (near : k < axis.after). IsState-get_or (sizes_after m axis.var) k (omega (arith, after_is m axis is)) in
      record {
        count = tells.count ∙ sym (λ i. size_is m axis is i * after_is m axis is i);
        nonnegative = λ v k below near. subst (λ x. pos 0 ≤ℤ x) (sym (chance_told m a s axis is chances tells v k below near))
            (valid.chances a offered axis.var is.near s (rest k) state (later k near) v (omega (arith, size_is m axis is)));
        whole = λ k near.
            sum_below-cong axis.size (λ v. entry axis.after chances v k) (λ v. probability m a s axis.var v (rest k)) (λ v below. chance_told m a s axis is chances tells v k below near)
            ∙ ap (λ (n : ℕ). sum_below n (λ v. probability m a s axis.var v (rest k))) (size_is m axis is)
            ∙ valid.sums a offered axis.var is.near s (rest k) state (later k near);
      }

  -- one variable more is summed out
  module _ (w : List ℕ → ℤ) (round : Rounding) (axis : Axis) (is : IsAxis m axis) (chances before after : List ℤ) (tells : TellsChances m a s axis.var chances)
      (expects : Expects m a s w round axis.var before) (count : length after ≡ axis.after)
      (each : (k : ℕ) → k < axis.after → get_or after k (pos 0) ≡ round (weighted axis.size axis.after chances before k) one) (bounded : All (IsWithin (pos value_limit)) after) where
    pub expects_more : Expects m a s w round (suc axis.var) after
    expects_more =
        let e = λ (i : ℕ) (t : List ℕ). expected_by round (slice_index (sizes m)) (probability m a s) w i t in
        let rest = λ (k : ℕ). get_or (states (sizes_after m axis.var)) k [] in
        record {
          count = count ∙ after_is m axis is;
          each = λ k near.
              let place : k < axis.after = omega (arith, after_is m axis is) in
              each k place
              ∙ ap (λ x. round x one)
              (sum_below-cong axis.size (λ v. entry axis.after chances v k *ℤ entry axis.after before v k) (λ v. probability m a s axis.var v (rest k) *ℤ e axis.var (v ∷ rest k))
              (λ v below. let here = chance_told m a s axis is chances tells v k below place in
              let there = expects.each (v * axis.after + k) (omega (arith, counted m axis is, entry_below v axis.size k axis.after below place)) ∙ ap (e axis.var) (axis_more m axis is v k below place) in
              λ i. here i *ℤ there i)
              ∙ ap (λ (n : ℕ). sum_below n (λ v. probability m a s axis.var v (rest k) *ℤ e axis.var (v ∷ rest k))) (size_is m axis is));
          bounded = bounded;
        }

  -- all are summed out
  module _ (w : List ℕ → ℤ) (round : Rounding) (i : ℕ) (values : List ℤ) (expects : Expects m a s w round i values) (all : i ≡ length m.vars) where
    none_left : drop i (sizes m) ≡ []
    none_left = drop_all i (sizes m) (omega (arith, length-sizes m))

    pub expects_one : length values ≡ 1
    expects_one = expects.count ∙ ap state_count none_left

    pub expects_all : get_or values 0 (pos 0) ≡ expectation round m w a s
    expects_all =
        let one_state : state_count (drop i (sizes m)) ≡ 1 = ap state_count none_left in
        expects.each 0 (omega arith)
        ∙ (λ j. expected_by round (slice_index (sizes m)) (probability m a s) w (all j) (get_or (states (none_left j)) 0 []))

-- what summing a variable out of such a table takes
pub is_ready : {m : Process} → IsValid m → {a : Action} → Contains m.actions a → {s : List ℕ} → IsState (sizes m) s → (axis : Axis) → IsAxis m axis → {chances : List ℤ}
    → TellsChances m a s axis.var chances → {w : List ℕ → ℤ} {round : Rounding} {values : List ℤ} → Expects m a s w round axis.var values → IsReady axis.size axis.after chances values
is_ready {m} valid {a} offered {s} state axis is {chances} tells expects = record {
  some = omega (arith, size_is m axis is, sizes_some m is.law axis.var 0 (omega (arith, length-sizes m, is.near)));
  few = is.few;
  weights = are_weights m a s valid offered state axis is chances tells;
  count = expects.count ∙ sym (counted m axis is);
  bounded = expects.bounded;
}
