-- The residual is one of the gaps of some state, and bounds the gaps at each state.
use Rattle.std.proofs.Common.{◌≡◌, ◌⊎◌, inl, inr, ℕ, zero, suc, ◌<◌, ◌≤◌, Bool, true, false, ◌||◌, List, [], ◌∷◌, length, map, drop, get_or, slice_index, All, Contains, ℤ, pos, ◌≤ℤ◌, ◌<ℤ◌, int_lt, cond, refl, ap, sym, ◌∙◌, subst, arith}
use Rattle.std.specs.Prelude.{slice_get, Some, option_map}
use Rattle.std.specs.Int.{int_max}
use Rattle.std.specs.Ordering.{int_eq}
use Rattle.std.proofs.lemmas.Bool.{false≢true, or_right}
use Rattle.std.proofs.lemmas.Int.{ints, int_max_is, fold-int_max_reached, fold-int_max_bounds}
use Rattle.std.proofs.lemmas.List.{get_or-map}
use Rattle.std.proofs.lemmas.Option.{slice_get-map, slice_get_within, same_Some}
use Rattle.std.proofs.Math.ListN.{length-map}
use Rattle.std.proofs.lemmas.List.Elements.{All-weaker, All-contains_itself}
use Rattle.spd_scaled.specs.Scaled.{floor_div, ceil_div}
use Rattle.spd_scaled.proofs.CallerLemmas.Ring.{≤ℤ_trans, *ℤ_mono_right, int_eq-holds}
use Rattle.spd_scaled.proofs.CallerLemmas.DivisionLaws.{floor_div_mono, floor_div-≤ℤ-ceil_div}
use Rattle.spd_model.specs.declared.process.Action.{Action}
use Rattle.spd_model.specs.Process.{Process}
use Rattle.spd_model.specs.States.{sizes, states, IsState, table_of}
use Rattle.spd_model.specs.Chances.{one, discount_one, probability, IsValid}
use Rattle.spd_model.specs.Backup.{expected_by, low_of, high_of, best_low, best_high, policy_of}
use Rattle.spd_model.specs.Turns.{gap_above, gap_below, residual_of}
use Rattle.spd_model.proofs.CallerLemmas.Lists.{Contains-map}
use Rattle.spd_model.proofs.CallerLemmas.Sums.{sum_below_mono}
use Rattle.spd_model.proofs.CallerLemmas.Greatest.{greatest_ordered, greatest_at_least, greatest_reached, first_place_reads}
use Rattle.spd_model.proofs.CallerLemmas.StateOrder.{IsState-get_or, IsState-drop, IsState-none, length-states, length-sizes, All-table_of_back}
use Rattle.spd_model.proofs.CallerLemmas.Chances.{Chance, AreChances, chances_of}

pub floor-≤ℤ-ceil : (x y d : ℤ) → pos 0 <ℤ d → x ≤ℤ y → floor_div x d ≤ℤ ceil_div y d
floor-≤ℤ-ceil x y d p h = ≤ℤ_trans (floor_div x d) (floor_div y d) (ceil_div y d) (floor_div_mono x y d p h) (floor_div-≤ℤ-ceil_div y d p)

-- the lower expectation is at most the upper one
pub expected_ordered : (sizes : List ℕ) (chance : Chance) → AreChances sizes chance → (w : List ℕ → ℤ) (n : ℕ) (rest : List ℕ) → n ≤ length sizes
    → IsState (drop n sizes) rest → expected_by floor_div (slice_index sizes) chance w n rest ≤ℤ expected_by ceil_div (slice_index sizes) chance w n rest
expected_ordered sizes chance chances w zero rest near is = omega (arith, ints)
expected_ordered sizes chance chances w (suc i) rest near is =
    floor-≤ℤ-ceil _ _ one (omega (arith, ints))
    (sum_below_mono (slice_index sizes i) _ _ (λ v below. *ℤ_mono_right (chance i v rest) _ _ (chances.nonnegative i v rest near below is)
    (expected_ordered sizes chance chances w i (v ∷ rest) (omega arith) (IsState-drop sizes i v rest near below is))))

pub max_cases : (b : Bool) (x y : ℤ) → (cond b x y ≡ x) ⊎ (cond b x y ≡ y)
max_cases true x y = inl refl
max_cases false x y = inr refl

-- the greater of two gaps is one of them
gap_found : (r x y : ℤ) → int_max x y ≡ r → (int_eq r x || int_eq r y) ≡ true
gap_found r x y h =
    elim (max_cases (int_lt y x) x y) [
      | inl e ↦ ap (λ b. b || int_eq r y) (int_eq-holds r x (sym h ∙ e))
      | inr e ↦ or_right (int_eq r x) (int_eq r y) (int_eq-holds r y (sym h ∙ e))
    ]

-- the greater gap at s, and whether one of the two equals r
abbrev pub gap_at : Process → (List ℕ → ℤ) → List ℕ → ℤ
gap_at m w s = int_max (gap_above m w s) (gap_below m w s)

abbrev pub has_gap : Process → (List ℕ → ℤ) → ℤ → List ℕ → Bool
has_gap m w r s = int_eq r (gap_above m w s) || int_eq r (gap_below m w s)

module _ (m : Process) (valid : IsValid m) (w : List ℕ → ℤ) where
  return_ordered : (s : List ℕ) → IsState (sizes m) s → (a : Action) → Contains m.actions a → low_of m w a s ≤ℤ high_of m w a s
  return_ordered s is a offered =
      let e = expected_ordered (sizes m) (probability m a s) (chances_of m valid a offered s is) w (length m.vars) [] (omega (arith, length-sizes m))
      (IsState-none (sizes m) (length m.vars) (omega (arith, length-sizes m))) in
      let d = floor-≤ℤ-ceil _ _ (pos discount_one) (omega (arith, ints)) (*ℤ_mono_right (pos m.discount) _ _ (omega (arith, ints)) e) in
      omega (arith, ints, d)

  pub best_ordered : (s : List ℕ) → IsState (sizes m) s → best_low m w s ≤ℤ best_high m w s
  best_ordered s state =
      greatest_ordered (λ a. low_of m w a s) (λ a. high_of m w a s) m.actions
      (All-weaker (Contains m.actions) (λ a. low_of m w a s ≤ℤ high_of m w a s) (return_ordered s state) m.actions (All-contains_itself m.actions))

  module _ (r : ℤ) (is : r ≡ residual_of m w) (some : 0 < length (states (sizes m))) where
    -- where the residual is 0, no gap is left at the first state
    none_left : r ≡ pos 0 → gap_at m w (get_or (states (sizes m)) 0 []) ≡ r
    none_left zero_is =
        let s = get_or (states (sizes m)) 0 [] in
        let ordered = best_ordered s (IsState-get_or (sizes m) 0 (omega (arith, length-states (sizes m)))) in
        let bound = subst (λ x. x ≤ℤ r) (get_or-map (gap_at m w) (states (sizes m)) 0 [] (pos 0) some)
        ((fold-int_max_bounds (pos 0) (map (gap_at m w) (states (sizes m))) r is).1 0 (pos 0) (omega (arith, length-map (states (sizes m)) (gap_at m w)))) in
        omega (arith, ints, ordered, bound, int_max_is (gap_above m w s) (gap_below m w s))

    pub somewhere : (k : ℕ) × (k < length (states (sizes m))) × (gap_at m w (get_or (states (sizes m)) k []) ≡ r)
    somewhere =
        elim (fold-int_max_reached (pos 0) (map (gap_at m w) (states (sizes m))) r is) [
          | inl zero_is ↦ (0, some, none_left zero_is)
          | inr at ↦
              let near : at.0 < length (states (sizes m)) = omega (arith, at.1, length-map (states (sizes m)) (gap_at m w)) in
              (at.0, near, sym (get_or-map (gap_at m w) (states (sizes m)) at.0 [] r near) ∙ at.2)
        ]

    pub not_nowhere : All (λ s. has_gap m w r s ≡ false) (states (sizes m)) → ⊥
    not_nowhere none =
        let at = somewhere in
        let s = get_or (states (sizes m)) at.0 [] in
        false≢true (sym (none at.0 [] at.1) ∙ gap_found r (gap_above m w s) (gap_below m w s) at.2)

-- ---- the policy, and the gaps at each state

module _ (m : Process) (w : List ℕ → ℤ) where
  pub gap_at_most : (s : List ℕ) → IsState (sizes m) s → gap_at m w s ≤ℤ residual_of m w
  gap_at_most =
      All-table_of_back (λ x. x ≤ℤ residual_of m w) (sizes m) (gap_at m w) (fold-int_max_bounds (pos 0) (table_of (sizes m) (gap_at m w)) (residual_of m w) refl).1

  pub residual_nonnegative : pos 0 ≤ℤ residual_of m w
  residual_nonnegative = (fold-int_max_bounds (pos 0) (table_of (sizes m) (gap_at m w)) (residual_of m w) refl).0

  pub high_at_most : (a : Action) → Contains m.actions a → (s : List ℕ) → high_of m w a s ≤ℤ best_high m w s
  high_at_most a offered s =
      greatest_at_least (map (λ b. high_of m w b s) m.actions) (high_of m w a s) (Contains-map (λ b. high_of m w b s) m.actions a offered)

  module _ (some : 0 < length m.actions) where
    -- the policy's number has the greatest lower bound
    policy_reads : (s : List ℕ) → slice_get (map (λ a. low_of m w a s) m.actions) (policy_of m w s) ≡ Some (best_low m w s)
    policy_reads s =
        let lows = map (λ a. low_of m w a s) m.actions in
        first_place_reads (best_low m w s) lows (greatest_reached lows (omega (arith, length-map m.actions (λ a. low_of m w a s))))

    pub policy_low : (s : List ℕ) (a : Action) → slice_get m.actions (policy_of m w s) ≡ Some a → best_low m w s ≡ low_of m w a s
    policy_low s a chosen =
        let low : Action → ℤ = λ b. low_of m w b s in
        same_Some (best_low m w s) (low a) (sym (policy_reads s) ∙ slice_get-map low m.actions (policy_of m w s) ∙ ap (option_map low) chosen)

    pub policy_near : (s : List ℕ) → policy_of m w s < length m.actions
    policy_near s =
        let lows = map (λ a. low_of m w a s) m.actions in
        subst (λ n. policy_of m w s < n) (length-map m.actions (λ a. low_of m w a s)) (slice_get_within lows (policy_of m w s) (best_low m w s) (policy_reads s))
