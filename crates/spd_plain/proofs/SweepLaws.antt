-- What the ranges of a sweep are, place by place.
use Rattle.std.proofs.Common.{◌≡◌, ℕ, ◌^◌, ◌<◌, List, [], length, map, take, get_or, All, ℤ, pos, ◌-ℤ◌, ◌||◌, if◌then◌else◌, Bool, true, false, unwrap_or, ap, sym, ◌∙◌, arith}
use Rattle.std.specs.Ordering.{int_eq}
use Rattle.std.proofs.lemmas.Int.{ints}
use Rattle.std.proofs.lemmas.List.{get_or-map}
use Rattle.std.proofs.Math.ListN.{length-map}
use Rattle.std.proofs.lemmas.List.Elements.{All-weaker}
use Rattle.spd_scaled.proofs.CallerLemmas.Magnitude.{IsWithin_mono}
use Rattle.spd_model.specs.declared.Side.{Side}
use Rattle.spd_model.specs.declared.Side.TheVariants.{Above, Below}
use Rattle.spd_model.specs.Process.{Process}
use Rattle.spd_model.specs.States.{sizes, states, state_count, at}
use Rattle.spd_model.specs.Backup.{best_low, best_high, policy_of, highest_of}
use Rattle.spd_model.specs.Ranges.{Range}
use Rattle.spd_model.specs.Turns.{Place, place_of, gap_above, gap_below, ranges_of, state_of_residual, value_limit}
use Rattle.spd_model.proofs.CallerLemmas.Finds.{find_first}
use Rattle.spd_model.proofs.CallerLemmas.Gaps.{has_gap}
use Rattle.spd_model.proofs.CallerLemmas.StateOrder.{length-table_of, get_or-table_of, at-get_or}
use Rattle.spd_plain.specs.declared.ranges.Bounds.{Bounds}
use Rattle.spd_plain.specs.inner.Bounds.{range_of, AreSmallBounds}
use Rattle.spd_plain.specs.inner.Sweeps.{action_on, AreLimited}

-- the range of a state
abbrev pub range_at : Process → (List ℕ → ℤ) → List ℕ → Range
range_at m w s = record { low = best_low m w s; high = best_high m w s }

small : (b : Bounds) → AreLimited b → AreSmallBounds b
small b h = record { low = IsWithin_mono (pos value_limit) (pos (10 ^ 30)) b.low (omega (arith, ints)) h.low; high = IsWithin_mono (pos value_limit) (pos (10 ^ 30)) b.high (omega (arith, ints)) h.high }

pub all_small : (ranges : List Bounds) → All AreLimited ranges → All AreSmallBounds ranges
all_small ranges h = All-weaker AreLimited AreSmallBounds small ranges h

module _ (m : Process) (values : List ℤ) (ranges : List Bounds) (are : map range_of ranges ≡ ranges_of m (at (sizes m) values)) where
  pub length-ranges : length ranges ≡ state_count (sizes m)
  length-ranges = sym (length-map ranges range_of) ∙ ap length are ∙ length-table_of (sizes m) (range_at m (at (sizes m) values))

  range_here : (k : ℕ) (b d : Bounds) → k < state_count (sizes m) → b ≡ get_or ranges k d → range_of b ≡ range_at m (at (sizes m) values) (get_or (states (sizes m)) k [])
  range_here k b d near is =
      ap range_of is ∙ sym (get_or-map range_of ranges k d (range_of d) (omega (arith, length-ranges)))
      ∙ ap (λ (l : List Range). get_or l k (range_of d)) are ∙ get_or-table_of (sizes m) (range_at m (at (sizes m) values)) k (range_of d) near

  module _ (k : ℕ) (b d : Bounds) (near : k < state_count (sizes m)) (is : b ≡ get_or ranges k d) where
    pub above_here : b.high -ℤ get_or values k (pos 0) ≡ gap_above m (at (sizes m) values) (get_or (states (sizes m)) k [])
    above_here = λ i. (range_here k b d near is i).high -ℤ sym (at-get_or (sizes m) values k near) i

    below_here : get_or values k (pos 0) -ℤ b.low ≡ gap_below m (at (sizes m) values) (get_or (states (sizes m)) k [])
    below_here = λ i. sym (at-get_or (sizes m) values k near) i -ℤ (range_here k b d near is i).low

    -- the test of the two gaps at a place
    pub has_gap_is : (r : ℤ) → int_eq r (b.high -ℤ get_or values k (pos 0)) || int_eq r (get_or values k (pos 0) -ℤ b.low) ≡ has_gap m (at (sizes m) values) r (get_or (states (sizes m)) k [])
    has_gap_is r = λ i. int_eq r (above_here i) || int_eq r (below_here i)

pub state_of_residual_is : (m : Process) (w : List ℕ → ℤ) (r : ℤ) (k : ℕ) → k < length (states (sizes m)) → All (λ s. has_gap m w r s ≡ false) (take k (states (sizes m)))
    → has_gap m w r (get_or (states (sizes m)) k []) ≡ true → get_or (states (sizes m)) k [] ≡ state_of_residual m w r
state_of_residual_is m w r k near none here = sym (ap (λ o. unwrap_or o []) (find_first (has_gap m w r) (states (sizes m)) k [] near none here))

-- a place from its parts
abbrev pub placed : List ℕ → Side → ℕ → Place
placed s side action = record { state = s; side = side; action = action }

place_by : (m : Process) (w : List ℕ → ℤ) (b : Bool) (s : List ℕ) (side : Side) (action : ℕ) → side ≡ (if b then Above else Below) → action ≡ action_on side m w s
    → placed s side action ≡ (if b then placed s Above (highest_of m w s) else placed s Below (policy_of m w s))
place_by m w true s side action is_side is_action = λ i. placed s (is_side i) ((is_action ∙ ap (λ x. action_on x m w s) is_side) i)
place_by m w false s side action is_side is_action = λ i. placed s (is_side i) ((is_action ∙ ap (λ x. action_on x m w s) is_side) i)

pub place_is : (m : Process) (w : List ℕ → ℤ) (r : ℤ) (s : List ℕ) (side : Side) (action : ℕ) → s ≡ state_of_residual m w r
    → side ≡ (if int_eq r (gap_above m w s) then Above else Below) → action ≡ action_on side m w s → placed s side action ≡ place_of m w r
place_is m w r s side action is_state is_side is_action =
    place_by m w (int_eq r (gap_above m w s)) s side action is_side is_action
    ∙ ap (λ s. if int_eq r (gap_above m w s) then placed s Above (highest_of m w s) else placed s Below (policy_of m w s)) is_state
