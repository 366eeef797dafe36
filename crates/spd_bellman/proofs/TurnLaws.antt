-- How the residual shrinks from turn to turn, and how many turns are enough.
use Rattle.std.proofs.Common.{◌≡◌, ◌⊎◌, inl, inr, ℕ, zero, suc, ◌+◌, ◌-◌, ◌*◌, ◌^◌, ◌<◌, ◌≤◌, true, List, length, map, get_or, ℤ, pos, negsuc, unsigned_abs, ◌+ℤ◌, ◌-ℤ◌, ◌*ℤ◌, ◌≤ℤ◌, ◌<ℤ◌, int_le, refl, ap, sym, ◌∙◌, subst, subst₂, arith}
use Rattle.std.specs.Int.{int_max}
use Rattle.std.proofs.lemmas.Bool.{cases_lt, false≢true}
use Rattle.std.proofs.lemmas.Int.{ints, int_max_is, fold-int_max_reached}
use Rattle.std.proofs.lemmas.List.{get_or-map}
use Rattle.std.proofs.lemmas.List.Elements.{All-contains}
use Rattle.std.proofs.Math.Nat.{pow-zero, pow-suc, one-le-pow}
use Rattle.spd_scaled.specs.Scaled.{floor_div, ceil_div}
use Rattle.spd_scaled.proofs.CallerLemmas.Ring.{ring, int_lt-true, zero-*ℤ, *ℤ_comm, *ℤ_mono, *ℤ_mono_right, *ℤ_nonnegative, *ℤ_cancel_≤ℤ, int_le-holds}
use Rattle.spd_scaled.proofs.CallerLemmas.DivisionLaws.{floor_div_at_most, floor_div_next_above, ceil_div_at_least, ceil_div_last_below, ceil_div_greatest}
use Rattle.spd_model.specs.declared.Why.{Why}
use Rattle.spd_model.specs.declared.Why.TheVariants.{Done, Limit}
use Rattle.spd_model.specs.Process.{Process}
use Rattle.spd_model.specs.States.{sizes, IsState, table_of, at, rank}
use Rattle.spd_model.specs.Chances.{IsValid, discount_one}
use Rattle.spd_model.specs.Backup.{best_low, best_high}
use Rattle.spd_model.specs.Ranges.{Range, in_order, groups_of, value_in}
use Rattle.spd_model.specs.Turns.{ranges_of, turn, gap_above, gap_below, residual_of, rule_at, stop_of}
use Rattle.spd_model.proofs.CallerLemmas.Gaps.{gap_at, gap_at_most, best_ordered, residual_nonnegative}
use Rattle.spd_model.proofs.CallerLemmas.StateOrder.{All-table_of, get_or-states, rank_below, get_or-table_of, length-table_of}
use Rattle.spd_bellman.specs.TurnBound.{residual_at, added_by_turn, error_that_stays, error_allowed, is_enough, leaves_room}
use Rattle.spd_bellman.proofs.StopLaws.{is_first_stop}
use Rattle.spd_bellman.proofs.Merges.{IsMiddle, IsNarrow, merged_middle}
use Rattle.spd_bellman.proofs.Signs.{natural_nonnegative, discount_above}
use Rattle.spd_bellman.proofs.Changes.{floors_near, ceils_near, bounds_near, best_near}

-- ---- the residual is at most what bounds all gaps

residual_at_most : (m : Process) (w : List ℕ → ℤ) (c : ℤ) → pos 0 ≤ℤ c → ((s : List ℕ) → IsState (sizes m) s → gap_at m w s ≤ℤ c) → residual_of m w ≤ℤ c
residual_at_most m w c some h =
    elim (fold-int_max_reached (pos 0) (table_of (sizes m) (gap_at m w)) (residual_of m w) refl) [
      | inl none ↦ subst (λ r. r ≤ℤ c) (sym none) some
      | inr there ↦ All-contains (λ r. r ≤ℤ c) (table_of (sizes m) (gap_at m w)) (residual_of m w) (All-table_of (λ r. r ≤ℤ c) (sizes m) (gap_at m w) h) there
    ]

-- ---- one turn, at one state

-- l and h bound the best return where the value v follows; w is the value after v, and c the greatest width of a group. `half` is half of
-- the width, rounded up; l' and h' bound the best return where w follows, and q is how far they may have moved.
module _ (l h v w c r half : ℤ) (ordered : l ≤ℤ h) (below : (w +ℤ w) ≤ℤ (l +ℤ l +ℤ c)) (above : (h +ℤ h) ≤ℤ (w +ℤ w +ℤ c +ℤ pos 1))
    (rises : (h -ℤ v) ≤ℤ r) (falls : (v -ℤ l) ≤ℤ r) (half_is : (c +ℤ pos 1) <ℤ (half +ℤ half +ℤ pos 2)) where
  risen : w ≤ℤ (v +ℤ (r +ℤ half))
  risen = omega (arith, ints)

  fallen : v ≤ℤ (w +ℤ (r +ℤ half))
  fallen = omega (arith, ints)

  gap_above_next : (q h' : ℤ) → h' ≤ℤ (h +ℤ (q +ℤ pos 0)) → (h' -ℤ w) ≤ℤ (half +ℤ q)
  gap_above_next q h' moved = omega (arith, ints)

  gap_below_next : (q l' : ℤ) → l ≤ℤ (l' +ℤ (q +ℤ pos 0)) → (w -ℤ l') ≤ℤ (half +ℤ q)
  gap_below_next q l' moved = omega (arith, ints)

-- the gap of the next turn, in whole numbers: g is the discount in parts of d
shrinks_step : (d g r c half q next : ℤ) → pos 0 ≤ℤ g → g ≤ℤ d → pos 0 ≤ℤ c → (half +ℤ half) ≤ℤ (c +ℤ pos 1)
    → (q *ℤ d) <ℤ (g *ℤ (r +ℤ half) +ℤ d) → next ≤ℤ (half +ℤ q) → (d *ℤ next) ≤ℤ (g *ℤ r +ℤ d *ℤ (c +ℤ pos 2))
shrinks_step d g r c half q next some most wide halved moved h =
    let step = *ℤ_mono_right d next (half +ℤ q) (omega (arith, ints)) h in
    let halves = *ℤ_mono_right d (half +ℤ half) (c +ℤ pos 1) (omega (arith, ints)) halved in
    let others = *ℤ_mono_right g (half +ℤ half) (c +ℤ pos 1) some halved in
    let less = *ℤ_mono_right (c +ℤ pos 1) g d (omega (arith, ints)) most in
    let two : d *ℤ (c +ℤ pos 2) ≡ d *ℤ (c +ℤ pos 1) +ℤ d = simp ring (omega (arith, ints)) in
    let step' = simp ring at step in
    let halves' = simp ring at halves in
    let others' = simp ring at others in
    let less' = simp ring at less in
    let moved' = simp ring at moved in
    rw two (simp ring (omega (arith, ints)))

no_extra : (g c q d : ℤ) (n : ℕ) → (g *ℤ c) ≤ℤ (q *ℤ d) → (g *ℤ (c +ℤ pos (n * 0))) ≤ℤ (q *ℤ d)
no_extra g c q d n h = let e : c +ℤ pos (n * 0) ≡ c = omega (arith, ints) in rw e h

weighed_at_most : (g d x : ℤ) → pos 0 ≤ℤ x → g ≤ℤ d → (g *ℤ (pos 0 +ℤ x)) ≤ℤ (x *ℤ d)
weighed_at_most g d x some h =
    let e : pos 0 +ℤ x ≡ x = omega (arith, ints) in rw e (subst (λ y. y ≤ℤ (x *ℤ d)) (*ℤ_comm x g) (*ℤ_mono_right x g d some h))

at_itself : (x : ℤ) → x ≤ℤ (x +ℤ pos 0)
at_itself x = omega (arith, ints)

max_first : (x y : ℤ) → x ≤ℤ int_max x y
max_first x y = omega (arith, ints, int_max_is x y)

max_second : (x y : ℤ) → y ≤ℤ int_max x y
max_second x y = omega (arith, ints, int_max_is x y)

both_at_most : (x y c : ℤ) → x ≤ℤ c → y ≤ℤ c → int_max x y ≤ℤ c
both_at_most x y c h k = omega (arith, ints, int_max_is x y)

max_parts : (x y c : ℤ) → int_max x y ≤ℤ c → (x ≤ℤ c) × (y ≤ℤ c)
max_parts x y c h = (omega (arith, ints, int_max_is x y), omega (arith, ints, int_max_is x y))

two_above : pos 0 <ℤ pos 2
two_above = record { lt = tt }

halved_most : (x : ℤ) → (floor_div x (pos 2) +ℤ floor_div x (pos 2)) ≤ℤ x
halved_most x = let h = floor_div_at_most x (pos 2) two_above in omega (arith, ints)

halved_least : (x : ℤ) → x <ℤ (floor_div x (pos 2) +ℤ floor_div x (pos 2) +ℤ pos 2)
halved_least x = let h = floor_div_next_above x (pos 2) two_above in omega (arith, ints)

quotient_some : (n d : ℤ) → pos 0 <ℤ d → pos 0 ≤ℤ n → pos 0 ≤ℤ ceil_div n d
quotient_some n d above some = ceil_div_greatest n d (pos 0) above (let e = zero-*ℤ d in omega (arith, ints))

sum_some : (x y : ℤ) → pos 0 ≤ℤ x → pos 0 ≤ℤ y → pos 0 ≤ℤ (x +ℤ y)
sum_some x y h k = omega (arith, ints)

some_width : (span : ℤ) (n : ℕ) → pos 0 ≤ℤ int_max span (pos n)
some_width span n = let wide = max_second span (pos n) in omega (arith, ints)

-- ---- from a value to the next turn's

module _ (m : Process) (valid : IsValid m) (most : m.discount ≤ discount_one) (span : ℤ) (w : List ℕ → ℤ) where
  -- the greatest width of a group
  abbrev width : ℤ
  width = int_max span (pos (2 * length m.vars + 2))

  abbrev roundings : ℤ
  roundings = pos (length m.vars * 2)

  abbrev range_at : List ℕ → Range
  range_at s = record { low = best_low m w s; high = best_high m w s }

  abbrev next_value : List ℕ → ℤ
  next_value = at (sizes m) (map (value_in (groups_of span (in_order (ranges_of m w)))) (ranges_of m w))

  narrow_at : (s : List ℕ) → IsState (sizes m) s → IsNarrow width (range_at s)
  narrow_at s is =
      let apart : best_high m w s ≤ℤ (best_low m w s +ℤ (roundings +ℤ pos 2)) =
      best_near m valid _ _ 2 bounds_near w w (pos 0) roundings (λ t there. at_itself (w t))
      (weighed_at_most (pos m.discount) (pos discount_one) roundings (natural_nonnegative (length m.vars * 2)) (omega (arith, ints))) (natural_nonnegative (length m.vars * 2)) s is in
      let wide = max_second span (pos (2 * length m.vars + 2)) in
      omega (arith, ints, apart, wide)

  range_is : (s : List ℕ) → IsState (sizes m) s → (d : Range) → get_or (ranges_of m w) (rank (sizes m) s) d ≡ range_at s
  range_is s is d = get_or-table_of (sizes m) range_at (rank (sizes m) s) d (rank_below (sizes m) s is) ∙ ap range_at (get_or-states (sizes m) s is)

  next_middle : (s : List ℕ) → IsState (sizes m) s → IsMiddle width (range_at s) (next_value s)
  next_middle s is =
      let k = rank (sizes m) s in
      let d = range_at s in
      let value = value_in (groups_of span (in_order (ranges_of m w))) in
      let near : k < length (ranges_of m w) = omega (arith, rank_below (sizes m) s is, length-table_of (sizes m) range_at) in
      let read : next_value s ≡ value (range_at s) = get_or-map value (ranges_of m w) k d (pos 0) near ∙ ap value (range_is s is d) in
      subst (λ x. IsMiddle width (range_at s) x) (sym read)
      (subst (λ p. IsMiddle width p (value p)) (range_is s is d)
      (merged_middle span width (max_first span (pos (2 * length m.vars + 2))) (ranges_of m w) k d near (All-table_of (IsNarrow width) (sizes m) range_at narrow_at)))

  width_some : pos 0 ≤ℤ width
  width_some = some_width span (2 * length m.vars + 2)

  abbrev half : ℤ
  half = floor_div (width +ℤ pos 1) (pos 2)

  abbrev residual : ℤ
  residual = residual_of m w

  abbrev moved : ℤ
  moved = ceil_div (pos m.discount *ℤ (residual +ℤ half)) (pos discount_one)

  -- half of the width, rounded up
  half_most : (half +ℤ half) ≤ℤ (width +ℤ pos 1)
  half_most = halved_most (width +ℤ pos 1)

  half_least : (width +ℤ pos 1) <ℤ (half +ℤ half +ℤ pos 2)
  half_least = halved_least (width +ℤ pos 1)

  half_some : pos 0 ≤ℤ half
  half_some = let some = width_some in let least = half_least in omega (arith, ints)

  moved_fits : (pos m.discount *ℤ (residual +ℤ half +ℤ pos (length m.vars * 0))) ≤ℤ (moved *ℤ pos discount_one)
  moved_fits =
      no_extra (pos m.discount) (residual +ℤ half) moved (pos discount_one) (length m.vars)
      (ceil_div_at_least (pos m.discount *ℤ (residual +ℤ half)) (pos discount_one) discount_above)

  moved_some : pos 0 ≤ℤ moved
  moved_some =
      quotient_some (pos m.discount *ℤ (residual +ℤ half)) (pos discount_one) discount_above
      (*ℤ_nonnegative (pos m.discount) (residual +ℤ half) (natural_nonnegative m.discount)
      (sum_some residual half (residual_nonnegative m w) half_some))

  module _ (s : List ℕ) (is : IsState (sizes m) s) where
    gaps : (gap_above m w s ≤ℤ residual) × (gap_below m w s ≤ℤ residual)
    gaps = max_parts (gap_above m w s) (gap_below m w s) residual (gap_at_most m w s is)

    value_risen : next_value s ≤ℤ (w s +ℤ (residual +ℤ half))
    value_risen =
        risen (best_low m w s) (best_high m w s) (w s) (next_value s) width residual half (best_ordered m valid w s is)
        (next_middle s is).below (next_middle s is).above gaps.0 gaps.1 half_least

    value_fallen : w s ≤ℤ (next_value s +ℤ (residual +ℤ half))
    value_fallen =
        fallen (best_low m w s) (best_high m w s) (w s) (next_value s) width residual half (best_ordered m valid w s is)
        (next_middle s is).below (next_middle s is).above gaps.0 gaps.1 half_least

  high_moved : (s : List ℕ) → IsState (sizes m) s → best_high m next_value s ≤ℤ (best_high m w s +ℤ (moved +ℤ pos 0))
  high_moved s is = best_near m valid _ _ 0 ceils_near next_value w (residual +ℤ half) moved value_risen moved_fits moved_some s is

  low_moved : (s : List ℕ) → IsState (sizes m) s → best_low m w s ≤ℤ (best_low m next_value s +ℤ (moved +ℤ pos 0))
  low_moved s is = best_near m valid _ _ 0 floors_near w next_value (residual +ℤ half) moved value_fallen moved_fits moved_some s is

  next_gap : (s : List ℕ) → IsState (sizes m) s → gap_at m next_value s ≤ℤ (half +ℤ moved)
  next_gap s is =
      both_at_most (gap_above m next_value s) (gap_below m next_value s) (half +ℤ moved)
      (gap_above_next (best_low m w s) (best_high m w s) (w s) (next_value s) width residual half (best_ordered m valid w s is)
      (next_middle s is).below (next_middle s is).above (gaps s is).0 (gaps s is).1 half_least moved (best_high m next_value s)
      (high_moved s is))
      (gap_below_next (best_low m w s) (best_high m w s) (w s) (next_value s) width residual half (best_ordered m valid w s is)
      (next_middle s is).below (next_middle s is).above (gaps s is).0 (gaps s is).1 half_least moved (best_low m next_value s)
      (low_moved s is))

  pub shrinks : (pos discount_one *ℤ residual_of m next_value) ≤ℤ (pos m.discount *ℤ residual_of m w +ℤ pos discount_one *ℤ (width +ℤ pos 2))
  shrinks =
      shrinks_step (pos discount_one) (pos m.discount) residual width half moved (residual_of m next_value) (natural_nonnegative m.discount) (omega (arith, ints))
      width_some half_most (ceil_div_last_below (pos m.discount *ℤ (residual +ℤ half)) (pos discount_one) discount_above)
      (residual_at_most m next_value (half +ℤ moved) (sum_some half moved half_some moved_some) next_gap)

-- ---- turn after turn

-- p and q are d and g to the power of the turn's number, and e is one minus the discount, in parts of d
bound_step : (d g e p q first here next w : ℤ) → d ≡ g +ℤ e → pos 0 ≤ℤ g → pos 0 ≤ℤ (e *ℤ p)
    → ((e *ℤ p) *ℤ here) ≤ℤ ((e *ℤ q) *ℤ first +ℤ (p *ℤ d) *ℤ w) → (d *ℤ next) ≤ℤ (g *ℤ here +ℤ d *ℤ w)
    → ((e *ℤ (p *ℤ d)) *ℤ next) ≤ℤ ((e *ℤ (q *ℤ g)) *ℤ first +ℤ ((p *ℤ d) *ℤ d) *ℤ w)
bound_step d g e p q first here next w is some weight before step =
    let k = *ℤ_mono_right (e *ℤ p) _ _ weight step in
    let h = *ℤ_mono_right g _ _ some before in
    let k' = simp ring at (rw is at k) in
    let h' = simp ring at (rw is at h) in
    rw is (simp ring (omega (arith, ints)))

begun : (e r d w : ℤ) → pos 0 ≤ℤ d → pos 0 ≤ℤ w → ((e *ℤ pos 1) *ℤ r) ≤ℤ ((e *ℤ pos 1) *ℤ r +ℤ (pos 1 *ℤ d) *ℤ w)
begun e r d w some more = let added = *ℤ_nonnegative d w some more in simp ring (omega (arith, ints))

*ℤ_positive : (x y : ℤ) → pos 0 <ℤ x → pos 0 <ℤ y → pos 0 <ℤ (x *ℤ y)
*ℤ_positive x y h k = let least = *ℤ_mono (pos 1) x y (omega (arith, ints)) (omega (arith, ints)) in omega (arith, ints)

-- with a discount of one or more no turn is enough; t is 2
none_enough : (t d e p q first w n tolerance : ℤ) → e ≡ pos 0 → pos 0 <ℤ t → pos 0 <ℤ d → pos 0 <ℤ p → pos 0 <ℤ w
    → (t *ℤ d *ℤ e *ℤ q *ℤ first +ℤ p *ℤ (t *ℤ d *ℤ d *ℤ w +ℤ t *ℤ d *ℤ e *ℤ n)) ≤ℤ (p *ℤ (tolerance *ℤ (e *ℤ e))) → ⊥
none_enough t d e p q first w n tolerance none two one power some h =
    let left = *ℤ_positive p _ power (*ℤ_positive t _ two (*ℤ_positive d _ one (*ℤ_positive d w one some))) in
    let h' = simp ring at (rw none at h) in
    let left' = simp ring at left in
    omega (arith, ints)

-- the rule holds at a turn that is enough
enough_step : (t d e p q first here w n tolerance : ℤ) → pos 0 ≤ℤ t → pos 0 ≤ℤ d → pos 0 <ℤ e → pos 0 <ℤ p → pos 0 ≤ℤ n
    → ((e *ℤ p) *ℤ here) ≤ℤ ((e *ℤ q) *ℤ first +ℤ (p *ℤ d) *ℤ w)
    → (t *ℤ d *ℤ e *ℤ q *ℤ first +ℤ p *ℤ (t *ℤ d *ℤ d *ℤ w +ℤ t *ℤ d *ℤ e *ℤ n)) ≤ℤ (p *ℤ (tolerance *ℤ (e *ℤ e)))
    → (t *ℤ here *ℤ d) ≤ℤ (tolerance *ℤ e)
enough_step t d e p q first here w n tolerance two one rest power many before h =
    let weight = *ℤ_nonnegative t d two one in
    let k = *ℤ_mono_right (t *ℤ d) _ _ weight before in
    let left = *ℤ_nonnegative p _ (omega (arith, ints)) (*ℤ_nonnegative (t *ℤ d) _ weight (*ℤ_nonnegative e n (omega (arith, ints)) many)) in
    let scale = *ℤ_positive e p rest power in
    *ℤ_cancel_≤ℤ (t *ℤ here *ℤ d) (tolerance *ℤ e) (e *ℤ p) scale
    (let k' = simp ring at k in let h' = simp ring at h in let left' = simp ring at left in simp ring (omega (arith, ints)))

le_true : (x y : ℤ) → int_le x y ≡ true → x ≤ℤ y
le_true x y h = grind (arith, ints)

power_positive : (n k : ℕ) → 0 < n → pos 0 <ℤ pos (n ^ k)
power_positive n k some = let power : 1 ≤ n ^ k = one-le-pow k n some in omega (arith, ints)

-- a power of g falls behind that of d: e is their difference, and p and q are the k-th powers
falls_step : (d g e p q k : ℤ) → d ≡ g +ℤ e → pos 0 ≤ℤ g → pos 0 ≤ℤ e → pos 0 ≤ℤ q → pos 0 ≤ℤ k → ((k *ℤ e +ℤ g) *ℤ q) ≤ℤ (g *ℤ p)
    → (((k +ℤ pos 1) *ℤ e +ℤ g) *ℤ (q *ℤ g)) ≤ℤ (g *ℤ (p *ℤ d))
falls_step d g e p q k is some rest power many h =
    let more = *ℤ_mono_right d _ _ (omega (arith, ints)) h in
    let left = *ℤ_nonnegative q _ power (*ℤ_nonnegative k _ many (*ℤ_nonnegative e e rest rest)) in
    let more' = simp ring at (rw is at more) in
    let left' = simp ring at left in
    rw is (simp ring (omega (arith, ints)))

-- so the first residual's share is at most one part where k is 2 * d * d times that residual
share_step : (t d g e p q first allowed stays : ℤ) → d ≡ g +ℤ e → pos 0 ≤ℤ g → pos 0 ≤ℤ e → pos 0 <ℤ d → pos 0 ≤ℤ p → pos 0 ≤ℤ q
    → stays <ℤ allowed → (((t *ℤ d *ℤ d *ℤ first) *ℤ e +ℤ g) *ℤ q) ≤ℤ (g *ℤ p)
    → (t *ℤ d *ℤ e *ℤ q *ℤ first +ℤ p *ℤ stays) ≤ℤ (p *ℤ allowed)
share_step t d g e p q first allowed stays is some rest one power power' room h =
    let drop = *ℤ_nonnegative g q some power' in
    let more = *ℤ_nonnegative e p rest power in
    let share : (t *ℤ d *ℤ e *ℤ q *ℤ first) ≤ℤ p =
    *ℤ_cancel_≤ℤ (t *ℤ d *ℤ e *ℤ q *ℤ first) p d one
    (let h' = simp ring at h in let e' : p *ℤ d ≡ g *ℤ p +ℤ e *ℤ p = rw is (simp ring) in rw e' (simp ring (omega (arith, ints)))) in
    let rise = *ℤ_mono_right p (stays +ℤ pos 1) allowed power (omega (arith, ints)) in
    let rise' = simp ring at rise in
    omega (arith, ints)

-- nor is there room
no_room : (t d e w n tolerance : ℤ) → e ≡ pos 0 → pos 0 <ℤ t → pos 0 <ℤ d → pos 0 <ℤ w
    → (t *ℤ d *ℤ d *ℤ w +ℤ t *ℤ d *ℤ e *ℤ n) <ℤ (tolerance *ℤ (e *ℤ e)) → ⊥
no_room t d e w n tolerance none two one some h =
    let left = *ℤ_positive t _ two (*ℤ_positive d _ one (*ℤ_positive d w one some)) in
    let h' = simp ring at (rw none at h) in
    omega (arith, ints)

natural_of : (x : ℤ) → pos 0 ≤ℤ x → x ≡ pos (unsigned_abs x)
natural_of (pos x) h = refl
natural_of (negsuc x) h = absurd h.le

falls_begun : (e g : ℤ) → pos 0 ≤ℤ g → ((pos 0 *ℤ e +ℤ g) *ℤ pos 1) ≤ℤ (g *ℤ pos 1)
falls_begun e g some = simp ring (omega (arith, ints))

reasons : (why : Why) → (why ≡ Done) ⊎ (why ≡ Limit)
reasons Done = inl refl
reasons Limit = inr refl

module _ (m : Process) (valid : IsValid m) (span : ℤ) where
  abbrev rest : ℤ
  rest = pos (discount_one - m.discount)

  abbrev added : ℤ
  added = added_by_turn m span

  abbrev first : ℤ
  first = residual_at m span 0

  added_some : pos 0 <ℤ added
  added_some = let some = some_width span (2 * length m.vars + 2) in omega (arith, ints)

  -- the residual `here` is at most the first one and what all turns may add, where p and q are one and the discount to the turn's power
  abbrev IsShrunk : ℤ → ℤ → ℤ → Type 0
  IsShrunk p q here = ((rest *ℤ p) *ℤ here) ≤ℤ ((rest *ℤ q) *ℤ first +ℤ (p *ℤ pos discount_one) *ℤ added)

  weight_some : (k : ℕ) → pos 0 ≤ℤ (rest *ℤ pos (discount_one ^ k))
  weight_some k = *ℤ_nonnegative rest (pos (discount_one ^ k)) (natural_nonnegative (discount_one - m.discount)) (natural_nonnegative (discount_one ^ k))

  shrunk : m.discount ≤ discount_one → (k : ℕ) → IsShrunk (pos (discount_one ^ k)) (pos (m.discount ^ k)) (residual_at m span k)
  shrunk most zero =
      subst₂ (λ p q. IsShrunk p q first) (sym (ap pos (pow-zero discount_one))) (sym (ap pos (pow-zero m.discount)))
      (begun rest first (pos discount_one) added (natural_nonnegative discount_one) (omega (arith, ints, added_some)))
  shrunk most (suc k) =
      subst₂ (λ p q. IsShrunk p q (residual_at m span (suc k))) (sym (ap pos (pow-suc discount_one k))) (sym (ap pos (pow-suc m.discount k)))
      (bound_step (pos discount_one) (pos m.discount) rest (pos (discount_one ^ k)) (pos (m.discount ^ k)) first (residual_at m span k)
      (residual_at m span (suc k)) added (omega (arith, ints)) (natural_nonnegative m.discount) (weight_some k) (shrunk most k)
      (shrinks m valid most span (at (sizes m) (turn m span k))))

  pub enough_holds : (k : ℕ) → is_enough m span k ≡ true → rule_at m span k ≡ true
  enough_holds k h =
      let p = pos (discount_one ^ k) in
      let q = pos (m.discount ^ k) in
      let n = pos (length m.vars + 1) in
      let power = power_positive discount_one k (omega arith) in
      let holds = le_true _ _ h in
      elim (cases_lt m.discount discount_one) [
        | inl less ↦ int_le-holds _ _
            (enough_step (pos 2) (pos discount_one) rest p q first (residual_at m span k) added n m.tolerance (natural_nonnegative 2) (natural_nonnegative discount_one)
            (omega (arith, ints)) power (natural_nonnegative (length m.vars + 1)) (shrunk (omega arith) k) holds)
        | inr more ↦ absurd
            (none_enough (pos 2) (pos discount_one) rest p q first added n m.tolerance (omega (arith, ints)) two_above discount_above power added_some holds)
      ]

  pub enough_stops : (k turns : ℕ) → is_enough m span k ≡ true → (stop_of m turns span).turn ≤ k
  enough_stops k turns h =
      let stop = is_first_stop (rule_at m span) turns in
      elim (cases_lt k (stop_of m turns span).turn) [
        | inl before ↦ absurd (false≢true (sym (stop.first k before) ∙ enough_holds k h))
        | inr there ↦ there
      ]

  pub enough_done : (k turns : ℕ) → is_enough m span k ≡ true → k ≤ turns → (stop_of m turns span).why ≡ Done
  enough_done k turns h within =
      let stop = is_first_stop (rule_at m span) turns in
      elim (reasons (stop_of m turns span).why) [
        | inl done ↦ done
        | inr limit ↦
            let at_limit = stop.limit limit in
            let last : (stop_of m turns span).turn ≡ k = omega (arith, at_limit.0, enough_stops k turns h) in
            absurd (false≢true (sym at_limit.1 ∙ ap (rule_at m span) last ∙ enough_holds k h))
      ]

  discount_falls : m.discount ≤ discount_one → (k : ℕ)
      → ((pos k *ℤ rest +ℤ pos m.discount) *ℤ pos (m.discount ^ k)) ≤ℤ (pos m.discount *ℤ pos (discount_one ^ k))
  discount_falls most zero =
      subst₂ (λ p q. ((pos 0 *ℤ rest +ℤ pos m.discount) *ℤ q) ≤ℤ (pos m.discount *ℤ p)) (sym (ap pos (pow-zero discount_one)))
      (sym (ap pos (pow-zero m.discount)))
      (falls_begun rest (pos m.discount) (natural_nonnegative m.discount))
  discount_falls most (suc k) =
      let one_more : pos k +ℤ pos 1 ≡ pos (suc k) = omega (arith, ints) in
      subst (λ n. ((n *ℤ rest +ℤ pos m.discount) *ℤ pos (m.discount ^ suc k)) ≤ℤ (pos m.discount *ℤ pos (discount_one ^ suc k))) one_more
      (subst₂ (λ p q. (((pos k +ℤ pos 1) *ℤ rest +ℤ pos m.discount) *ℤ q) ≤ℤ (pos m.discount *ℤ p)) (sym (ap pos (pow-suc discount_one k)))
      (sym (ap pos (pow-suc m.discount k)))
      (falls_step (pos discount_one) (pos m.discount) rest (pos (discount_one ^ k)) (pos (m.discount ^ k)) (pos k) (omega (arith, ints))
      (natural_nonnegative m.discount) (natural_nonnegative (discount_one - m.discount)) (natural_nonnegative (m.discount ^ k)) (natural_nonnegative k) (discount_falls most k)))

  pub some_enough : leaves_room m span ≡ true → (k : ℕ) × (is_enough m span k ≡ true)
  some_enough h =
      let room = int_lt-true (error_that_stays m span) (error_allowed m) h in
      let times = unsigned_abs first in
      let k = 2 * discount_one * discount_one * times in
      let p = pos (discount_one ^ k) in
      let q = pos (m.discount ^ k) in
      let is : first ≡ pos times = natural_of first (residual_nonnegative m (at (sizes m) (turn m span 0))) in
      elim (cases_lt m.discount discount_one) [
        | inl less ↦ (
          k,
          int_le-holds _ _
              (share_step (pos 2) (pos discount_one) (pos m.discount) rest p q first (error_allowed m) (error_that_stays m span) (omega (arith, ints))
              (natural_nonnegative m.discount) (natural_nonnegative (discount_one - m.discount)) discount_above (natural_nonnegative (discount_one ^ k)) (natural_nonnegative (m.discount ^ k)) room
              (subst (λ x. ((pos 2 *ℤ pos discount_one *ℤ pos discount_one *ℤ x *ℤ rest +ℤ pos m.discount) *ℤ q) ≤ℤ (pos m.discount *ℤ p)) (sym is)
              (discount_falls (omega arith) k))),
        )
        | inr more ↦ absurd
            (no_room (pos 2) (pos discount_one) rest added (pos (length m.vars + 1)) m.tolerance (omega (arith, ints)) two_above discount_above added_some room)
      ]
