-- No value of any turn passes its greatest magnitude, for any number of variables.
use Rattle.std.proofs.Common.{◌≡◌, inl, inr, ℕ, zero, suc, ◌+◌, ◌*◌, ◌<◌, ◌≤◌, Bool, true, false, if◌then◌else◌, List, [], ◌∷◌, length, map, fold, drop, get_or, slice_index, All, Contains, ℤ, pos, ◌+ℤ◌, ◌-ℤ◌, ◌*ℤ◌, ◌≤ℤ◌, ◌<ℤ◌, int_le, ◌^◌, ap, sym, ◌∙◌, subst, arith}
use Rattle.std.specs.Int.{int_max}
use Rattle.std.specs.List.{list_any}
use Rattle.std.proofs.lemmas.Bool.{cases_lt}
use Rattle.std.proofs.lemmas.Int.{ints}
use Rattle.std.proofs.lemmas.List.{get_or_past}
use Rattle.std.proofs.lemmas.List.Elements.{All-nil, All-cons, All-head, All-tail, All-map, All-contains_itself, All-weaker}
use Rattle.std.proofs.Math.ListN.{length-map}
use Rattle.spd_scaled.specs.Scaled.{IsWithin, floor_div, ceil_div}
use Rattle.spd_scaled.proofs.CallerLemmas.Ring.{*ℤ_comm, *ℤ_mono}
use Rattle.spd_scaled.proofs.CallerLemmas.DivisionLaws.{IsWithin-floor_div, IsWithin-ceil_div}
use Rattle.spd_scaled.proofs.CallerLemmas.Magnitude.{IsWithin_zero, IsWithin_mono, IsWithin-*ℤ, IsWithin-from_abs, IsWithin-+ℤ}
use Rattle.spd_model.specs.declared.process.Action.{Action}
use Rattle.spd_model.specs.Process.{Process}
use Rattle.spd_model.specs.Lawful.{IsLawful}
use Rattle.spd_model.specs.Numbers.{sum_below, greatest}
use Rattle.spd_model.specs.States.{sizes, table_of, at, rank, IsState}
use Rattle.spd_model.specs.Chances.{one, discount_one, probability, reward_of, reward_limit, IsValid}
use Rattle.spd_model.specs.Backup.{Rounding, expected_by, expectation, return_of, best_low, best_high}
use Rattle.spd_model.specs.Ranges.{Range, is_same, is_before, with_range, in_order, Group, group_of, joined, groups_from, groups_of, middle_of, value_in, merged}
use Rattle.spd_model.specs.Turns.{start_of, ranges_of, turn, value_limit, IsBounded, gap_above, gap_below, residual_of}
use Rattle.spd_model.proofs.CallerLemmas.Sums.{sum_below_within}
use Rattle.spd_model.proofs.CallerLemmas.Greatest.{max_within, fold-int_max_within, greatest_within}
use Rattle.spd_model.proofs.CallerLemmas.StateOrder.{All-table_of, IsState-drop, IsState-none, length-sizes}
use Rattle.spd_model.proofs.CallerLemmas.Chances.{Chance, AreChances, chances_of}

-- what is within the limit
abbrev pub IsLimited : ℤ → Type 0
IsLimited x = IsWithin (pos value_limit) x

pub limited_zero : IsLimited (pos 0)
limited_zero = IsWithin_zero (pos value_limit) (omega (arith, ints))

-- ---- returns

-- a rounding that keeps magnitudes
pub record KeepsWithin (round : Rounding) : Type 0 where
  pub keeps : (n d c : ℤ) → pos 0 <ℤ d → IsWithin (c *ℤ d) n → IsWithin c (round n d)

pub floor_keeps : KeepsWithin floor_div
floor_keeps = record { keeps = λ n d c p h. IsWithin-floor_div n d c p h }

pub ceil_keeps : KeepsWithin ceil_div
ceil_keeps = record { keeps = λ n d c p h. IsWithin-ceil_div n d c p h }

-- the greatest magnitude of a discounted value
abbrev pub discounted_limit : ℕ
discounted_limit = 999999 * (10 ^ 18 + 1)

module _ (round : Rounding) (k : KeepsWithin round) where
  pub rounded_within : (sum : ℤ) → IsWithin (pos value_limit *ℤ one) sum → IsLimited (round sum one)
  rounded_within sum h = k.keeps sum one (pos value_limit) (omega (arith, ints)) h

  -- a weighted sum of limited values, by chances that sum to one, is within one times the limit
  pub weighted_within : (n : ℕ) (c w : ℕ → ℤ) → ((v : ℕ) → v < n → pos 0 ≤ℤ c v) → sum_below n c ≡ one → ((v : ℕ) → v < n → IsLimited (w v))
      → IsWithin (pos value_limit *ℤ one) (sum_below n (λ v. c v *ℤ w v))
  weighted_within n c w nonnegative whole limited =
      subst (λ x. IsWithin x (sum_below n (λ v. c v *ℤ w v))) (ap (λ x. x *ℤ pos value_limit) whole ∙ *ℤ_comm one (pos value_limit))
      (sum_below_within c w (pos value_limit) n nonnegative limited)

  -- a rounded expectation of limited values is limited
  pub expected_limited : (sizes : List ℕ) (chance : Chance) → AreChances sizes chance → (w : List ℕ → ℤ) → IsBounded sizes w
      → (n : ℕ) (rest : List ℕ) → n ≤ length sizes → IsState (drop n sizes) rest → IsLimited (expected_by round (slice_index sizes) chance w n rest)
  expected_limited sizes chance chances w bounded zero rest near is = bounded rest is
  expected_limited sizes chance chances w bounded (suc i) rest near is =
      rounded_within _ (weighted_within (slice_index sizes i) (λ v. chance i v rest) (λ v. expected_by round (slice_index sizes) chance w i (v ∷ rest))
      (λ v below. chances.nonnegative i v rest near below is) (chances.whole i rest near is)
      (λ v below. expected_limited sizes chance chances w bounded i (v ∷ rest) (omega arith) (IsState-drop sizes i v rest near below is)))

  pub product_within : (g : ℕ) (e : ℤ) → g ≤ 999999 → IsLimited e → IsWithin (pos discounted_limit *ℤ pos discount_one) (pos g *ℤ e)
  product_within g e p h =
      IsWithin_mono (pos g *ℤ pos value_limit) (pos discounted_limit *ℤ pos discount_one) _
      (*ℤ_mono (pos g) (pos 999999) (pos value_limit) (omega (arith, ints)) (omega (arith, ints)))
      (IsWithin-*ℤ (pos g) (pos value_limit) e (omega (arith, ints)) h)

  pub return_within : (reward : ℤ) (g : ℕ) (e : ℤ) → IsWithin (pos reward_limit) reward → g ≤ 999999 → IsLimited e
      → IsLimited (reward +ℤ round (pos g *ℤ e) (pos discount_one))
  return_within reward g e r p h =
      IsWithin_mono (pos reward_limit +ℤ pos discounted_limit) (pos value_limit) _ (omega (arith, ints))
      (IsWithin-+ℤ (pos reward_limit) (pos discounted_limit) reward _ r
      (k.keeps (pos g *ℤ e) (pos discount_one) (pos discounted_limit) (omega (arith, ints)) (product_within g e p h)))

module _ (m : Process) (law : IsLawful m) (valid : IsValid m) where
  -- a return where limited values follow
  pub return_limited : (round : Rounding) (k : KeepsWithin round) (w : List ℕ → ℤ) → IsBounded (sizes m) w
      → (a : Action) → Contains m.actions a → IsBounded (sizes m) (return_of round m (expectation round m w) a)
  return_limited round k w bounded a offered s is =
      return_within round k (reward_of m a s) m.discount _ (IsWithin-from_abs reward_limit _ (valid.rewards a offered s is)) law.discount
      (expected_limited round k (sizes m) (probability m a s) (chances_of m valid a offered s is) w bounded (length m.vars) [] (omega (arith, length-sizes m))
      (IsState-none (sizes m) (length m.vars) (omega (arith, length-sizes m))))

  best_limited : (f : Action → List ℕ → ℤ) → ((a : Action) → Contains m.actions a → IsBounded (sizes m) (f a))
      → IsBounded (sizes m) (λ s. greatest (map (λ a. f a s) m.actions))
  best_limited f bounded s is =
      greatest_within (pos value_limit) _ (omega (arith, length-map m.actions (λ a. f a s), law.some_actions))
      (All-map IsLimited (λ a. f a s) m.actions
      (All-weaker (Contains m.actions) (λ a. IsLimited (f a s)) (λ a offered. bounded a offered s is) m.actions (All-contains_itself m.actions)))

  pub best_low_limited : (w : List ℕ → ℤ) → IsBounded (sizes m) w → IsBounded (sizes m) (best_low m w)
  best_low_limited w bounded = best_limited (return_of floor_div m (expectation floor_div m w)) (return_limited floor_div floor_keeps w bounded)

  pub best_high_limited : (w : List ℕ → ℤ) → IsBounded (sizes m) w → IsBounded (sizes m) (best_high m w)
  best_high_limited w bounded = best_limited (return_of ceil_div m (expectation ceil_div m w)) (return_limited ceil_div ceil_keeps w bounded)

-- ---- merging

pub record IsLimitedRange (r : Range) : Type 0 where
  pub low : IsLimited r.low
  pub high : IsLimited r.high

record IsLimitedGroup (g : Group) : Type 0 where
  low : IsLimited g.low
  high : IsLimited g.high

if_all : {X : Type 0} (P : X → Type 0) (b : Bool) (xs ys : List X) → All P xs → All P ys → All P (if b then xs else ys)
if_all P true xs ys h k = h
if_all P false xs ys h k = k

with_range_limited : (ranges : List Range) (r : Range) → All IsLimitedRange ranges → IsLimitedRange r → All IsLimitedRange (with_range ranges r)
with_range_limited [] r h k = All-cons IsLimitedRange r [] k (All-nil IsLimitedRange)
with_range_limited (q ∷ ranges) r h k =
    if_all IsLimitedRange (is_same r q) (q ∷ ranges) (if is_before r q then r ∷ q ∷ ranges else q ∷ with_range ranges r) h
    (if_all IsLimitedRange (is_before r q) (r ∷ q ∷ ranges) (q ∷ with_range ranges r) (All-cons IsLimitedRange r (q ∷ ranges) k h)
    (All-cons IsLimitedRange q (with_range ranges r) (All-head IsLimitedRange q ranges h) (with_range_limited ranges r (All-tail IsLimitedRange q ranges h) k)))

in_order_limited : (before ranges : List Range) → All IsLimitedRange before → All IsLimitedRange ranges → All IsLimitedRange (fold with_range before ranges)
in_order_limited before [] h k = h
in_order_limited before (r ∷ ranges) h k =
    in_order_limited (with_range before r) ranges (with_range_limited before r h (All-head IsLimitedRange r ranges k)) (All-tail IsLimitedRange r ranges k)

choice_all : (P : Group → Type 0) (b : Bool) (xs ys : List Group) → All P xs → All P ys → All P (elim b [ true ↦ xs | false ↦ ys ])
choice_all P true xs ys h k = h
choice_all P false xs ys h k = k

groups_from_limited : (span : ℤ) (g : Group) (ranges : List Range) → IsLimitedGroup g → All IsLimitedRange ranges → All IsLimitedGroup (groups_from span g ranges)
groups_from_limited span g [] h k = All-cons IsLimitedGroup g [] h (All-nil IsLimitedGroup)
groups_from_limited span g (r ∷ ranges) h k =
    let own = All-head IsLimitedRange r ranges k in
    let rest = All-tail IsLimitedRange r ranges k in
    choice_all IsLimitedGroup (int_le (joined g r).high (g.low +ℤ span)) (groups_from span (joined g r) ranges) (g ∷ groups_from span (group_of r) ranges)
    (groups_from_limited span (joined g r) ranges (record { low = h.low; high = max_within (pos value_limit) g.high r.high h.high own.high }) rest)
    (All-cons IsLimitedGroup g (groups_from span (group_of r) ranges) h (groups_from_limited span (group_of r) ranges (record { low = own.low; high = own.high }) rest))

groups_of_limited : (span : ℤ) (ranges : List Range) → All IsLimitedRange ranges → All IsLimitedGroup (groups_of span ranges)
groups_of_limited span [] h = All-nil IsLimitedGroup
groups_of_limited span (r ∷ ranges) h =
    let own = All-head IsLimitedRange r ranges h in
    groups_from_limited span (group_of r) ranges (record { low = own.low; high = own.high }) (All-tail IsLimitedRange r ranges h)

middle_limited : (g : Group) → IsLimitedGroup g → IsLimited (middle_of g)
middle_limited g h =
    IsWithin-floor_div (g.low +ℤ g.high) (pos 2) (pos value_limit) (omega (arith, ints))
    (IsWithin_mono (pos value_limit +ℤ pos value_limit) (pos value_limit *ℤ pos 2) _ (omega (arith, ints)) (IsWithin-+ℤ (pos value_limit) (pos value_limit) g.low g.high h.low h.high))

if_limited : (b : Bool) (x y : ℤ) → IsLimited x → IsLimited y → IsLimited (if b then x else y)
if_limited true x y h k = h
if_limited false x y h k = k

value_in_limited : (groups : List Group) (r : Range) → All IsLimitedGroup groups → IsLimited (value_in groups r)
value_in_limited [] r h = limited_zero
value_in_limited (g ∷ groups) r h =
    if_limited (list_any (is_same r) g.members) (middle_of g) (value_in groups r) (middle_limited g (All-head IsLimitedGroup g groups h))
    (value_in_limited groups r (All-tail IsLimitedGroup g groups h))

-- merged values of limited ranges are limited
pub merged_limited : (span : ℤ) (ranges : List Range) → All IsLimitedRange ranges → All IsLimited (merged span ranges)
merged_limited span ranges h =
    let groups = groups_of span (in_order ranges) in
    let limited = groups_of_limited span (in_order ranges) (in_order_limited [] ranges (All-nil IsLimitedRange) h) in
    All-map IsLimited (value_in groups) ranges (λ k d near. value_in_limited groups (get_or ranges k d) limited)

-- ---- turns

-- a table of limited values is bounded
pub IsBounded-at : (sizes : List ℕ) (values : List ℤ) → All IsLimited values → IsBounded sizes (at sizes values)
IsBounded-at sizes values h s is =
    elim (cases_lt (rank sizes s) (length values)) [
      | inl near ↦ h (rank sizes s) (pos 0) near
      | inr far ↦ subst IsLimited (sym (get_or_past values (rank sizes s) (pos 0) far)) limited_zero
    ]

module _ (m : Process) (law : IsLawful m) (valid : IsValid m) where
  start_limited : All IsLimited (start_of m)
  start_limited =
      All-table_of IsLimited (sizes m) (λ s. greatest (map (λ a. reward_of m a s) m.actions))
      (best_limited m law valid (reward_of m) (λ a offered s is.
      IsWithin_mono (pos reward_limit) (pos value_limit) _ (omega (arith, ints)) (IsWithin-from_abs reward_limit _ (valid.rewards a offered s is))))

  -- the ranges where bounded values follow
  pub ranges_limited : (w : List ℕ → ℤ) → IsBounded (sizes m) w → All IsLimitedRange (ranges_of m w)
  ranges_limited w bounded =
      All-table_of IsLimitedRange (sizes m) (λ s. record { low = best_low m w s; high = best_high m w s })
      (λ s is. record { low = best_low_limited m law valid w bounded s is; high = best_high_limited m law valid w bounded s is })

  pub turn_limited : (span : ℤ) (k : ℕ) → All IsLimited (turn m span k)
  turn_limited span zero = start_limited
  turn_limited span (suc k) =
      merged_limited span (ranges_of m (at (sizes m) (turn m span k)))
      (ranges_limited (at (sizes m) (turn m span k)) (IsBounded-at (sizes m) (turn m span k) (turn_limited span k)))

  difference_within : (x y : ℤ) → IsLimited x → IsLimited y → IsWithin (pos (10 ^ 31)) (x -ℤ y)
  difference_within x y h k = record { low = omega (arith, ints, h.low, k.high); high = omega (arith, ints, h.high, k.low) }

  -- no residual of bounded values passes 10^31
  pub residual_within : (w : List ℕ → ℤ) → IsBounded (sizes m) w → IsWithin (pos (10 ^ 31)) (residual_of m w)
  residual_within w bounded =
      fold-int_max_within (pos (10 ^ 31)) (pos 0) (table_of (sizes m) (λ s. int_max (gap_above m w s) (gap_below m w s)))
      (IsWithin_zero (pos (10 ^ 31)) (omega (arith, ints)))
      (All-table_of (IsWithin (pos (10 ^ 31))) (sizes m) (λ s. int_max (gap_above m w s) (gap_below m w s)) (λ s is.
      max_within (pos (10 ^ 31)) (gap_above m w s) (gap_below m w s) (difference_within _ _ (best_high_limited m law valid w bounded s is) (bounded s is))
      (difference_within _ _ (bounded s is) (best_low_limited m law valid w bounded s is))))
