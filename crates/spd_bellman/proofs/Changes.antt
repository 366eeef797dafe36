-- How far rounded bounds lie apart: the two bounds of one value, and the bounds of two values that differ by at most c.
use Rattle.std.proofs.Common.{◌≡◌, ℕ, zero, suc, ◌*◌, ◌≤◌, List, [], ◌∷◌, length, map, drop, slice_index, Contains, ℤ, pos, ◌+ℤ◌, ◌*ℤ◌, ◌≤ℤ◌, ◌<ℤ◌, ap, ◌∙◌, subst, arith}
use Rattle.std.proofs.lemmas.Int.{ints}
use Rattle.std.proofs.lemmas.List.Elements.{All-map, All-contains, All-contains_itself, All-weaker}
use Rattle.spd_scaled.specs.Scaled.{floor_div, ceil_div}
use Rattle.spd_scaled.proofs.CallerLemmas.Ring.{ring, *ℤ_mono_right, *ℤ_cancel_within, +ℤ-*ℤ}
use Rattle.spd_scaled.proofs.CallerLemmas.DivisionLaws.{floor_div_next_above, floor_div_least, ceil_div_at_least, ceil_div_last_below, ceil_div_least}
use Rattle.spd_model.specs.declared.process.Action.{Action}
use Rattle.spd_model.specs.Process.{Process}
use Rattle.spd_model.specs.Numbers.{sum_below, greatest}
use Rattle.spd_model.specs.States.{sizes, IsState}
use Rattle.spd_model.specs.Chances.{IsValid, one, discount_one, probability, reward_of}
use Rattle.spd_model.specs.Backup.{Rounding, expected_by, expectation, return_of}
use Rattle.spd_model.proofs.CallerLemmas.Sums.{sum_below-cong, sum_below_mono, sum_below-*ℤ, sum_below-+ℤ}
use Rattle.spd_model.proofs.CallerLemmas.Greatest.{greatest_at_least, greatest_reached}
use Rattle.spd_model.proofs.CallerLemmas.Lists.{Contains-map}
use Rattle.spd_model.proofs.CallerLemmas.StateOrder.{IsState-drop, IsState-none, length-sizes}
use Rattle.spd_model.proofs.CallerLemmas.Chances.{Chance, AreChances, chances_of}
use Rattle.spd_bellman.proofs.Signs.{natural_nonnegative, one_above, discount_above}

-- ---- roundings

-- Where x is at most y plus c, in parts of d, the first rounding of x is at most the second rounding of y plus c and `extra`.
pub record AreNear (first second : Rounding) (extra : ℕ) : Type 0 where
  pub near : (x y c d : ℤ) → pos 0 <ℤ d → x ≤ℤ (y +ℤ c *ℤ d) → first x d ≤ℤ (second y d +ℤ (c +ℤ pos extra))

floors_step : (x y c d q : ℤ) → x ≤ℤ (y +ℤ c *ℤ d) → y <ℤ (q *ℤ d +ℤ d) → x <ℤ ((q +ℤ (c +ℤ pos 0)) *ℤ d +ℤ d)
floors_step x y c d q h k = let parts : (q +ℤ (c +ℤ pos 0)) *ℤ d ≡ q *ℤ d +ℤ c *ℤ d = simp ring (omega (arith, ints)) in omega (arith, ints)

ceils_step : (x y c d q : ℤ) → x ≤ℤ (y +ℤ c *ℤ d) → y ≤ℤ (q *ℤ d) → x ≤ℤ ((q +ℤ (c +ℤ pos 0)) *ℤ d)
ceils_step x y c d q h k = let parts : (q +ℤ (c +ℤ pos 0)) *ℤ d ≡ q *ℤ d +ℤ c *ℤ d = simp ring (omega (arith, ints)) in omega (arith, ints)

bounds_step : (x y c d p q : ℤ) → pos 0 <ℤ d → x ≤ℤ (y +ℤ c *ℤ d) → (p *ℤ d) <ℤ (x +ℤ d) → y <ℤ (q *ℤ d +ℤ d)
    → (p *ℤ d) <ℤ ((q +ℤ (c +ℤ pos 2)) *ℤ d +ℤ d)
bounds_step x y c d p q some h k l =
    let two : pos 2 *ℤ d ≡ d +ℤ d = omega (arith, ints) in
    let parts : (q +ℤ (c +ℤ pos 2)) *ℤ d ≡ q *ℤ d +ℤ (c *ℤ d +ℤ pos 2 *ℤ d) = +ℤ-*ℤ q (c +ℤ pos 2) d ∙ ap (λ z. q *ℤ d +ℤ z) (+ℤ-*ℤ c (pos 2) d) in
    omega (arith, ints)

pub floors_near : AreNear floor_div floor_div 0
floors_near = record {
  near = λ x y c d some h. floor_div_least x d (floor_div y d +ℤ (c +ℤ pos 0)) some (floors_step x y c d (floor_div y d) h (floor_div_next_above y d some));
}

pub ceils_near : AreNear ceil_div ceil_div 0
ceils_near = record {
  near = λ x y c d some h. ceil_div_least x d (ceil_div y d +ℤ (c +ℤ pos 0)) some (ceils_step x y c d (ceil_div y d) h (ceil_div_at_least y d some));
}

pub bounds_near : AreNear ceil_div floor_div 2
bounds_near = record {
  near = λ x y c d some h. *ℤ_cancel_within (ceil_div x d) (floor_div y d +ℤ (c +ℤ pos 2)) d some
      (bounds_step x y c d (ceil_div x d) (floor_div y d) some h (ceil_div_last_below x d some) (floor_div_next_above y d some));
}

-- ---- expectations

weighted : (p f k : ℤ) → p *ℤ (f +ℤ k) ≡ p *ℤ f +ℤ k *ℤ p
weighted p f k = simp ring

-- a weighted sum of values that are all k more
sum_more : (n : ℕ) (p f : ℕ → ℤ) (k : ℤ) → sum_below n p ≡ one → sum_below n (λ v. p v *ℤ (f v +ℤ k)) ≡ sum_below n (λ v. p v *ℤ f v) +ℤ k *ℤ one
sum_more n p f k whole =
    sum_below-cong n _ _ (λ v near. weighted (p v) (f v) k)
    ∙ sum_below-+ℤ n (λ v. p v *ℤ f v) (λ v. k *ℤ p v)
    ∙ ap (λ x. sum_below n (λ v. p v *ℤ f v) +ℤ x) (sum_below-*ℤ n k p ∙ ap (λ x. k *ℤ x) whole)

counted : (x y c : ℤ) (extra i : ℕ) → x ≤ℤ (y +ℤ ((c +ℤ pos (i * extra)) +ℤ pos extra)) → x ≤ℤ (y +ℤ (c +ℤ pos (suc i * extra)))
counted x y c extra i h = omega (arith, ints)

begun : (x y c : ℤ) (extra : ℕ) → x ≤ℤ (y +ℤ c) → x ≤ℤ (y +ℤ (c +ℤ pos (0 * extra)))
begun x y c extra h = omega (arith, ints)

module _ (first second : Rounding) (extra : ℕ) (near : AreNear first second extra) (sizes : List ℕ) (chance : Chance) (chances : AreChances sizes chance)
    (w v : List ℕ → ℤ) (c : ℤ) (differ : (s : List ℕ) → IsState sizes s → w s ≤ℤ (v s +ℤ c)) where
  pub expected_near : (i : ℕ) (rest : List ℕ) → i ≤ length sizes → IsState (drop i sizes) rest
      → expected_by first (slice_index sizes) chance w i rest ≤ℤ (expected_by second (slice_index sizes) chance v i rest +ℤ (c +ℤ pos (i * extra)))
  expected_near zero rest short is = begun (w rest) (v rest) c extra (differ rest is)
  expected_near (suc i) rest short is =
      let k = c +ℤ pos (i * extra) in
      let size = slice_index sizes i in
      let high : ℕ → ℤ = λ u. expected_by first (slice_index sizes) chance w i (u ∷ rest) in
      let low : ℕ → ℤ = λ u. expected_by second (slice_index sizes) chance v i (u ∷ rest) in
      let inner : sum_below size (λ u. chance i u rest *ℤ high u) ≤ℤ sum_below size (λ u. chance i u rest *ℤ (low u +ℤ k)) =
      sum_below_mono size _ _ (λ u below. *ℤ_mono_right (chance i u rest) (high u) (low u +ℤ k) (chances.nonnegative i u rest short below is)
      (expected_near i (u ∷ rest) (omega arith) (IsState-drop sizes i u rest short below is))) in
      counted _ _ c extra i
      (near.near (sum_below size (λ u. chance i u rest *ℤ high u)) (sum_below size (λ u. chance i u rest *ℤ low u)) k one one_above
      (subst (λ x. sum_below size (λ u. chance i u rest *ℤ high u) ≤ℤ x) (sum_more size (λ u. chance i u rest) low k (chances.whole i rest short is)) inner))

-- ---- returns, and the greatest of them

discounted_step : (g e f k c d : ℤ) → (g *ℤ e) ≤ℤ (g *ℤ (f +ℤ k)) → (g *ℤ k) ≤ℤ (c *ℤ d) → (g *ℤ e) ≤ℤ (g *ℤ f +ℤ c *ℤ d)
discounted_step g e f k c d h l = let h' = simp ring at h in omega (arith, ints)

added_step : (reward x y c : ℤ) → x ≤ℤ (y +ℤ c) → (reward +ℤ x) ≤ℤ ((reward +ℤ y) +ℤ c)
added_step reward x y c h = omega (arith, ints)

none_near : (c : ℤ) → pos 0 ≤ℤ c → pos 0 ≤ℤ (pos 0 +ℤ c)
none_near c h = omega (arith, ints)

near_trans : (x y z c : ℤ) → x ≤ℤ (y +ℤ c) → y ≤ℤ z → x ≤ℤ (z +ℤ c)
near_trans x y z c h k = omega (arith, ints)

greatest_near : {X : Type 0} (f g : X → ℤ) (c : ℤ) → pos 0 ≤ℤ c → (xs : List X) → ((x : X) → Contains xs x → f x ≤ℤ (g x +ℤ c))
    → greatest (map f xs) ≤ℤ (greatest (map g xs) +ℤ c)
greatest_near f g c some [] h = none_near c some
greatest_near {X = X} f g c some (x ∷ xs) h =
    let ys = x ∷ xs in
    let bound = greatest (map g ys) +ℤ c in
    All-contains (λ z. z ≤ℤ bound) (map f ys) (greatest (map f ys))
    (All-map (λ z. z ≤ℤ bound) f ys
    (All-weaker (Contains ys) (λ y. f y ≤ℤ bound)
    (λ y there. near_trans (f y) (g y) (greatest (map g ys)) c (h y there) (greatest_at_least (map g ys) (g y) (Contains-map g ys y there)))
    ys (All-contains_itself ys)))
    (greatest_reached (map f ys) (omega arith))

-- the returns of an action under two roundings, before values that differ by at most c, where q bounds the discounted difference
module _ (m : Process) (valid : IsValid m) (first second : Rounding) (extra : ℕ) (near : AreNear first second extra)
    (w v : List ℕ → ℤ) (c q : ℤ) (differ : (s : List ℕ) → IsState (sizes m) s → w s ≤ℤ (v s +ℤ c))
    (discounted : (pos m.discount *ℤ (c +ℤ pos (length m.vars * extra))) ≤ℤ (q *ℤ pos discount_one)) where
  return_near : (s : List ℕ) → IsState (sizes m) s → (a : Action) → Contains m.actions a
      → return_of first m (expectation first m w) a s ≤ℤ (return_of second m (expectation second m v) a s +ℤ (q +ℤ pos extra))
  return_near s is a offered =
      let k = c +ℤ pos (length m.vars * extra) in
      let e = expectation first m w a s in
      let f = expectation second m v a s in
      let g = pos m.discount in
      let short : length m.vars ≤ length (sizes m) = omega (arith, length-sizes m) in
      let apart : e ≤ℤ (f +ℤ k) =
      expected_near first second extra near (sizes m) (probability m a s) (chances_of m valid a offered s is) w v c differ (length m.vars) [] short
      (IsState-none (sizes m) (length m.vars) (omega (arith, length-sizes m))) in
      added_step (reward_of m a s) (first (g *ℤ e) (pos discount_one)) (second (g *ℤ f) (pos discount_one)) (q +ℤ pos extra)
      (near.near (g *ℤ e) (g *ℤ f) q (pos discount_one) discount_above
      (discounted_step g e f k q (pos discount_one) (*ℤ_mono_right g e (f +ℤ k) (natural_nonnegative m.discount) apart) discounted))

  pub best_near : pos 0 ≤ℤ q → (s : List ℕ) → IsState (sizes m) s
      → greatest (map (λ a. return_of first m (expectation first m w) a s) m.actions)
      ≤ℤ (greatest (map (λ a. return_of second m (expectation second m v) a s) m.actions) +ℤ (q +ℤ pos extra))
  best_near some s is =
      greatest_near (λ a. return_of first m (expectation first m w) a s) (λ a. return_of second m (expectation second m v) a s) (q +ℤ pos extra)
      (omega (arith, ints)) m.actions (return_near s is)
