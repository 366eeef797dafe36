-- Sums of values weighted by the chances of one variable's values: they fit 128 bits.
use Rattle.std.proofs.Common.{◌≡◌, ℕ, suc, ◌+◌, ◌*◌, ◌<◌, ◌≤◌, ◌-◌, ◌++◌, List, length, take, replicate, ℤ, pos, ◌+ℤ◌, ◌*ℤ◌, ◌≤ℤ◌, ap, sym, ◌∙◌, subst, arith, below_more, length-append, FitsSigned, add-one, slice_index_or}
use Rattle.std.proofs.lemmas.Int.{ints}
use Rattle.std.proofs.lemmas.List.{take_all, length-replicate, get_or-replicate, get_or_append_left, get_or-append-add}
use Rattle.std.proofs.Math.Nat.{mul-le-mul_right}
use mir.Syntax.{w128}
use Rattle.spd_scaled.specs.Scaled.{IsWithin}
use Rattle.spd_scaled.proofs.CallerLemmas.Ring.{*ℤ_mono}
use Rattle.spd_scaled.proofs.CallerLemmas.Magnitude.{IsWithin_mono, IsWithin-*ℤ, fits_within}
use Rattle.spd_model.specs.Numbers.{sum_below}
use Rattle.spd_model.specs.Chances.{one}
use Rattle.spd_model.specs.Turns.{value_limit}
use Rattle.spd_model.proofs.CallerLemmas.Sums.{sum_below-cong, sum_below_grows, sum_below_within}
use Rattle.spd_plain.specs.inner.Expectations.{entry, weighted, IsReady}

-- the place of an entry is below the number of entries
pub entry_below : (v size k after : ℕ) → v < size → k < after → v * after + k < size * after
entry_below v size k after h near = let more = mul-le-mul_right after h in omega (arith, more)

module _ {size after : ℕ} {chances values : List ℤ} (ready : IsReady size after chances values) (k : ℕ) (near : k < after) where
  limited : (v : ℕ) → v < size → IsWithin (pos value_limit) (entry after values v k)
  limited v h = ready.bounded (v * after + k) (pos 0) (omega (arith, ready.count, entry_below v size k after h near))

  part_of_one : (n : ℕ) → n ≤ size → sum_below n (λ v. entry after chances v k) ≤ℤ one
  part_of_one n p =
      subst (λ x. sum_below n (λ v. entry after chances v k) ≤ℤ x) (ready.weights.whole k near)
      (sum_below_grows (λ v. entry after chances v k) n size (λ v h. ready.weights.nonnegative v k h near) p)

  scaled : (x : ℤ) → x ≤ℤ one → (x *ℤ pos value_limit) ≤ℤ (one *ℤ pos value_limit)
  scaled x h = *ℤ_mono x one (pos value_limit) (omega (arith, ints)) h

  pub part_within : (n : ℕ) → n ≤ size → IsWithin (one *ℤ pos value_limit) (sum_below n (λ v. entry after chances v k *ℤ entry after values v k))
  part_within n p =
      IsWithin_mono _ (one *ℤ pos value_limit) _ (scaled _ (part_of_one n p))
      (sum_below_within (λ v. entry after chances v k) (λ v. entry after values v k) (pos value_limit) n
      (λ v h. ready.weights.nonnegative v k (omega arith) near) (λ v h. limited v (omega arith)))

  last_part : (s c : ℤ) → pos 0 ≤ℤ s → (s +ℤ c) ≤ℤ one → c ≤ℤ one
  last_part s c p h = omega (arith, ints)

  one_chance : (v : ℕ) → v < size → entry after chances v k ≤ℤ one
  one_chance v h = last_part (sum_below v (λ j. entry after chances j k)) _
      (sum_below_grows (λ j. entry after chances j k) 0 v (λ j l. ready.weights.nonnegative j k (omega arith) near) (omega arith)) (part_of_one (suc v) (omega arith))

  pub term_fits : (v : ℕ) → v < size → FitsSigned w128 (entry after chances v k *ℤ entry after values v k)
  term_fits v h =
      fits_within w128 (one *ℤ pos value_limit) _ (omega (arith, ints))
      (IsWithin_mono _ (one *ℤ pos value_limit) _ (scaled _ (one_chance v h)) (IsWithin-*ℤ (entry after chances v k) (pos value_limit) _ (ready.weights.nonnegative v k h near) (limited v h)))

  pub next_sum : (v : ℕ) (sum : ℤ) → sum ≡ sum_below v (λ v. entry after chances v k *ℤ entry after values v k)
      → sum +ℤ entry after chances v k *ℤ entry after values v k ≡ sum_below (v + 1) (λ v. entry after chances v k *ℤ entry after values v k)
  next_sum v sum e = rw add-one (ap (λ x. x +ℤ entry after chances v k *ℤ entry after values v k) e)

  pub next_fits : (v : ℕ) (sum : ℤ) → sum ≡ sum_below v (λ v. entry after chances v k *ℤ entry after values v k) → v < size
      → FitsSigned w128 (sum +ℤ entry after chances v k *ℤ entry after values v k)
  next_fits v sum e h =
      subst (FitsSigned w128) (ap (λ x. x +ℤ entry after chances v k *ℤ entry after values v k) (sym e))
      (fits_within w128 (one *ℤ pos value_limit) _ (omega (arith, ints)) (part_within (suc v) (omega arith)))

-- the sums at k read no entry before k
pub weighted_same : (size after : ℕ) (chances xs ys : List ℤ) (k : ℕ) → ((j : ℕ) → k ≤ j → slice_index_or xs j (pos 0) ≡ slice_index_or ys j (pos 0))
    → weighted size after chances xs k ≡ weighted size after chances ys k
weighted_same size after chances xs ys k same =
    sum_below-cong size (λ v. entry after chances v k *ℤ entry after xs v k) (λ v. entry after chances v k *ℤ entry after ys v k)
    (λ v h. ap (λ x. entry after chances v k *ℤ x) (same (v * after + k) (omega arith)))

-- One more entry, spread over `after` places.
module _ (after v n : ℕ) (x : ℤ) (xs kept : List ℤ) (len : length xs ≡ v * after) (counted : n ≡ length xs) (is : x ≡ slice_index_or kept v (pos 0))
    (each : (u k : ℕ) → u < v → k < after → slice_index_or xs (u * after + k) (pos 0) ≡ slice_index_or kept u (pos 0)) where
  abbrev pub spread_list : List ℤ
  spread_list = take ((v + 1) * after) xs ++ replicate ((v + 1) * after - n) x

  spread_is : spread_list ≡ xs ++ replicate after x
  spread_is =
      let count : (v + 1) * after - n ≡ after = omega arith in
      (λ i. take_all ((v + 1) * after) xs (omega arith) i ++ replicate (count i) x)

  pub length-spread : length spread_list ≡ (v + 1) * after
  length-spread = ap length spread_is ∙ length-append xs (replicate after x) ∙ omega (arith, length-replicate after x)

  old_entry : (u k : ℕ) → u < v → k < after → slice_index_or (xs ++ replicate after x) (u * after + k) (pos 0) ≡ slice_index_or kept u (pos 0)
  old_entry u k h near = get_or_append_left xs (replicate after x) (pos 0) (u * after + k) (omega (arith, entry_below u v k after h near)) ∙ each u k h near

  new_entry : (k : ℕ) → k < after → slice_index_or (xs ++ replicate after x) (v * after + k) (pos 0) ≡ slice_index_or kept v (pos 0)
  new_entry k near =
      ap (λ (j : ℕ). slice_index_or (xs ++ replicate after x) (j + k) (pos 0)) (sym len) ∙ get_or-append-add xs (replicate after x) k (pos 0)
      ∙ get_or-replicate after k x (pos 0) near ∙ is

  pub entry-spread : (u k : ℕ) → u < v + 1 → k < after → slice_index_or spread_list (u * after + k) (pos 0) ≡ slice_index_or kept u (pos 0)
  entry-spread u k h near =
      ap (λ (l : List ℤ). slice_index_or l (u * after + k) (pos 0)) spread_is
      ∙ below_more (λ u. slice_index_or (xs ++ replicate after x) (u * after + k) (pos 0) ≡ slice_index_or kept u (pos 0)) v (λ u p. old_entry u k p near) (new_entry k near) u h
