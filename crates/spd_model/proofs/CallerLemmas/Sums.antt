-- Sums of lists, over the numbers below a bound, and over all states.
use Rattle.std.proofs.Common.{◌≡◌, ℕ, zero, suc, ◌+◌, ◌<◌, ◌≤◌, ◌⊎◌, inl, inr, List, [], ◌∷◌, ◌++◌, length, map, take, get_or, ℤ, pos, ◌+ℤ◌, ◌*ℤ◌, ◌≤ℤ◌, add-one, refl, ap, sym, ◌∙◌, arith}
use Rattle.std.proofs.lemmas.Int.{ints}
use Rattle.std.proofs.lemmas.List.{take_more, map_push}
use Rattle.spd_scaled.specs.Scaled.{IsWithin}
use Rattle.spd_scaled.proofs.CallerLemmas.Magnitude.{IsWithin-weighted_more}
use Rattle.spd_scaled.proofs.CallerLemmas.Ring.{ring, zero-*ℤ, *ℤ-zero, *ℤ-+ℤ, *ℤ_swap}
use Rattle.spd_model.specs.Numbers.{sum_below, total}
use Rattle.spd_model.specs.States.{IsState, sum_over_states}

+ℤ_mono : (a b c d : ℤ) → a ≤ℤ b → c ≤ℤ d → (a +ℤ c) ≤ℤ (b +ℤ d)
+ℤ_mono a b c d h k = omega (arith, ints)

≤ℤ_refl : (x : ℤ) → x ≤ℤ x
≤ℤ_refl x = omega (arith, ints)

-- ---- sums over the numbers below n

pub sum_below-cong : (n : ℕ) (f g : ℕ → ℤ) → ((v : ℕ) → v < n → f v ≡ g v) → sum_below n f ≡ sum_below n g
sum_below-cong zero f g h = refl
sum_below-cong (suc n) f g h =
    ap (λ x. x +ℤ f n) (sum_below-cong n f g (λ v p. h v (omega arith))) ∙ ap (λ x. sum_below n g +ℤ x) (h n (omega arith))

pub sum_below_mono : (n : ℕ) (f g : ℕ → ℤ) → ((v : ℕ) → v < n → f v ≤ℤ g v) → sum_below n f ≤ℤ sum_below n g
sum_below_mono zero f g h = ≤ℤ_refl (pos 0)
sum_below_mono (suc n) f g h =
    +ℤ_mono (sum_below n f) (sum_below n g) (f n) (g n) (sum_below_mono n f g (λ v p. h v (omega arith))) (h n (omega arith))

pub sum_below-*ℤ : (n : ℕ) (k : ℤ) (f : ℕ → ℤ) → sum_below n (λ v. k *ℤ f v) ≡ k *ℤ sum_below n f
sum_below-*ℤ zero k f = sym (*ℤ-zero k)
sum_below-*ℤ (suc n) k f = ap (λ x. x +ℤ k *ℤ f n) (sum_below-*ℤ n k f) ∙ sym (*ℤ-+ℤ k (sum_below n f) (f n))

add_pairs : (a b c d : ℤ) → a +ℤ b +ℤ (c +ℤ d) ≡ a +ℤ c +ℤ (b +ℤ d)
add_pairs a b c d = omega (arith, ints)

pub sum_below-+ℤ : (n : ℕ) (f g : ℕ → ℤ) → sum_below n (λ v. f v +ℤ g v) ≡ sum_below n f +ℤ sum_below n g
sum_below-+ℤ zero f g = refl
sum_below-+ℤ (suc n) f g = ap (λ x. x +ℤ (f n +ℤ g n)) (sum_below-+ℤ n f g) ∙ add_pairs (sum_below n f) (sum_below n g) (f n) (g n)

sum_below-zero : (n : ℕ) → sum_below n (λ v. pos 0) ≡ pos 0
sum_below-zero zero = refl
sum_below-zero (suc n) = ap (λ x. x +ℤ pos 0) (sum_below-zero n)

-- two sums change places
pub sum_below_swap : (m n : ℕ) (f : ℕ → ℕ → ℤ)
    → sum_below m (λ u. sum_below n (λ v. f u v)) ≡ sum_below n (λ v. sum_below m (λ u. f u v))
sum_below_swap zero n f = sym (sum_below-zero n)
sum_below_swap (suc m) n f =
    ap (λ x. x +ℤ sum_below n (f m)) (sum_below_swap m n f) ∙ sym (sum_below-+ℤ n (λ v. sum_below m (λ u. f u v)) (f m))

split_last : (m n : ℕ) → m ≤ suc n → (m ≤ n) ⊎ (m ≡ suc n)
split_last m n h = grind arith

grown : (x y z : ℤ) → x ≤ℤ y → pos 0 ≤ℤ z → x ≤ℤ (y +ℤ z)
grown x y z h k = omega (arith, ints)

same_≤ℤ : (x y : ℤ) → x ≡ y → x ≤ℤ y
same_≤ℤ x y h = omega (arith, ints)

-- a sum of numbers of at least 0 doesn't fall
pub sum_below_grows : (c : ℕ → ℤ) (m n : ℕ) → ((v : ℕ) → v < n → pos 0 ≤ℤ c v) → m ≤ n → sum_below m c ≤ℤ sum_below n c
sum_below_grows c m zero h p = let e : m ≡ 0 = omega arith in same_≤ℤ _ _ (ap (λ (k : ℕ). sum_below k c) e)
sum_below_grows c m (suc n) h p =
    elim (split_last m n p) [
      | inl q ↦ grown (sum_below m c) (sum_below n c) (c n) (sum_below_grows c m n (λ v l. h v (omega arith)) q) (h n (omega arith))
      | inr e ↦ same_≤ℤ _ _ (ap (λ (k : ℕ). sum_below k c) e)
    ]

-- a weighted sum of values within b is within the sum of the weights times b
pub sum_below_within : (c w : ℕ → ℤ) (b : ℤ) (n : ℕ) → ((v : ℕ) → v < n → pos 0 ≤ℤ c v) → ((v : ℕ) → v < n → IsWithin b (w v))
    → IsWithin (sum_below n c *ℤ b) (sum_below n (λ v. c v *ℤ w v))
sum_below_within c w b zero h k = record { low = omega (arith, ints, zero-*ℤ b); high = omega (arith, ints, zero-*ℤ b) }
sum_below_within c w b (suc n) h k =
    IsWithin-weighted_more (sum_below n (λ v. c v *ℤ w v)) (sum_below n c) (c n) (w n) b
    (sum_below_within c w b n (λ v l. h v (omega arith)) (λ v l. k v (omega arith))) (h n (omega arith)) (k n (omega arith))

total-push : (xs : List ℤ) (y : ℤ) → total (xs ++ y ∷ []) ≡ total xs +ℤ y
total-push [] y = omega (arith, ints)
total-push (x ∷ xs) y = ap (λ t. x +ℤ t) (total-push xs y) ∙ omega (arith, ints)

-- one number more
pub sum_below_more : (f : ℕ → ℤ) (n : ℕ) (sum x : ℤ) → sum ≡ sum_below n f → x ≡ f n → sum +ℤ x ≡ sum_below (n + 1) f
sum_below_more f n sum x is_sum is_x = rw add-one (λ i. is_sum i +ℤ is_x i)

pub total_more : {X : Type 0} (f : X → ℤ) (xs : List X) (i : ℕ) (d : X) (sum x : ℤ) → i < length xs → sum ≡ total (map f (take i xs)) → x ≡ f (get_or xs i d)
    → sum +ℤ x ≡ total (map f (take (i + 1) xs))
total_more f xs i d sum x near is_sum is_x =
    (λ j. is_sum j +ℤ is_x j) ∙ sym (total-push (map f (take i xs)) (f (get_or xs i d)))
    ∙ ap total (sym (ap (map f) (take_more xs i d near) ∙ map_push f (take i xs) (get_or xs i d)))

-- ---- sums over all states

pub sum_over_states-cong : (sizes : List ℕ) (f g : List ℕ → ℤ) → ((t : List ℕ) → IsState sizes t → f t ≡ g t)
    → sum_over_states sizes f ≡ sum_over_states sizes g
sum_over_states-cong [] f g h = h [] tt
sum_over_states-cong (size ∷ sizes) f g h =
    sum_below-cong size _ _ (λ v p. sum_over_states-cong sizes (λ t. f (v ∷ t)) (λ t. g (v ∷ t)) (λ t is. h (v ∷ t) (p, is)))

pub sum_over_states_mono : (sizes : List ℕ) (f g : List ℕ → ℤ) → ((t : List ℕ) → IsState sizes t → f t ≤ℤ g t)
    → sum_over_states sizes f ≤ℤ sum_over_states sizes g
sum_over_states_mono [] f g h = h [] tt
sum_over_states_mono (size ∷ sizes) f g h =
    sum_below_mono size _ _ (λ v p. sum_over_states_mono sizes (λ t. f (v ∷ t)) (λ t. g (v ∷ t)) (λ t is. h (v ∷ t) (p, is)))

-- a sum of sums over one variable more, which may be summed first or last
pub sum_over_states_swap : (sizes : List ℕ) (n : ℕ) (f : ℕ → List ℕ → ℤ)
    → sum_over_states sizes (λ t. sum_below n (λ v. f v t)) ≡ sum_below n (λ v. sum_over_states sizes (f v))
sum_over_states_swap [] n f = refl
sum_over_states_swap (size ∷ sizes) n f =
    sum_below-cong size _ _ (λ u p. sum_over_states_swap sizes n (λ v t. f v (u ∷ t)))
    ∙ sum_below_swap size n (λ u v. sum_over_states sizes (λ t. f v (u ∷ t)))

-- a factor of every weighted term
pub sum_over_states-*ℤ : (sizes : List ℕ) (x : ℤ) (j f : List ℕ → ℤ)
    → sum_over_states sizes (λ t. j t *ℤ (x *ℤ f t)) ≡ x *ℤ sum_over_states sizes (λ t. j t *ℤ f t)
sum_over_states-*ℤ [] x j f = *ℤ_swap (j []) x (f [])
sum_over_states-*ℤ (size ∷ sizes) x j f =
    sum_below-cong size _ _ (λ v p. sum_over_states-*ℤ sizes x (λ t. j (v ∷ t)) (λ t. f (v ∷ t)))
    ∙ sum_below-*ℤ size x (λ v. sum_over_states sizes (λ t. j (v ∷ t) *ℤ f (v ∷ t)))

affine_step : (x y a b c e : ℤ) → x *ℤ a +ℤ y *ℤ b +ℤ (x *ℤ c +ℤ y *ℤ e) ≡ x *ℤ (a +ℤ c) +ℤ y *ℤ (b +ℤ e)
affine_step x y a b c e = simp ring (omega (arith, ints))

affine_at : (j x f y : ℤ) → j *ℤ (x *ℤ f +ℤ y) ≡ x *ℤ (j *ℤ f) +ℤ y *ℤ j
affine_at j x f y = simp ring

nothing : (x y : ℤ) → pos 0 ≡ x *ℤ pos 0 +ℤ y *ℤ pos 0
nothing x y = omega (arith, ints)

sum_below_affine : (n : ℕ) (x y : ℤ) (f g : ℕ → ℤ) → sum_below n (λ v. x *ℤ f v +ℤ y *ℤ g v) ≡ x *ℤ sum_below n f +ℤ y *ℤ sum_below n g
sum_below_affine zero x y f g = nothing x y
sum_below_affine (suc n) x y f g =
    ap (λ s. s +ℤ (x *ℤ f n +ℤ y *ℤ g n)) (sum_below_affine n x y f g) ∙ affine_step x y (sum_below n f) (sum_below n g) (f n) (g n)

-- the sum of x times f plus y, weighted by j
pub sum_over_states_affine : (sizes : List ℕ) (x y : ℤ) (j f : List ℕ → ℤ)
    → sum_over_states sizes (λ t. j t *ℤ (x *ℤ f t +ℤ y)) ≡ x *ℤ sum_over_states sizes (λ t. j t *ℤ f t) +ℤ y *ℤ sum_over_states sizes j
sum_over_states_affine [] x y j f = affine_at (j []) x (f []) y
sum_over_states_affine (size ∷ sizes) x y j f =
    sum_below-cong size _ _ (λ v p. sum_over_states_affine sizes x y (λ t. j (v ∷ t)) (λ t. f (v ∷ t)))
    ∙ sum_below_affine size x y (λ v. sum_over_states sizes (λ t. j (v ∷ t) *ℤ f (v ∷ t))) (λ v. sum_over_states sizes (λ t. j (v ∷ t)))
