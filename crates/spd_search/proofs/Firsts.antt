-- The first answer of several, and the first state at which a rule holds.
use Rattle.std.proofs.Common.{◌≡◌, ℕ, zero, suc, ◌+◌, ◌-◌, ◌<◌, ◌≤◌, ◌||◌, ◌==◌, Bool, true, false, cond, List, [], ◌∷◌, ◌++◌, map, flat_map, find, Option, Some, None, refl, sym, ◌∙◌, ap, arith}
use Rattle.std.specs.Prelude.{option_map}
use Rattle.std.specs.Option.{option_or, is_some}
use Rattle.std.proofs.lemmas.Bool.Decides.{Decides-eqb, nat_tests}
use Rattle.std.proofs.lemmas.List.{append-nil}
use Rattle.std.proofs.lemmas.List.Concat.{flat_map-append}
use Rattle.std.proofs.lemmas.List.Folds.{find-append}
use Rattle.spd_model.specs.Numbers.{numbers_below}
use Rattle.spd_model.specs.States.{states, IsState}

pub option_or-same : {X : Type 0} (o : Option X) → option_or o o ≡ o
option_or-same (Some x) = refl
option_or-same None = refl

option_or-assoc : {X : Type 0} (a b c : Option X) → option_or a (option_or b c) ≡ option_or (option_or a b) c
option_or-assoc (Some x) b c = refl
option_or-assoc None b c = refl

pub is_some-or : {X : Type 0} (a b : Option X) → is_some (option_or a b) ≡ (is_some a || is_some b)
is_some-or (Some x) b = refl
is_some-or None b = refl

-- the first answer at the numbers below n
abbrev pub first_below : {X : Type 0} → ℕ → (ℕ → Option X) → Option X
first_below zero h = None
first_below (suc n) h = option_or (first_below n h) (h n)

-- the first answer at the numbers from j to j + n
abbrev pub first_from : {X : Type 0} → ℕ → ℕ → (ℕ → Option X) → Option X
first_from zero j h = h j
first_from (suc n) j h = option_or (h j) (first_from n (j + 1) h)

first_from-more : {X : Type 0} (n j : ℕ) (h : ℕ → Option X) → first_from (suc n) j h ≡ option_or (first_from n j h) (h (j + suc n))
first_from-more zero j h = refl
first_from-more (suc n) j h =
    let e : (j + 1) + suc n ≡ j + suc (suc n) = omega arith in
    ap (option_or (h j)) (first_from-more n (j + 1) h)
    ∙ option_or-assoc (h j) (first_from n (j + 1) h) (h ((j + 1) + suc n))
    ∙ ap (λ (k : ℕ). option_or (option_or (h j) (first_from n (j + 1) h)) (h k)) e

from-below : {X : Type 0} (n : ℕ) (h : ℕ → Option X) → first_from n 0 h ≡ first_below (suc n) h
from-below zero h = refl
from-below (suc n) h =
    let e : 0 + suc n ≡ suc n = omega arith in
    first_from-more n 0 h ∙ ap (λ (k : ℕ). option_or (first_from n 0 h) (h k)) e ∙ ap (λ o. option_or o (h (suc n))) (from-below n h)

-- all values of a slot
pub first_from-all : {X : Type 0} (d : ℕ) (h : ℕ → Option X) → 0 < d → first_from (d - 1) 0 h ≡ first_below d h
first_from-all d h p = let e : suc (d - 1) ≡ d = omega arith in from-below (d - 1) h ∙ ap (λ (k : ℕ). first_below k h) e

-- whether one of the numbers below n passes
abbrev pub any_below : ℕ → (ℕ → Bool) → Bool
any_below zero b = false
any_below (suc n) b = any_below n b || b n

pub is_some-below : {X : Type 0} (n : ℕ) (h : ℕ → Option X) → is_some (first_below n h) ≡ any_below n (λ k. is_some (h k))
is_some-below zero h = refl
is_some-below (suc n) h = is_some-or (first_below n h) (h n) ∙ ap (λ b. b || is_some (h n)) (is_some-below n h)

or-swap : (a b c d : Bool) → ((a || b) || (c || d)) ≡ ((a || c) || (b || d))
or-swap true b c d = refl
or-swap false true true d = refl
or-swap false true false d = refl
or-swap false false true d = refl
or-swap false false false d = refl

any_below-or : (n : ℕ) (a b : ℕ → Bool) → (any_below n a || any_below n b) ≡ any_below n (λ k. a k || b k)
any_below-or zero a b = refl
any_below-or (suc n) a b = or-swap (any_below n a) (a n) (any_below n b) (b n) ∙ ap (λ c. c || (a n || b n)) (any_below-or n a b)

any_below-none : (n : ℕ) → false ≡ any_below n (λ k. false)
any_below-none zero = refl
any_below-none (suc n) = ap (λ b. b || false) (any_below-none n)

-- the order of two searches is no matter
pub any_below-swap : (m n : ℕ) (b : ℕ → ℕ → Bool) → any_below m (λ y. any_below n (λ x. b y x)) ≡ any_below n (λ x. any_below m (λ y. b y x))
any_below-swap zero n b = any_below-none n
any_below-swap (suc m) n b =
    ap (λ c. c || any_below n (λ x. b m x)) (any_below-swap m n b) ∙ any_below-or n (λ x. any_below m (λ y. b y x)) (λ x. b m x)

any_below-false : (n : ℕ) (b : ℕ → Bool) → ((k : ℕ) → k < n → b k ≡ false) → any_below n b ≡ false
any_below-false zero b h = refl
any_below-false (suc n) b h = rw (any_below-false n b (λ k i. h k (omega arith)), h n (omega arith)) refl

-- some number passes where not all of them fail
pub any_below-some : (n : ℕ) (b : ℕ → Bool) → any_below n b ≡ true → ((k : ℕ) → k < n → b k ≡ false) → ⊥
any_below-some n b e h = let f : any_below n b ≡ false = any_below-false n b h in absurd (cc)

-- the first answer, which is that of k
pub first_below-at : {X : Type 0} (n k : ℕ) (h : ℕ → Option X) → k < n → is_some (h k) ≡ true → ((j : ℕ) → j < k → h j ≡ None) → first_below n h ≡ h k
first_below-at zero k h i s b = absurd (omega arith)
first_below-at {X = X} (suc n) k h i s b = go (k == n) refl (first_below-at n k h)
  where
    none : (m : ℕ) → m ≤ k → first_below m h ≡ None
    none zero q = refl
    none (suc m) q = rw (none m (omega arith), b m (omega arith)) refl

    kept : (o p : Option X) → is_some o ≡ true → option_or o p ≡ o
    kept (Some x) p e = refl
    kept None p e = absurd (cc e)

    go : (z : Bool) → (k == n) ≡ z → (k < n → is_some (h k) ≡ true → ((j : ℕ) → j < k → h j ≡ None) → first_below n h ≡ h k) → option_or (first_below n h) (h n) ≡ h k
    go true e rec =
        let same : k ≡ n = (Decides-eqb k n).0 e in
        rw (none n (omega arith)) (ap h (sym same))
    go false e rec =
        let less : k < n = grind (arith, nat_tests) in
        rw (rec less s b) (kept (h k) (h n) s)

-- ---- lists of numbers and of states

-- the first entry of rows, one for each number
pub find-rows : {Y : Type 0} (p : Y → Bool) (row : ℕ → List Y) (n : ℕ) → find p (flat_map row (numbers_below n)) ≡ first_below n (λ v. find p (row v))
find-rows p row zero = refl
find-rows {Y = Y} p row (suc n) =
    ap (find p) (flat_map-append row (numbers_below n) (n ∷ [])) ∙ find-append p (flat_map row (numbers_below n)) (row n ++ [])
    ∙ ap (λ o. option_or o (find p (row n ++ []))) (find-rows p row n)
    ∙ ap (λ (l : List Y). option_or (first_below n (λ v. find p (row v))) (find p l)) (append-nil (row n))

-- the first state at which a rule holds, variable by variable
abbrev pub first_state : List ℕ → (List ℕ → Bool) → Option (List ℕ)
first_state [] p = cond (p []) (Some []) None
first_state (d ∷ ds) p = first_below d (λ v. option_map (λ s. v ∷ s) (first_state ds (λ s. p (v ∷ s))))

find-under : (p : List ℕ → Bool) (v : ℕ) (xs : List (List ℕ)) → find p (map (λ s. v ∷ s) xs) ≡ option_map (λ s. v ∷ s) (find (λ s. p (v ∷ s)) xs)
find-under p v [] = refl
find-under p v (x ∷ xs) = go (p (v ∷ x)) (find-under p v xs)
  where
    go : (b : Bool) → find p (map (λ s. v ∷ s) xs) ≡ option_map (λ s. v ∷ s) (find (λ s. p (v ∷ s)) xs)
        → cond b (Some (v ∷ x)) (find p (map (λ s. v ∷ s) xs)) ≡ option_map (λ s. v ∷ s) (cond b (Some x) (find (λ s. p (v ∷ s)) xs))
    go true ih = refl
    go false ih = ih

pub find-states : (ds : List ℕ) (p : List ℕ → Bool) → find p (states ds) ≡ first_state ds p
find-states [] p = refl
find-states (d ∷ ds) p =
    find-rows p (λ v. map (λ s. v ∷ s) (states ds)) d
    ∙ ap (first_below d) (λ i v. (find-under p v (states ds) ∙ ap (option_map (λ s. v ∷ s)) (find-states ds (λ s. p (v ∷ s)))) i)

first_below-agree : {X : Type 0} (n : ℕ) (h k : ℕ → Option X) → ((v : ℕ) → v < n → h v ≡ k v) → first_below n h ≡ first_below n k
first_below-agree zero h k e = refl
first_below-agree (suc n) h k e = rw (first_below-agree n h k (λ v i. e v (omega arith)), e n (omega arith)) refl

-- rules that agree at all states hold first at the same one
pub first_state-agree : (ds : List ℕ) (p q : List ℕ → Bool) → ((s : List ℕ) → IsState ds s → p s ≡ q s) → first_state ds p ≡ first_state ds q
first_state-agree [] p q h = rw (h [] tt) refl
first_state-agree (d ∷ ds) p q h =
    first_below-agree d _ _ (λ v i. ap (option_map (λ s. v ∷ s)) (first_state-agree ds (λ s. p (v ∷ s)) (λ s. q (v ∷ s)) (λ s j. h (v ∷ s) (i, j))))
