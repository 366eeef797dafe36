-- Weights and values in turn, summed out over a slot: what the recursion makes of trees.
use Rattle.std.specs.Prelude.{◌≡◌, ℕ, ◌+◌, ◌≤◌, ◌/◌, ◌⊎◌, ◌&&◌, ◌||◌, Bool, true, false, cond, List, [], ◌∷◌, length, ℤ, pos, int_le, ◌+ℤ◌, ◌*ℤ◌, neg_ℤ, slice_index, ◌-◌}
use Rattle.std.specs.Ordering.{int_eq}
use Rattle.spd_cons_core.specs.declared.key.Entry.{Entry}
use Rattle.spd_model.specs.Chances.{one, discount_one}
use Rattle.spd_nodes.specs.declared.leaf.Leaf.{Leaf}
use Rattle.spd_nodes.specs.declared.leaf.Leaf.TheVariants.{Num, Pair, Act}
use Rattle.spd_nodes.specs.Levels.{levels_of, slots, level_at, IsSlot}
use Rattle.spd_nodes.specs.Shown.{Shown}
use Rattle.spd_nodes.specs.Trees.{Tree, Ends}
use Rattle.spd_restrict.specs.Restricted.{cofactored}
use Rattle.spd_gather.specs.Down.{Making, down, at_each_leaf}
use Rattle.spd_gather.specs.Lists.{HoldsRows}
use Rattle.spd_gather.specs.Meeting.{Meet}
use Rattle.spd_gather.specs.Rows.{Row}
use Rattle.spd_weigh.specs.declared.way.Way.{Way}
use Rattle.spd_weigh.specs.Leaves.{rounding_of, number_of, greatest_value}

-- Each tree with the slot at a value, where two trees in turn, from number `i` on, have one value. The slot's tests are the
-- levels from `first` to below `end`.
abbrev pub taken : ℕ → ℕ → ℕ → List Tree → List Tree
taken first end i [] = []
taken first end i (t ∷ ts) = cofactored first end (i / 2) t ∷ taken first end (i + 1) ts

-- the operation at each leaf of trees that are taken at a slot's values
abbrev pub at_slot : ℕ → ℕ → ℕ → (List Leaf → Leaf) → Making
at_slot levels first end op ts = at_each_leaf levels op (taken first end 0 ts)

-- down to the slot, where each tree takes its value, and then down to the leaves
abbrev pub summed : ℕ → ℕ → ℕ → (List Leaf → Leaf) → Making
summed levels first end op ts = down (at_slot levels first end op) first 0 ts

-- the sum of each second number times the weight before it
abbrev pub products : List Leaf → ℤ
products [] = pos 0
products (w ∷ []) = pos 0
products (w ∷ f ∷ ls) = (number_of w *ℤ number_of f) +ℤ products ls

-- the sum of the weights
abbrev pub weights : List Leaf → ℤ
weights [] = pos 0
weights (w ∷ []) = pos 0
weights (w ∷ f ∷ ls) = number_of w +ℤ weights ls

-- the weighed sum of numbers, rounded
abbrev pub weighed : Way → List Leaf → Leaf
weighed way ls = Num (rounding_of way (products ls) one)

abbrev pub is_weight : Leaf → Bool
is_weight (Num a) = int_le (pos 0) a
is_weight (Pair a x) = false
is_weight (Act a) = false

abbrev pub is_value : Leaf → Bool
is_value (Num a) = int_le a greatest_value && int_le (neg_ℤ greatest_value) a
is_value (Pair a x) = false
is_value (Act a) = false

-- each weight is at least 0, and each number with another weight than 0 is in range
abbrev pub each_fits : List Leaf → Bool
each_fits [] = true
each_fits (w ∷ []) = false
each_fits (w ∷ f ∷ ls) = (is_weight w && (int_eq (number_of w) (pos 0) || is_value f)) && each_fits ls

abbrev pub fit : List Leaf → Bool
fit ls = each_fits ls && int_eq (weights ls) one

-- 1 where weights and numbers fit, else 0
abbrev pub fit_mark : List Leaf → Leaf
fit_mark ls = cond (fit ls) (Act 1) (Act 0)

-- the tree of a weight of 0
abbrev pub zero_tree : Tree
zero_tree = Ends (Num (pos 0))

-- each weight is 0 or stands before this tree
abbrev pub IsAlone : Tree → List Tree → Type 0
IsAlone u [] = Unit {0}
IsAlone u (w ∷ []) = Unit {0}
IsAlone u (w ∷ f ∷ ts) = ((w ≡ zero_tree) ⊎ (f ≡ u)) × IsAlone u ts

-- each value whose weight is 0 is 0 too
abbrev pub AreCleared : List Tree → Type 0
AreCleared [] = Unit {0}
AreCleared (w ∷ []) = Unit {0}
AreCleared (w ∷ f ∷ ts) = (w ≡ zero_tree → f ≡ zero_tree) × AreCleared ts

-- the same list, but that the weight may stand in the place of its value where it is 0
abbrev pub IsLike : List Tree → List Tree → Type 0
IsLike [] us = us ≡ []
IsLike (w ∷ []) us = us ≡ w ∷ []
IsLike (w ∷ f ∷ ts) [] = ⊥
IsLike (w ∷ f ∷ ts) (v ∷ []) = ⊥
IsLike (w ∷ f ∷ ts) (v ∷ g ∷ us) = (v ≡ w) × ((g ≡ f) ⊎ ((w ≡ zero_tree) × (g ≡ zero_tree))) × IsLike ts us

-- A list may be met: its trees may meet beside the slot, and weights and numbers fit wherever they meet.
pub record MaySum (levels first end : ℕ) (sizes : List ℕ) (ts : List Tree) : Type 0 where
  pub same : levels ≡ levels_of (slots sizes)
  pub slot : ℕ
  pub is_slot : IsSlot (slots sizes) slot first end
  pub short : length ts ≤ 128
  pub room : first ≤ 512
  pub meet : Meet (slots sizes) first end ts
  pub all_fit : summed levels first end fit_mark ts ≡ Ends (Act 1)

-- the same list, but that a weight of 0 may have gone with its value
abbrev pub IsShorter : {A : Type 0} → A → List A → List A → Type 0
IsShorter zero [] us = us ≡ []
IsShorter zero (w ∷ []) us = us ≡ w ∷ []
IsShorter {A = A} zero (w ∷ f ∷ ts) us = ((w ≡ zero) × IsShorter zero ts us) ⊎ ((vs : List A) × (us ≡ w ∷ f ∷ vs) × IsShorter zero ts vs)

-- each weight's entry beside the function's
abbrev pub beside : List Entry → Entry → List Entry
beside [] f = []
beside (w ∷ ws) f = w ∷ f ∷ beside ws f

-- a table holds only sums over a variable's next values, rounded one way
abbrev pub HoldsSums : Way → ℕ → Shown → List Row → Type 0
HoldsSums way var s rows =
    HoldsRows (summed (levels_of (slots s.sizes)) (level_at s.sizes var true 0) (level_at s.sizes var true 0 + (slice_index s.sizes var - 1)) (weighed way)) s rows

-- the number of one leaf times a discount, rounded
abbrev pub discounted_leaf : Way → ℕ → List Leaf → Leaf
discounted_leaf way discount [] = Act 0
discounted_leaf way discount (a ∷ ls) = Num (rounding_of way (pos discount *ℤ number_of a) (pos discount_one))

-- one leaf, a value in range
abbrev pub fits_one : List Leaf → Bool
fits_one [] = false
fits_one (a ∷ ls) = is_value a

-- 1 where that leaf fits, else 0
abbrev pub value_mark : List Leaf → Leaf
value_mark ls = cond (fits_one ls) (Act 1) (Act 0)

-- A tree may be discounted: its leaves are values in range.
pub record MayDiscount (levels discount : ℕ) (sizes : List ℕ) (ts : List Tree) : Type 0 where
  pub same : levels ≡ levels_of (slots sizes)
  pub small : discount ≤ 999999
  pub meet : Meet (slots sizes) 0 0 ts
  pub all_fit : at_each_leaf levels value_mark ts ≡ Ends (Act 1)

-- a table holds only functions times a discount, rounded one way
abbrev pub HoldsDiscounts : Way → ℕ → Shown → List Row → Type 0
HoldsDiscounts way discount s rows = HoldsRows (at_each_leaf (levels_of (slots s.sizes)) (discounted_leaf way discount)) s rows
