-- Slots, levels and points.
--
-- A slot is a variable that takes one of d values, 0 to d - 1. It has d - 1 tests, "is it value j?", for j from 0 to d - 2.
-- Levels number the tests from 0, slot after slot and value after value. A point gives each slot a value: it is a state of
-- the slots.
use Rattle.std.specs.Prelude.{ℕ, ◌+◌, ◌-◌, ◌*◌, ◌<◌, ◌≤◌, ◌==◌, Bool, true, false, cond, nat_lt, List, [], ◌∷◌, take, length, slice_index, ◌≡◌}

-- the number of levels of some slots
abbrev pub levels_of : List ℕ → ℕ
levels_of [] = 0
levels_of (d ∷ ds) = (d - 1) + levels_of ds

-- whether a point passes the test of a level: its slot has the level's value
abbrev pub passes : List ℕ → ℕ → List ℕ → Bool
passes [] l p = false
passes (d ∷ ds) l [] = false
passes (d ∷ ds) l (x ∷ p) = cond (nat_lt l (d - 1)) (x == l) (passes ds (l - (d - 1)) p)

-- the first level after all tests of a level's slot
abbrev pub after : List ℕ → ℕ → ℕ
after [] l = 0
after (d ∷ ds) l = cond (nat_lt l (d - 1)) (d - 1) ((d - 1) + after ds (l - (d - 1)))

-- whether a level tests the first value of its slot
abbrev pub is_first : List ℕ → ℕ → Bool
is_first [] l = true
is_first (d ∷ ds) l = cond (nat_lt l (d - 1)) (l == 0) (is_first ds (l - (d - 1)))

-- each slot has a value
abbrev pub AllPositive : List ℕ → Type 0
AllPositive [] = Unit {0}
AllPositive (d ∷ ds) = (0 < d) × AllPositive ds

-- a point whose value in a level's slot is at least the level's value
abbrev pub IsPast : List ℕ → ℕ → List ℕ → Type 0
IsPast [] l p = Unit {0}
IsPast (d ∷ ds) l [] = Unit {0}
IsPast (d ∷ ds) l (x ∷ p) = cond (nat_lt l (d - 1)) (l ≤ x) (IsPast ds (l - (d - 1)) p)

-- Each variable has two slots: its next value (primed) and then its present one (plain).
abbrev pub slots : List ℕ → List ℕ
slots [] = []
slots (d ∷ ds) = d ∷ d ∷ slots ds

-- the slot of a variable's next value, or of its present one
abbrev pub slot_of : ℕ → Bool → ℕ
slot_of var primed = 2 * var + cond primed 0 1

-- the level of the test of a variable's value, after all levels of the slots before
abbrev pub level_at : List ℕ → ℕ → Bool → ℕ → ℕ
level_at sizes var primed value = levels_of (take (slot_of var primed) (slots sizes)) + value

-- a level asks for a value of a variable, primed or plain, that isn't the variable's last one
pub record IsTestOf (sizes : List ℕ) (level var : ℕ) (primed : Bool) (value : ℕ) : Type 0 where
  pub var_in : var < length sizes
  pub value_in : value + 1 < slice_index sizes var
  pub level_is : level_at sizes var primed value ≡ level

-- a slot's tests are the levels from `first` to below `end`
pub record IsSlot (ds : List ℕ) (slot first end : ℕ) : Type 0 where
  pub slot_in : slot < length ds
  pub first_is : first ≡ levels_of (take slot ds)
  pub end_is : end ≡ first + (slice_index ds slot - 1)
