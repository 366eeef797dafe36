-- A function with one value held fixed, and a tree with one slot at a value.
use Rattle.std.specs.Prelude.{ℕ, ◌+◌, ◌<◌, ◌≤◌, ◌==◌, Bool, cond, nat_lt, List, slice_set}
use Rattle.spd_nodes.specs.Levels.{slots, IsSlot}
use Rattle.spd_nodes.specs.Trees.{Tree, Ends, Tests, join}
use Rattle.spd_nodes.specs.States.{Function}

-- a function with a variable's next value (primed) or present one at this value
abbrev pub restricted : ℕ → Bool → ℕ → Function → Function
restricted var primed value f s t = cond primed (f s (slice_set t var value)) (f (slice_set s var value) t)

-- a tree with a slot at a value: the slot's tests are the levels from `first` to below `end`
abbrev pub cofactored : ℕ → ℕ → ℕ → Tree → Tree
cofactored first end value (Ends a) = Ends a
cofactored first end value (Tests l y n) =
    cond (nat_lt l first) (join l (cofactored first end value y) (cofactored first end value n))
    (cond (nat_lt l end) (cond (l == first + value) y (cofactored first end value n)) (Tests l y n))

-- where the root tests the slot, its value isn't above this one
abbrev pub IsUpTo : ℕ → ℕ → ℕ → Tree → Type 0
IsUpTo first end value (Ends a) = Unit {0}
IsUpTo first end value (Tests l y n) = first ≤ l → l < end → l ≤ first + value

-- which trees a cofactor may meet
pub record MayRestrict (first end value : ℕ) (sizes : List ℕ) (t : Tree) : Type 0 where
  pub slot : ℕ
  pub is_slot : IsSlot (slots sizes) slot first end
  pub value_in : first + value ≤ end
  pub up_to : IsUpTo first end value t
