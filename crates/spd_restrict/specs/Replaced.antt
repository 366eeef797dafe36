-- A diagram with another one in its place at one value of a variable: the function, the tree, and which trees may meet.
use Rattle.std.specs.Prelude.{◌≡◌, ℕ, ◌+◌, ◌<◌, ◌≤◌, ◌==◌, Bool, true, cond, nat_lt, List}
use Rattle.std.proofs.Common.{zero, suc}
use Rattle.spd_nodes.specs.Levels.{after, is_first, slots, IsSlot}
use Rattle.spd_nodes.specs.Trees.{Tree, Ends, Tests, join, IsAtOrPast}
use Rattle.spd_nodes.specs.States.{Function}
use Rattle.spd_apply.specs.Applied.{against}
use Rattle.spd_apply.specs.Halves.{yes_at, no_at, IsNotBefore, IsAligned}
use Rattle.spd_restrict.specs.Chosen.{variable_value}

-- one function at one value of a variable, and another one elsewhere
abbrev pub replaced_at : ℕ → Bool → ℕ → Function → Function → Function
replaced_at var primed value f g s t = cond (variable_value var primed s t == value) (f s t) (g s t)

-- at a slot: the second tree, with the first one in its place after so many tests from a level on
abbrev pub replaced_after : ℕ → ℕ → Tree → Tree → Tree
replaced_after zero l t u = join l (yes_at l t) (no_at l u)
replaced_after (suc n) l t u = join l (yes_at l u) (replaced_after n (l + 1) (no_at l t) (no_at l u))

-- a tree down to a level, where it goes on otherwise
abbrev pub down_to : ℕ → (Tree → Tree) → Tree → Tree
down_to first go (Ends a) = go (Ends a)
down_to first go (Tests l y n) = cond (nat_lt l first) (join l (down_to first go y) (down_to first go n)) (go (Tests l y n))

-- the second tree, with the first one in its place at one value of a slot, whose tests begin at level `first`
abbrev pub replaced : ℕ → ℕ → Tree → Tree → Tree
replaced first value (Ends a) u = down_to first (replaced_after value first (Ends a)) u
replaced first value (Tests k y n) u =
    cond (nat_lt k first) (against k (replaced first value y) (replaced first value n) u) (down_to first (replaced_after value first (Tests k y n)) u)

-- a tree that isn't before a level is whole
abbrev pub IsWholeFrom : List ℕ → ℕ → Tree → Type 0
IsWholeFrom ds first (Ends a) = Unit {0}
IsWholeFrom ds first (Tests l y n) = first ≤ l → is_first ds l ≡ true

-- two trees of which one may stand in the other's place at a value of a slot that isn't its last one
pub record MayReplace (first value : ℕ) (sizes : List ℕ) (t u : Tree) : Type 0 where
  pub slot : ℕ
  pub end : ℕ
  pub is_slot : IsSlot (slots sizes) slot first end
  pub value_in : first + value < end
  pub aligned : IsAligned (slots sizes) t u
  pub left : IsWholeFrom (slots sizes) first t
  pub right : IsWholeFrom (slots sizes) first u

-- two trees that meet at the slot
pub record MeetAt (first : ℕ) (t u : Tree) : Type 0 where
  pub left : IsNotBefore first t
  pub right : IsNotBefore first u

-- two trees at a slot's test, with so many tests from it to the value's own one
pub record CanReplace (before l : ℕ) (sizes : List ℕ) (t u : Tree) : Type 0 where
  pub within : l + before < after (slots sizes) l
  pub left : IsAtOrPast (slots sizes) l t
  pub right : IsAtOrPast (slots sizes) l u
