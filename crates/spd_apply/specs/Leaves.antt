-- The leaves of a function.
use Rattle.std.specs.Prelude.{◌≡◌, ℕ, ◌&&◌, ◌||◌, Bool, true, false, nat_lt, int_lt, List, Contains}
use Rattle.std.specs.List.{AllPairs}
use Rattle.std.specs.Ordering.{int_eq}
use Rattle.spd_nodes.specs.declared.leaf.Leaf.{Leaf}
use Rattle.spd_nodes.specs.declared.leaf.Leaf.TheVariants.{Num, Pair, Act}
use Rattle.spd_model.specs.States.{IsState}
use Rattle.spd_nodes.specs.States.{Function}

-- whether a leaf stands before another one: each Num before each Pair, and both before each Act; two Num or two Act by their
-- numbers; two Pair by their first numbers, and where these are equal by their second ones
abbrev pub leaf_before : Leaf → Leaf → Bool
leaf_before (Num a) (Num b) = int_lt a b
leaf_before (Num a) (Pair b y) = true
leaf_before (Num a) (Act b) = true
leaf_before (Pair a x) (Num b) = false
leaf_before (Pair a x) (Pair b y) = int_lt a b || (int_eq a b && int_lt x y)
leaf_before (Pair a x) (Act b) = true
leaf_before (Act a) (Num b) = false
leaf_before (Act a) (Pair b y) = false
leaf_before (Act a) (Act b) = nat_lt a b

-- a leaf is a function's value at some present state and some next one
pub record IsTaken (sizes : List ℕ) (function : Function) (leaf : Leaf) : Type 0 where
  pub present : List ℕ
  pub next : List ℕ
  pub present_in : IsState sizes present
  pub next_in : IsState sizes next
  pub value : function present next ≡ leaf

-- A list has each value that a function takes and no other leaf, each before all that come after it.
pub record AreLeavesOf (sizes : List ℕ) (function : Function) (leaves : List Leaf) : Type 0 where
  pub all : (s t : List ℕ) → IsState sizes s → IsState sizes t → Contains leaves (function s t)
  pub only : (leaf : Leaf) → Contains leaves leaf → IsTaken sizes function leaf
  pub ascending : AllPairs (λ a b. leaf_before a b ≡ true) leaves

-- Each leaf that one function takes fits each leaf that another one takes.
pub record EachFit (fits : Leaf → Leaf → Bool) (sizes : List ℕ) (f g : Function) : Type 0 where
  pub at : (a b : Leaf) → IsTaken sizes f a → IsTaken sizes g b → fits a b ≡ true
