-- The greatest bounds over all actions and the policy, as functions of the present and the next state (SPUDD, UAI 1999).
use Rattle.std.specs.Prelude.{◌≡◌, ℕ, suc, List, [], ◌∷◌, ◌++◌, length, map, flat_map, take, ℤ, pos, true, Result, IfOk, IfErr}
use Rattle.std.specs.List.{AllZip}
use Rattle.spd_cons_core.specs.declared.key.Entry.{Entry}
use Rattle.spd_model.specs.Process.{Process}
use Rattle.spd_model.specs.Numbers.{numbers_below, greatest, first_place}
use Rattle.spd_model.specs.States.{IsState}
use Rattle.spd_model.specs.Backup.{best_low, best_high, policy_of}
use Rattle.spd_nodes.specs.declared.forest.StoreFault.{StoreFault}
use Rattle.spd_nodes.specs.declared.leaf.Leaf.{Leaf}
use Rattle.spd_nodes.specs.declared.leaf.Leaf.TheVariants.{Num, Pair, Act}
use Rattle.spd_nodes.specs.Shown.{Shown, IsSound, IsWhole, Grows, StandsFor, MakesNodesOf, FaultsAt, meaning}
use Rattle.spd_nodes.specs.States.{Function}
use Rattle.spd_restrict.specs.Chosen.{function_at}
use Rattle.spd_weigh.specs.declared.way.Way.TheVariants.{Down, Up}
use Rattle.spd_weigh.specs.Leaves.{number_of}
use Rattle.spd_build.specs.Functions.{numbers, constant}
use Rattle.spd_backup.specs.declared.backing.Bounds.{Bounds}
use Rattle.spd_backup.specs.Expected.{bound}
use Rattle.spd_policy.specs.declared.chosen.Best.{Best}

-- the numbers of functions at a point
abbrev pub numbers_at : List Function → List ℕ → List ℕ → List ℤ
numbers_at fs s t = map (λ f. number_of (f s t)) fs

-- at each point the greatest number of some functions
abbrev pub greatest_of : List Function → Function
greatest_of fs = numbers (λ s t. greatest (numbers_at fs s t))

-- the place of the first of some functions that has the greatest number at a point
abbrev pub place_at : List Function → List ℕ → List ℕ → ℕ
place_at fs s t = first_place (greatest (numbers_at fs s t)) (numbers_at fs s t)

-- the policy: at each point that place among the actions' lower bounds, as an action
abbrev pub policy_by : List Function → Function
policy_by lows s t = Act (place_at lows s t)

-- a function's number with the number of an action
abbrev pub with_action : ℕ → Function → Function
with_action a f s t = Pair (number_of (f s t)) (pos a)

-- the greatest number of some functions with the place of the first of them that has it
abbrev pub greatest_with_place : List Function → Function
greatest_with_place fs s t = Pair (greatest (numbers_at fs s t)) (pos (place_at fs s t))

-- The functions of choosing the best up to action a: its number; its lower bound with that number; the greatest lower bound of the
-- actions up to it with the first of them that has it; and the greatest upper bound of these.
abbrev pub choosing_functions : List Function → List Function → ℕ → List Function
choosing_functions lows highs a = constant (pos a) ∷ with_action a (function_at lows a) ∷ greatest_with_place (take (suc a) lows) ∷ greatest_of (take (suc a) highs) ∷ []

-- The functions of choosing the best of all actions, by which a turn's nodes are counted: those of each action in order, the greatest
-- lower bound, and the policy.
abbrev pub best_functions : List Function → List Function → List Function
best_functions lows highs = flat_map (choosing_functions lows highs) (numbers_below (length lows)) ++ greatest_of lows ∷ policy_by lows ∷ []

-- a leaf is a number
abbrev pub IsNum : Leaf → Type 0
IsNum (Num x) = Unit {0}
IsNum (Pair x y) = ⊥
IsNum (Act a) = ⊥

-- a whole entry that is known, with a number at each state
pub record IsNumeric (s : Shown) (r : Entry) : Type 0 where
  pub known : s.knows r ≡ true
  pub whole : IsWhole s r
  pub numbers : (x y : List ℕ) → IsState s.sizes x → IsState s.sizes y → IsNum (meaning s r x y)

-- both bounds of an action are such entries
pub record AreNumeric (s : Shown) (b : Bounds) : Type 0 where
  pub lower : IsNumeric s b.lo
  pub upper : IsNumeric s b.hi

-- all lower bounds, and all upper ones
abbrev pub lows_of : List Bounds → List Entry
lows_of bounds = map (λ (b : Bounds). b.lo) bounds

abbrev pub highs_of : List Bounds → List Entry
highs_of bounds = map (λ (b : Bounds). b.hi) bounds

-- their functions
abbrev pub lows_in : Shown → List Bounds → List Function
lows_in s bounds = map (meaning s) (lows_of bounds)

abbrev pub highs_in : Shown → List Bounds → List Function
highs_in s bounds = map (meaning s) (highs_of bounds)

-- the two greatest bounds and the policy stand for these functions
pub record AreBest (greatest_low greatest_high policy : Function) (s : Shown) (b : Best) : Type 0 where
  pub low : StandsFor s b.low greatest_low
  pub high : StandsFor s b.high greatest_high
  pub act : StandsFor s b.act policy

-- A call that makes the two greatest bounds and the policy. Whatever it answers, the forest is sound afterwards, shows all that it
-- showed, and published nodes of choosing the best alone. Ok gives the three, and Full comes only where the forest is full and lacks
-- one of those nodes.
pub record MakesBest (low high act : Function) (nodes : List Function) (old new : Shown) (result : Result Best StoreFault) : Type 0 where
  pub sound : IsSound new
  pub grows : Grows old new
  pub ok : IfOk result (AreBest low high act new)
  pub makes : MakesNodesOf old new nodes
  pub fault : IfErr result (λ e. FaultsAt e new nodes)

-- the same of some lower and upper bounds
abbrev pub MakesBestOf : List Function → List Function → Shown → Shown → Result Best StoreFault → Type 0
MakesBestOf lows highs = MakesBest (greatest_of lows) (greatest_of highs) (policy_by lows) (best_functions lows highs)

-- ---- the bounds of a process

-- the lower and the upper bounds of all actions where w follows, in file order
abbrev pub lower_bounds : Process → (List ℕ → ℤ) → List Function
lower_bounds m w = map (λ a. bound Down m a w) m.actions

abbrev pub upper_bounds : Process → (List ℕ → ℤ) → List Function
upper_bounds m w = map (λ a. bound Up m a w) m.actions

-- the bounds of all actions where w follows, in file order
pub record AreBoundsOf (m : Process) (w : List ℕ → ℤ) (s : Shown) (bounds : List Bounds) : Type 0 where
  pub low : AllZip (StandsFor s) (lows_of bounds) (lower_bounds m w)
  pub high : AllZip (StandsFor s) (highs_of bounds) (upper_bounds m w)

-- the best of them: at each present state the greatest lower and the greatest upper bound, and the policy
abbrev pub MakesPolicy : Process → (List ℕ → ℤ) → Shown → Shown → Result Best StoreFault → Type 0
MakesPolicy m w =
    MakesBest (numbers (λ s t. best_low m w s)) (numbers (λ s t. best_high m w s)) (λ s t. Act (policy_of m w s)) (best_functions (lower_bounds m w) (upper_bounds m w))
