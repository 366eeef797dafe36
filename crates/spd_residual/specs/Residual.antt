-- The Bellman residual of a value and its place, by gaps at each state.
use Rattle.std.specs.Prelude.{◌≡◌, ℕ, true, ◌||◌, if◌then◌else◌, List, [], ◌∷◌, ℤ, pos, ◌-ℤ◌, ◌≤ℤ◌, find, unwrap_or, Result, IfOk}
use Rattle.std.specs.Int.{int_max}
use Rattle.std.specs.List.{position_or_len}
use Rattle.std.specs.Ordering.{int_eq}
use Rattle.spd_cons_core.specs.declared.key.Entry.{Entry}
use Rattle.spd_model.specs.declared.Side.TheVariants.{Above, Below}
use Rattle.spd_model.specs.Process.{Process}
use Rattle.spd_model.specs.Numbers.{greatest}
use Rattle.spd_model.specs.States.{sizes, states, IsState, table_of}
use Rattle.spd_model.specs.Backup.{policy_of, highest_of}
use Rattle.spd_model.specs.Turns.{Place, gap_above, gap_below, residual_of, place_of}
use Rattle.spd_nodes.specs.declared.forest.StoreFault.{StoreFault}
use Rattle.spd_nodes.specs.declared.leaf.Leaf.{Leaf}
use Rattle.spd_nodes.specs.Made.{MakesAll}
use Rattle.spd_nodes.specs.Shown.{Shown, IsWhole, meaning}
use Rattle.spd_nodes.specs.States.{Function}
use Rattle.spd_nodes.specs.Trees.{leaf_eq}
use Rattle.spd_weigh.specs.Leaves.{number_of, HasValues}
use Rattle.spd_build.specs.Functions.{numbers}
use Rattle.spd_backup.specs.declared.backing.Bounds.{Bounds}
use Rattle.spd_policy.specs.Best.{numbers_at, place_at, lows_in, highs_in}
use Rattle.spd_frozen.specs.declared.iterate.Residual.{Residual}

-- What a residual is taken of, at each state: how far the greatest upper bound lies above the value, how far the greatest lower bound
-- lies below it, the number of the first action with the greatest upper bound, and that of the first with the greatest lower bound.
pub record Gaps : Type 0 where
  pub above : List ℕ → ℤ
  pub below : List ℕ → ℤ
  pub highest : List ℕ → ℕ
  pub policy : List ℕ → ℕ

-- the greater gap at a state
abbrev pub greater_gap : Gaps → List ℕ → ℤ
greater_gap g s = int_max (g.above s) (g.below s)

-- the residual: the greatest of 0 and of all gaps
abbrev pub residual_over : List ℕ → Gaps → ℤ
residual_over sizes g = greatest (pos 0 ∷ table_of sizes (greater_gap g))

-- the first state at which one of the two gaps equals r
abbrev pub state_over : List ℕ → Gaps → ℤ → List ℕ
state_over sizes g r = unwrap_or (find (λ s. int_eq r (g.above s) || int_eq r (g.below s)) (states sizes)) []

-- the side and the action by which r comes at a state: above where the gap above equals r, else below
abbrev pub place_at_state : Gaps → ℤ → List ℕ → Place
place_at_state g r s = if int_eq r (g.above s) then record { state = s; side = Above; action = g.highest s } else record { state = s; side = Below; action = g.policy s }

-- the place of the residual r
abbrev pub place_over : List ℕ → Gaps → ℤ → Place
place_over sizes g r = place_at_state g r (state_over sizes g r)

-- a residual with its place
pub record IsResidual (sizes : List ℕ) (g : Gaps) (x : Residual) : Type 0 where
  pub number : x.r ≡ residual_over sizes g
  pub place : record { state = x.at; side = x.side; action = x.action } ≡ place_over sizes g x.r
  pub state : IsState sizes x.at

-- the number of the first of some bounds whose upper one has a leaf at a state; that of all bounds where none has it
abbrev pub first_upper : Shown → List Bounds → Leaf → List ℕ → ℕ
first_upper s bounds leaf x = position_or_len (λ (b : Bounds). leaf_eq leaf (meaning s b.hi x x)) bounds

-- The functions of a residual, by which a turn's nodes are counted: the gap above, the gap below, and the greater of the two.
abbrev pub residual_functions : Gaps → List Function
residual_functions g = numbers (λ s t. g.above s) ∷ numbers (λ s t. g.below s) ∷ numbers (λ s t. greater_gap g s) ∷ []

-- A call that finds a residual. Whatever it answers, the forest is sound afterwards, shows all that it showed, and published nodes of the
-- residual's functions alone. Ok gives the residual with its place, and Full comes only where the forest is full and lacks one of those
-- nodes.
pub record FindsResidual (sizes : List ℕ) (g : Gaps) (old new : Shown) (result : Result Residual StoreFault) : Type 0 where
  pub all : MakesAll old new (residual_functions g) result
  pub ok : IfOk result (IsResidual sizes g)

-- ---- the gaps of diagrams

-- a whole entry that is known, whose values are numbers of at most (10^18 + 1) * 10^6 in magnitude
pub record IsValued (s : Shown) (r : Entry) : Type 0 where
  pub known : s.knows r ≡ true
  pub whole : IsWhole s r
  pub values : HasValues s.sizes (meaning s r)

-- such an entry whose value is the present state's alone
pub record IsValueOfState (s : Shown) (r : Entry) : Type 0 where
  pub valued : IsValued s r
  pub present : (x y : List ℕ) → IsState s.sizes x → IsState s.sizes y → meaning s r x y ≡ meaning s r x x

-- both bounds of an action are such entries, the lower one at most the upper one at each state
pub record AreOrdered (s : Shown) (b : Bounds) : Type 0 where
  pub lower : IsValueOfState s b.lo
  pub upper : IsValueOfState s b.hi
  pub ordered : (x : List ℕ) → IsState s.sizes x → number_of (meaning s b.lo x x) ≤ℤ number_of (meaning s b.hi x x)

-- the gaps of a value between the greatest of some upper bounds and the greatest of some lower ones
abbrev pub gaps_between : Function → List Function → List Function → Gaps
gaps_between w lows highs = record {
  above = λ s. greatest (numbers_at highs s s) -ℤ number_of (w s s);
  below = λ s. number_of (w s s) -ℤ greatest (numbers_at lows s s);
  highest = λ s. place_at highs s s;
  policy = λ s. place_at lows s s;
}

-- those of the functions for which diagrams stand
abbrev pub gaps_in : Shown → Entry → List Bounds → Gaps
gaps_in s w bounds = gaps_between (meaning s w) (lows_in s bounds) (highs_in s bounds)

-- ---- the gaps of a process

-- the gaps of a process's value
abbrev pub gaps_of : Process → (List ℕ → ℤ) → Gaps
gaps_of m w = record { above = gap_above m w; below = gap_below m w; highest = highest_of m w; policy = policy_of m w }

-- the Bellman residual of a process's value, with its place
pub record IsResidualOf (m : Process) (w : List ℕ → ℤ) (x : Residual) : Type 0 where
  pub number : x.r ≡ residual_of m w
  pub place : record { state = x.at; side = x.side; action = x.action } ≡ place_of m w x.r
  pub state : IsState (sizes m) x.at

-- a call that finds it
pub record FindsResidualOf (m : Process) (w : List ℕ → ℤ) (old new : Shown) (result : Result Residual StoreFault) : Type 0 where
  pub all : MakesAll old new (residual_functions (gaps_of m w)) result
  pub ok : IfOk result (IsResidualOf m w)
