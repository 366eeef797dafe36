-- Merging: states whose joint range of values stays within a span get one value. Said of functions of the present and the next state.
use Rattle.std.specs.Prelude.{◌≡◌, ℕ, Bool, false, if◌then◌else◌, List, [], ◌∷◌, flat_map, ℤ, pos, int_le, Result, IfOk}
use Rattle.std.specs.List.{list_any}
use Rattle.spd_model.specs.Process.{Process}
use Rattle.spd_model.specs.States.{sizes, states, table_of, at}
use Rattle.spd_model.specs.Backup.{best_low, best_high}
use Rattle.spd_model.specs.Ranges.{Range, Group, is_same, in_order, groups_of, value_in}
use Rattle.spd_model.specs.Turns.{ranges_of, next_of}
use Rattle.spd_cons_core.specs.declared.key.Entry.{Entry}
use Rattle.spd_nodes.specs.declared.leaf.Leaf.{Leaf}
use Rattle.spd_nodes.specs.declared.leaf.Leaf.TheVariants.{Num, Pair, Act}
use Rattle.spd_nodes.specs.declared.forest.StoreFault.{StoreFault}
use Rattle.spd_nodes.specs.States.{Function, Agree}
use Rattle.spd_nodes.specs.Shown.{Shown, StandsFor, meaning}
use Rattle.spd_nodes.specs.Made.{MakesAll}
use Rattle.spd_apply.specs.Operations.{pair_of}
use Rattle.spd_apply.specs.Outcome.{at_each, map_each}
use Rattle.spd_ranges.specs.declared.merging.Ranged.{Ranged}

-- whether both leaves are Num, the left one at most the right one
abbrev pub at_most : Leaf → Leaf → Bool
at_most (Num a) (Num b) = int_le a b
at_most (Num a) (Pair b y) = false
at_most (Num a) (Act b) = false
at_most (Pair a x) b = false
at_most (Act a) b = false

-- a pair as a range, and a range as a pair
abbrev pub range_at : Leaf → Range
range_at (Num a) = record { low = a; high = a }
range_at (Pair a x) = record { low = a; high = x }
range_at (Act a) = record { low = pos a; high = pos a }

abbrev pub pair_at : Range → Leaf
pair_at p = Pair p.low p.high

-- the pairs of two functions' numbers
abbrev pub paired : Function → Function → Function
paired f g = at_each pair_of f g

-- the ranges that a function of pairs has, at all present and next states
abbrev pub ranges_over : List ℕ → Function → List Range
ranges_over sizes f = flat_map (λ s. table_of sizes (λ t. range_at (f s t))) (states sizes)

-- the groups of these ranges
abbrev pub groups_over : List ℕ → ℤ → Function → List Group
groups_over sizes span f = groups_of span (in_order (ranges_over sizes f))

-- the range of the group that a range is in
abbrev pub range_in : List Group → Range → Range
range_in [] p = record { low = pos 0; high = pos 0 }
range_in (g ∷ gs) p = if list_any (is_same p) g.members then record { low = g.low; high = g.high } else range_in gs p

-- the range of a leaf's group, as a pair, and the group's value: the middle of that range, rounded down
abbrev pub range_leaf : List Group → Leaf → Leaf
range_leaf groups a = pair_at (range_in groups (range_at a))

abbrev pub value_leaf : List Group → Leaf → Leaf
value_leaf groups a = Num (value_in groups (range_at a))

-- for a function of pairs, at each state the range of the group that its pair is in, and the group's value
abbrev pub group_ranges : List ℕ → ℤ → Function → Function
group_ranges sizes span pairs = map_each (range_leaf (groups_over sizes span pairs)) pairs

abbrev pub group_values : List ℕ → ℤ → Function → Function
group_values sizes span pairs = map_each (value_leaf (groups_over sizes span pairs)) pairs

-- a merge stands for three functions: the pairs, the ranges of their groups, and the values
pub record AreRanged (s : Shown) (f g h : Function) (r : Ranged) : Type 0 where
  pub pairs : StandsFor s r.pairs f
  pub range : StandsFor s r.range g
  pub mid : StandsFor s r.mid h

-- A call that makes these three. Whatever it answers, it made nodes of the three alone, and Full comes only where the forest is full
-- and lacks one of those nodes.
pub record MakesRanged (old new : Shown) (f g h : Function) (result : Result Ranged StoreFault) : Type 0 where
  pub made : MakesAll old new (f ∷ g ∷ h ∷ []) result
  pub ok : IfOk result (λ r. AreRanged new f g h r)

-- a merge of the numbers of two functions
abbrev pub Merges : Shown → Shown → ℤ → Function → Function → Result Ranged StoreFault → Type 0
Merges old new span f g result =
    MakesRanged old new (paired f g) (group_ranges old.sizes span (paired f g)) (group_values old.sizes span (paired f g)) result

-- ---- a turn of a process

-- the range of a state's value, where the table w follows
abbrev pub turn_range : Process → List ℤ → List ℕ → Range
turn_range m w s = record { low = best_low m (at (sizes m) w) s; high = best_high m (at (sizes m) w) s }

-- the ranges as pairs, the ranges of their groups, and the value of the turn after w, each at the present state
abbrev pub turn_pairs : Process → List ℤ → Function
turn_pairs m w s t = pair_at (turn_range m w s)

abbrev pub turn_ranges : Process → ℤ → List ℤ → Function
turn_ranges m span w s t = pair_at (range_in (groups_of span (in_order (ranges_of m (at (sizes m) w)))) (turn_range m w s))

abbrev pub turn_values : Process → ℤ → List ℤ → Function
turn_values m span w s t = Num (at (sizes m) (next_of m span w) s)

-- two entries have the greatest bounds of a process's actions, where the table w follows
pub record HaveBest (m : Process) (w : List ℤ) (s : Shown) (f g : Entry) : Type 0 where
  pub layout : s.sizes ≡ sizes m
  pub low : Agree s.sizes (meaning s f) (λ x t. Num (best_low m (at (sizes m) w) x))
  pub high : Agree s.sizes (meaning s g) (λ x t. Num (best_high m (at (sizes m) w) x))

-- a merge of these bounds: it gives the value of the next turn
abbrev pub MergesTurn : Process → ℤ → List ℤ → Shown → Shown → Result Ranged StoreFault → Type 0
MergesTurn m span w old new result = MakesRanged old new (turn_pairs m w) (turn_ranges m span w) (turn_values m span w) result
