-- A turn of value iteration on diagrams: the functions of a turn, by which its nodes are counted, and what a turn ends with.
use Rattle.std.specs.Prelude.{◌≡◌, ℕ, suc, List, [], ◌∷◌, ◌++◌, flat_map, ℤ, true}
use Rattle.std.specs.Set.{distinct_count}
use Rattle.spd_cons_core.specs.declared.key.Entry.{Entry}
use Rattle.spd_model.specs.Process.{Process}
use Rattle.spd_model.specs.States.{sizes, at}
use Rattle.spd_model.specs.Backup.{best_low, policy_of}
use Rattle.spd_model.specs.Turns.{turn as table_of_turn, residual_of, error_of}
use Rattle.spd_nodes.specs.declared.leaf.Leaf.TheVariants.{Act}
use Rattle.spd_nodes.specs.Shown.{Shown, IsWhole, StandsFor, meaning}
use Rattle.spd_nodes.specs.States.{Function, test_trees}
use Rattle.spd_nodes.specs.Trees.{subtrees_of, tree_eq}
use Rattle.spd_frozen.specs.declared.iterate.Iterate.{Iterate}
use Rattle.spd_frozen.specs.declared.iterate.Residual.{Residual}
use Rattle.spd_frozen.specs.Fits.{FitsModel}
use Rattle.spd_frozen.specs.Freezing.{IsOfPresent}
use Rattle.spd_frozen.specs.Frozen.{frozen_of}
use Rattle.spd_build.specs.Built.{frozen_numbers}
use Rattle.spd_build.specs.Functions.{numbers}
use Rattle.spd_backup.specs.declared.backing.Bounds.{Bounds}
use Rattle.spd_backup.specs.FromBuilt.{process_functions}
use Rattle.spd_policy.specs.Best.{best_functions, lower_bounds, upper_bounds, AreBoundsOf}
use Rattle.spd_residual.specs.Residual.{gaps_of, residual_functions, IsResidualOf}
use Rattle.spd_ranges.specs.Merging.{turn_pairs, turn_ranges, turn_values}
use Rattle.spd_turn.specs.declared.ending.Finished.{Finished}
use Rattle.spd_turn.specs.Waves.{all_backups}

-- ---- the functions of a turn

-- a value at the present state
abbrev pub present_value : (List ℕ → ℤ) → Function
present_value w = numbers (λ s t. w s)

-- The functions of a turn's end, where the table w follows: those of choosing the best of all actions; the pair of both bounds, the
-- range of its group and the value of the next turn; and those of the residual.
abbrev pub finish_functions : Process → ℤ → List ℤ → List Function
finish_functions m span w =
    best_functions (lower_bounds m (at (sizes m) w)) (upper_bounds m (at (sizes m) w))
    ++ (turn_pairs m w ∷ turn_ranges m span w ∷ turn_values m span w ∷ [])
    ++ residual_functions (gaps_of m (at (sizes m) w))

-- The functions of a turn whose value is the table w: all weights and rewards; the value; those of backing up all actions, among which
-- is the value at the next state; and those of the turn's end.
abbrev pub turn_functions : Process → ℤ → List ℤ → List Function
turn_functions m span w =
    process_functions m
    ++ (present_value (at (sizes m) w) ∷ [])
    ++ all_backups m (at (sizes m) w)
    ++ finish_functions m span w

-- the number of distinct nodes of the test trees of some functions
abbrev pub count_nodes : List ℕ → List Function → ℕ
count_nodes sizes fs = distinct_count tree_eq (flat_map subtrees_of (test_trees sizes fs))

-- the nodes of a turn
abbrev pub turn_count : Process → ℤ → List ℤ → ℕ
turn_count m span w = count_nodes (sizes m) (turn_functions m span w)

-- ---- what a turn ends with

-- the value of turn k, by state
abbrev pub value_of_turn : Process → ℤ → ℕ → List ℕ → ℤ
value_of_turn m span k = at (sizes m) (table_of_turn m span k)

-- What is told of turn k: its number, the reduced diagrams of its value and of its policy as lists of nodes, its residual with the
-- place, and its error.
pub record IsTurnOf (m : Process) (span : ℤ) (k : ℕ) (x : Iterate) : Type 0 where
  pub number : x.turn ≡ k
  pub value : x.value ≡ frozen_numbers m (value_of_turn m span k)
  pub policy : x.policy ≡ frozen_of (sizes m) (λ s. Act (policy_of m (value_of_turn m span k) s))
  pub residual : IsResidualOf m (value_of_turn m span k) x.residual
  pub error : x.error ≡ error_of m (residual_of m (value_of_turn m span k))

-- What turn k ends with: what is told of it, which fits the process, and the list of the next turn's value.
pub record IsFinished (m : Process) (span : ℤ) (k : ℕ) (f : Finished) : Type 0 where
  pub told : IsTurnOf m span k f.iterate
  pub fits : FitsModel m f.iterate
  pub next : f.next ≡ frozen_numbers m (value_of_turn m span (suc k))

-- Turn k can be finished: the forest is over the process's variables, and has a diagram of the turn's value and those of the bounds of
-- all actions where that value follows.
pub record CanFinish (m : Process) (span : ℤ) (k : ℕ) (s : Shown) (w : Entry) (all : List Bounds) : Type 0 where
  pub layout : s.sizes ≡ sizes m
  pub value : StandsFor s w (present_value (value_of_turn m span k))
  pub bounds : AreBoundsOf m (value_of_turn m span k) s all

-- the greatest lower bound where the value of turn k follows
abbrev pub greatest_low : Process → ℤ → ℕ → Function
greatest_low m span k = numbers (λ s t. best_low m (value_of_turn m span k) s)

-- ---- from diagrams to lists of nodes

-- an entry of a function of the present state
pub record IsPresent (s : Shown) (r : Entry) : Type 0 where
  pub known : s.knows r ≡ true
  pub whole : IsWhole s r
  pub present : IsOfPresent s r

-- what is told of a turn by the diagrams of its value and its policy and of the next value
pub record IsToldOf (m : Process) (s : Shown) (k : ℕ) (w act mid : Entry) (gap : Residual) (f : Finished) : Type 0 where
  pub number : f.iterate.turn ≡ k
  pub value : f.iterate.value ≡ frozen_of s.sizes (λ x. meaning s w x x)
  pub policy : f.iterate.policy ≡ frozen_of s.sizes (λ x. meaning s act x x)
  pub residual : f.iterate.residual ≡ gap
  pub error : f.iterate.error ≡ error_of m gap.r
  pub next : f.next ≡ frozen_of s.sizes (λ x. meaning s mid x x)
