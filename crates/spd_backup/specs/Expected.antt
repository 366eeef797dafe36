-- The expectations and bounds of an action, as functions of the present and the next state, and the functions of a backup.
use Rattle.std.specs.Prelude.{ℕ, suc, ◌<◌, List, [], ◌∷◌, ◌++◌, length, flat_map, drop, ℤ, slice_index, Result, IfOk, IfErr}
use Rattle.spd_cons_core.specs.declared.key.Entry.{Entry}
use Rattle.spd_model.specs.declared.process.Action.{Action}
use Rattle.spd_model.specs.Process.{Process}
use Rattle.spd_model.specs.Numbers.{numbers_below}
use Rattle.spd_model.specs.States.{sizes}
use Rattle.spd_model.specs.Chances.{probability}
use Rattle.spd_model.specs.Backup.{expected_by, expectation, return_of}
use Rattle.spd_nodes.specs.declared.forest.StoreFault.{StoreFault}
use Rattle.spd_nodes.specs.Shown.{Shown, IsSound, Grows, StandsFor, MakesNodesOf, FaultsAt}
use Rattle.spd_nodes.specs.States.{Function}
use Rattle.spd_weigh.specs.declared.way.Way.{Way}
use Rattle.spd_weigh.specs.declared.way.Way.TheVariants.{Down, Up}
use Rattle.spd_weigh.specs.Discounting.{discount_functions}
use Rattle.spd_weigh.specs.Leaves.{rounding_of}
use Rattle.spd_weigh.specs.Weighing.{sum_out_functions}
use Rattle.spd_backup.specs.declared.backing.Bounds.{Bounds}
use Rattle.spd_build.specs.Functions.{numbers, weights_of}

-- a value at the next state, by which each plain name is primed
abbrev pub next_value : (List ℕ → ℤ) → Function
next_value w = numbers (λ s t. w t)

-- the expectation of w after an action, over the next values of the first i variables, rounded one way after each of them: a function
-- of the next values of the others
abbrev pub expected : Way → Process → Action → (List ℕ → ℤ) → ℕ → Function
expected way m a w i = numbers (λ s t. expected_by (rounding_of way) (slice_index (sizes m)) (probability m a s) w i (drop i t))

-- the bound of the action's return where w follows: the lower one is rounded down, the upper one up
abbrev pub bound : Way → Process → Action → (List ℕ → ℤ) → Function
bound way m a w = numbers (λ s t. return_of (rounding_of way) m (expectation (rounding_of way) m w) a s)

-- The functions of one bound: those of summing out each variable in order, that of the discounted expectation, and the bound.
abbrev pub bound_functions : Way → Process → Action → (List ℕ → ℤ) → List Function
bound_functions way m a w =
    flat_map (λ i. sum_out_functions way i (weights_of m a i) (expected way m a w i)) (numbers_below (length m.vars))
    ++ (discount_functions way m.discount (expected way m a w (length m.vars)) ++ bound way m a w ∷ [])

-- The functions of backing up an action, by which a turn's nodes are counted: the value at the next state, and those of both bounds.
abbrev pub backup_functions : Process → Action → (List ℕ → ℤ) → List Function
backup_functions m a w = next_value w ∷ (bound_functions Down m a w ++ bound_functions Up m a w)

-- some whole entry that is known stands for a function
pub record IsMade (s : Shown) (f : Function) : Type 0 where
  pub ref : Entry
  pub stands : StandsFor s ref f

-- the expectations over the first variables, up to n of them, are made
pub record AreExpected (way : Way) (m : Process) (a : Action) (w : List ℕ → ℤ) (s : Shown) (n : ℕ) : Type 0 where
  pub each : (i : ℕ) → i < n → IsMade s (expected way m a w (suc i))

-- Both bounds of an action where w follows, with all expectations on the way, both ways.
pub record AreBounds (m : Process) (a : Action) (w : List ℕ → ℤ) (s : Shown) (b : Bounds) : Type 0 where
  pub low : StandsFor s b.lo (bound Down m a w)
  pub high : StandsFor s b.hi (bound Up m a w)
  pub low_expected : AreExpected Down m a w s (length m.vars)
  pub high_expected : AreExpected Up m a w s (length m.vars)

-- A backup of an action where w follows. Whatever it answers, the forest is sound afterwards, shows all that it showed, and
-- published nodes of the backup's functions alone. Ok gives both bounds, and Full comes only where the forest is full and lacks one of
-- those nodes.
pub record BacksUp (m : Process) (a : Action) (w : List ℕ → ℤ) (old new : Shown) (result : Result Bounds StoreFault) : Type 0 where
  pub sound : IsSound new
  pub grows : Grows old new
  pub ok : IfOk result (λ b. AreBounds m a w new b)
  pub makes : MakesNodesOf old new (backup_functions m a w)
  pub fault : IfErr result (λ e. FaultsAt e new (backup_functions m a w))
