-- What is made on the way to an action's bounds.
use Rattle.std.specs.Prelude.{◌≡◌, ℕ, ◌+◌, ◌*◌, ◌<◌, ◌≤◌, List, length, map, sum, slice_index, true, ℤ, Result, IfOk, All}
use Rattle.spd_cons_core.specs.declared.key.Entry.{Entry}
use Rattle.spd_model.specs.declared.process.Action.{Action}
use Rattle.spd_model.specs.Process.{Process}
use Rattle.spd_model.specs.States.{sizes}
use Rattle.spd_model.specs.Turns.{IsBounded}
use Rattle.spd_nodes.specs.declared.forest.StoreFault.{StoreFault}
use Rattle.spd_nodes.specs.Shown.{Shown, IsWhole, StandsFor, MakesAmong, meaning}
use Rattle.spd_gather.specs.Lists.{AreKnown}
use Rattle.spd_weigh.specs.declared.way.Way.{Way}
use Rattle.spd_weigh.specs.Leaves.{HasValues}
use Rattle.spd_weigh.specs.Weighing.{AreWeights}
use Rattle.spd_backup.specs.declared.tables.SumTables.{SumTables}
use Rattle.spd_backup.specs.declared.thawed.Thawed.{Thawed}
use Rattle.spd_backup.specs.Expected.{next_value, expected, bound, backup_functions, AreExpected}
use Rattle.spd_backup.specs.Keeping.{HoldVariable}
use Rattle.spd_backup.specs.Thawing.{weights_in, HasAction}

-- an action is backed up where a value within limits follows, whose primed diagram is there
pub record Follows (m : Process) (a : Action) (w : List ℕ → ℤ) (s : Shown) (x : Thawed) (action : ℕ) (next : Entry) : Type 0 where
  pub has : HasAction m a s x action
  pub bounded : IsBounded (sizes m) w
  pub stands : StandsFor s next (next_value w)

-- some action is backed up where some value follows
pub record IsFollowed (s : Shown) (x : Thawed) (action : ℕ) (next : Entry) : Type 0 where
  pub process : Process
  pub chosen : Action
  pub value : List ℕ → ℤ
  pub follows : Follows process chosen value s x action next

-- the expectation over the first variables is made, on the way nodes of the backup's functions alone, and so are those over fewer
pub record MakesFirst (way : Way) (m : Process) (a : Action) (w : List ℕ → ℤ) (n : ℕ) (old new : Shown) (result : Result Entry StoreFault) : Type 0 where
  pub among : MakesAmong old new (expected way m a w n) (backup_functions m a w) result
  pub known : IfOk result (λ _. AreExpected way m a w new n)

abbrev pub MakesExpected : Way → Process → Action → (List ℕ → ℤ) → Shown → Shown → Result Entry StoreFault → Type 0
MakesExpected way m a w old new result = MakesFirst way m a w (length m.vars) old new result

-- the bound is made in the same way
pub record MakesBound (way : Way) (m : Process) (a : Action) (w : List ℕ → ℤ) (old new : Shown) (result : Result Entry StoreFault) : Type 0 where
  pub among : MakesAmong old new (bound way m a w) (backup_functions m a w) result
  pub known : IfOk result (λ _. AreExpected way m a w new (length m.vars))

-- a variable may be summed out of an entry by an action's weights of it, with tables of such sums
pub record CanSumOut (way : Way) (s : Shown) (x : Thawed) (e : Entry) (action var : ℕ) (tables : SumTables) : Type 0 where
  pub few : length x.sizes.items ≤ 100
  pub var_in : var < length x.sizes.items
  pub room : (action + 1) * sum x.sizes.items ≤ length x.weights.items
  pub known : s.knows e ≡ true
  pub whole : IsWhole s e
  pub weights_known : AreKnown s (weights_in x.sizes.items x.weights.items action var)
  pub weights_whole : All (λ r. IsWhole s r) (weights_in x.sizes.items x.weights.items action var)
  pub var_there : var < length s.sizes
  pub count : length (weights_in x.sizes.items x.weights.items action var) ≡ slice_index s.sizes var
  pub weights : AreWeights s.sizes var (map (meaning s) (weights_in x.sizes.items x.weights.items action var))
  pub values : HasValues s.sizes (meaning s e)
  pub held : HoldVariable way var s tables
