-- Functions that don't follow a variable's next value, and trees that don't test it.
use Rattle.std.specs.Prelude.{ℕ, ◌<◌, ◌≤◌, ◌⊎◌, true, List, Contains}
use Rattle.spd_cons_core.specs.declared.key.Entry.{Entry}
use Rattle.spd_nodes.specs.Shown.{Shown}
use Rattle.spd_nodes.specs.States.{Function, Agree}
use Rattle.spd_nodes.specs.Trees.{Tree, Ends, Tests}
use Rattle.spd_restrict.specs.Restricted.{restricted}

-- a function is the same at each of a variable's next values
pub record IsFreeOf (var : ℕ) (sizes : List ℕ) (f : Function) : Type 0 where
  pub at : (v : ℕ) → Agree sizes (restricted var true v f) f

-- a tree tests no level from `first` to below `end`
abbrev pub TestsNone : ℕ → ℕ → Tree → Type 0
TestsNone first end (Ends a) = Unit {0}
TestsNone first end (Tests l y n) = ((l < first) ⊎ (end ≤ l)) × TestsNone first end y × TestsNone first end n

-- no entry of a list reaches such a test
pub record AreFree (first end : ℕ) (s : Shown) (refs : List Entry) : Type 0 where
  pub each : (q : Entry) → Contains refs q → TestsNone first end (s.tree q)
