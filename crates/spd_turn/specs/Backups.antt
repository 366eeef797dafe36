-- The backups of all actions, one after another.
use Rattle.std.specs.Prelude.{ℕ, List, take, ℤ, Result, IfOk, Vec}
use Rattle.std.specs.Global.{Global}
use Rattle.spd_model.specs.Process.{Process}
use Rattle.spd_nodes.specs.declared.forest.StoreFault.{StoreFault}
use Rattle.spd_nodes.specs.Made.{HasMade, MakesAll}
use Rattle.spd_nodes.specs.Shown.{Shown}
use Rattle.spd_backup.specs.declared.backing.Bounds.{Bounds}
use Rattle.spd_turn.specs.Waves.{all_backups, AreBackedUp}

-- A call that backs up all actions: it makes nodes of the backups' functions alone, and Ok gives the bounds of all actions in file order.
pub record BacksUpAll (m : Process) (value : List ℕ → ℤ) (old new : Shown) (result : Result (Vec Bounds Global) StoreFault) : Type 0 where
  pub made : MakesAll old new (all_backups m value) result
  pub ok : IfOk result (λ v. AreBackedUp m value new v.items m.actions)

-- the first n actions are backed up
pub record HaveBackedUp (m : Process) (value : List ℕ → ℤ) (start : Shown) (n : ℕ) (s : Shown) (done : List Bounds) : Type 0 where
  pub made : HasMade start s (all_backups m value)
  pub bounds : AreBackedUp m value s done (take n m.actions)
