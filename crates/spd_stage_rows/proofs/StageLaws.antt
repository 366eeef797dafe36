-- A model's parts in a forest, and a backup of one of its actions.
use Rattle.std.proofs.Common.{◌≡◌, ◌<◌, ℕ, zero, suc, true, List, [], ◌∷◌, ℤ, length, slice_get, Some, Result, Ok, Err, IfOk, refl, arith}
use Rattle.spd_cons_core.specs.declared.key.Entry.{Entry}
use Rattle.spd_model.specs.declared.process.Action.{Action}
use Rattle.spd_model.specs.Process.{Process}
use Rattle.spd_nodes.specs.declared.forest.StoreFault.{StoreFault}
use Rattle.spd_nodes.specs.Shown.{Shown, Grows, meaning}
use Rattle.spd_apply.specs.Outcome.{FitsEverywhere}
use Rattle.spd_weigh.specs.Leaves.{number_of}
use Rattle.spd_backup.specs.declared.backing.Bounds.{Bounds}
use Rattle.spd_backup.specs.declared.thawed.Thawed.{Thawed}
use Rattle.spd_backup.specs.Expected.{BacksUp, AreBounds}
use Rattle.spd_backup.specs.Thawing.{IsThawedOf, IsThawed, HasAction, HasNumbers}
use Rattle.spd_stage_rows.specs.Values.{is_value}
use Rattle.spd_backup.proofs.CallerLemmas.{own-numbers}
use Rattle.spd_stage_rows.proofs.ValueLaws.{has-values}

-- the entry of a list at a place
record HasEntry {X : Type 0} (xs : List X) (i : ℕ) : Type 0 where
  pub entry : X
  pub is : slice_get xs i ≡ Some entry

entry-at : {X : Type 0} (xs : List X) (i : ℕ) → i < length xs → HasEntry xs i
entry-at [] i near = absurd (omega arith)
entry-at (x ∷ xs) zero near = record { entry = x; is = refl }
entry-at (x ∷ xs) (suc i) near = let later = entry-at xs i (omega arith) in record { entry = later.entry; is = later.is }

module _ (m : Process) (s : Shown) (x : Thawed) (action : ℕ) (h : IsThawedOf m s x) (near : action < length m.actions) where
  offered : HasAction m (entry-at m.actions action near).entry s x action
  offered = record { thawed = h; offered = (entry-at m.actions action near).is }

  -- an action that a model offers may be backed up
  pub is-thawed : IsThawed s x action
  is-thawed = record { process = m; chosen = (entry-at m.actions action near).entry; has = offered }

  module _ (t : Shown) (w : Entry) (result : Result Bounds StoreFault) (fits : FitsEverywhere is_value s w)
      (made : (m : Process) (a : Action) (value : List ℕ → ℤ) → HasAction m a s x action → HasNumbers s w value → BacksUp m a value s t result) where
    backs-up : BacksUp m (entry-at m.actions action near).entry (λ z. number_of (meaning s w z z)) s t result
    backs-up = made m (entry-at m.actions action near).entry (λ z. number_of (meaning s w z z)) offered (own-numbers s w (has-values s w fits))

    pub backup-grows : Grows s t
    backup-grows = backs-up.grows

    known : (r : Result Bounds StoreFault) → IfOk r (λ b. AreBounds m (entry-at m.actions action near).entry (λ z. number_of (meaning s w z z)) t b)
        → IfOk r (λ b. (t.knows b.lo ≡ true) × (t.knows b.hi ≡ true))
    known (Ok b) k = (k.low.knows, k.high.knows)
    known (Err e) k = tt

    pub bounds-known : IfOk result (λ b. (t.knows b.lo ≡ true) × (t.knows b.hi ≡ true))
    bounds-known = known result backs-up.ok
