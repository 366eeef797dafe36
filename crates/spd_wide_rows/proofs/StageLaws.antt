-- The first action of a model, and a backup of it.
use Rattle.std.proofs.Common.{◌≡◌, ◌<◌, ℕ, true, List, [], ◌∷◌, ℤ, length, slice_get, Some, Result, Ok, Err, IfOk, refl, subst, sym, arith}
use Rattle.spd_cons_core.specs.declared.key.Entry.{Entry}
use Rattle.spd_model.specs.declared.process.Action.{Action}
use Rattle.spd_model.specs.Process.{Process}
use Rattle.spd_model.specs.States.{sizes}
use Rattle.spd_model.specs.Lawful.{IsLawful}
use Rattle.spd_nodes.specs.declared.forest.StoreFault.{StoreFault}
use Rattle.spd_nodes.specs.declared.leaf.Leaf.{Leaf}
use Rattle.spd_nodes.specs.Shown.{Shown, meaning}
use Rattle.spd_apply.specs.Outcome.{FitsEverywhere}
use Rattle.spd_weigh.specs.Leaves.{number_of}
use Rattle.spd_backup.specs.declared.backing.Bounds.{Bounds}
use Rattle.spd_backup.specs.declared.thawed.Thawed.{Thawed}
use Rattle.spd_backup.specs.Expected.{BacksUp, AreBounds}
use Rattle.spd_backup.specs.Thawing.{IsThawedOf, IsThawed, HasAction, HasNumbers}
use Rattle.spd_backup.proofs.CallerLemmas.{own-numbers}
use Rattle.spd_wide_rows.specs.Numbers.{is_test_number}
use Rattle.spd_wide_rows.proofs.NumberLaws.{test-values}

record HasFirst (m : Process) : Type 0 where
  pub action : Action
  pub is : slice_get m.actions 0 ≡ Some action

first-of : (m : Process) (xs : List Action) → m.actions ≡ xs → 0 < length xs → HasFirst m
first-of m [] e h = absurd (omega arith)
first-of m (x ∷ xs) e h = record { action = x; is = rw e }

module _ (m : Process) (s : Shown) (x : Thawed) (h : IsThawedOf m s x) where
  offered : HasAction m (first-of m m.actions refl h.law.some_actions).action s x 0
  offered = record { thawed = h; offered = (first-of m m.actions refl h.law.some_actions).is }

  pub first-thawed : IsThawed s x 0
  first-thawed = record { process = m; chosen = (first-of m m.actions refl h.law.some_actions).action; has = offered }

  module _ (t : Shown) (w : Entry) (answer : Result Bounds StoreFault) (fits : FitsEverywhere is_test_number s w)
      (made : (m : Process) (a : Action) (value : List ℕ → ℤ) → HasAction m a s x 0 → HasNumbers s w value → BacksUp m a value s t answer) where
    known : (r : Result Bounds StoreFault) → IfOk r (λ b. AreBounds m (first-of m m.actions refl h.law.some_actions).action (λ z. number_of (meaning s w z z)) t b)
        → IfOk r (λ b. (t.knows b.lo ≡ true) × (t.knows b.hi ≡ true))
    known (Ok b) k = (k.low.knows, k.high.knows)
    known (Err e) k = tt

    pub first-known : IfOk answer (λ b. (t.knows b.lo ≡ true) × (t.knows b.hi ≡ true))
    first-known = known answer (made m (first-of m m.actions refl h.law.some_actions).action (λ z. number_of (meaning s w z z)) offered (own-numbers s w (test-values s w fits))).ok
