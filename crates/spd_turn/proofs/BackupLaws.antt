-- The backups of actions, one after another.
use Rattle.std.proofs.Common.{◌≡◌, ℕ, ◌+◌, ◌<◌, ◌≤◌, List, [], ◌∷◌, ◌++◌, map, length, take, sym, ◌∙◌, ap, subst, arith, ℤ, Some, Result, Ok, Err, Vec, Global}
use Rattle.std.specs.Prelude.{slice_get}
use Rattle.std.proofs.lemmas.List.{length-map, take_all, take_more}
use Rattle.std.proofs.lemmas.Option.{get_or_from_slice_get}
use Rattle.spd_cons_core.specs.declared.key.Entry.{Entry}
use Rattle.spd_model.specs.declared.process.Action.{Action}
use Rattle.spd_model.specs.Process.{Process}
use Rattle.spd_nodes.specs.declared.forest.StoreFault.{StoreFault}
use Rattle.spd_nodes.specs.declared.forest.StoreFault.TheVariants as F
use Rattle.spd_nodes.specs.Made.{HasMade}
use Rattle.spd_nodes.specs.Shown.{Shown, IsSound}
use Rattle.spd_nodes.proofs.CallerLemmas.{Among, all-out, among-flat, fault-wider, has-none, has-then, stand-length}
use Rattle.spd_build.specs.Functions.{reward}
use Rattle.spd_backup.specs.declared.backing.Bounds.{Bounds}
use Rattle.spd_backup.specs.declared.thawed.Thawed.{Thawed}
use Rattle.spd_backup.specs.Expected.{backup_functions, BacksUp}
use Rattle.spd_backup.specs.Thawing.{IsThawed, HasAction}
use Rattle.spd_turn.specs.Jobs.{CanBackUp}
use Rattle.spd_turn.specs.Waves.{all_backups, AreBackedUp}
use Rattle.spd_turn.specs.Backups.{BacksUpAll, HaveBackedUp}
use Rattle.spd_turn.proofs.SplitLaws.{can-keeps, grows-keeps}
use Rattle.spd_turn.proofs.WaveLaws.{backed-grow, backed-push, some-action}

-- ---- one action after another

module _ (m : Process) (value : List ℕ → ℤ) (s : Shown) (x : Thawed) (w : Entry) (can : CanBackUp m value s x w) where
  pub count-actions : length x.rewards.items ≡ length m.actions
  count-actions = stand-length s x.rewards.items (map (reward m) m.actions) can.thawed.rewards ∙ length-map m.actions (reward m)

  module _ (i : ℕ) (t : Shown) (bs : List Bounds) (h : HaveBackedUp m value s i t bs) where
    pub can-then : CanBackUp m value t x w
    can-then = can-keeps s t (grows-keeps h.made.grows) m value x w can

    module _ (near : i < length x.rewards.items) where
      pub chosen : (a : Action) × (slice_get m.actions i ≡ Some a)
      chosen = some-action m.actions i (omega (arith, near, count-actions))

      pub has-action : HasAction m chosen.0 t x i
      has-action = record { thawed = can-then.thawed; offered = chosen.1 }

      pub is-thawed : IsThawed t x i
      is-thawed = record { process = m; chosen = chosen.0; has = has-action }

      among-all : Among (backup_functions m chosen.0 value) (all_backups m value)
      among-all =
          subst (λ a. Among (backup_functions m a value) (all_backups m value)) (get_or_from_slice_get m.actions i chosen.0 chosen.0 chosen.1)
          (among-flat (λ a. backup_functions m a value) m.actions i chosen.0 (omega (arith, near, count-actions)))

      abbrev Next : Shown → Result Bounds StoreFault → Type 0
      Next v r = BacksUp m chosen.0 value t v r

      made-then : (v : Shown) (r : Result Bounds StoreFault) → Next v r → HasMade s v (all_backups m value)
      made-then v r b = has-then among-all h.made (record { sound = b.sound; grows = b.grows; makes = b.makes })

      pub backup-fails : (v : Shown) (e : StoreFault) → Next v (Err e) → BacksUpAll m value s v (Err e)
      backup-fails v e b = record { made = record { made = made-then v (Err e) b; fault = fault-wider e v among-all b.fault }; ok = tt }

      pub push-fails : (v : Shown) (b : Bounds) (e : StoreFault) → e ≡ F.Memory → Next v (Ok b) → BacksUpAll m value s v (Err e)
      push-fails v b e is n = record { made = all-out e is (made-then v (Ok b) n); ok = tt }

      pub backed-more : (v : Shown) (b : Bounds) → Next v (Ok b) → HaveBackedUp m value s (i + 1) v (bs ++ b ∷ [])
      backed-more v b n =
          let more : take (i + 1) m.actions ≡ take i m.actions ++ chosen.0 ∷ [] =
          take_more m.actions i chosen.0 (omega (arith, near, count-actions)) ∙ ap (λ a. take i m.actions ++ a ∷ []) (get_or_from_slice_get m.actions i chosen.0 chosen.0 chosen.1) in
          record {
            made = made-then v (Ok b) n;
            bounds = subst (AreBackedUp m value v (bs ++ b ∷ [])) (sym more) (backed-push m value v bs (take i m.actions) b chosen.0 (backed-grow m value t v bs (take i m.actions) n.grows h.bounds) n.ok);
          }

    pub all-backed : length x.rewards.items ≤ i → (v : Vec Bounds Global) → v.items ≡ bs → BacksUpAll m value s t (Ok v)
    all-backed past v is =
        let all : take i m.actions ≡ m.actions = take_all i m.actions (omega (arith, past, count-actions)) in
        record { made = record { made = h.made; fault = tt }; ok = subst (λ l. AreBackedUp m value t l m.actions) (sym is) (subst (AreBackedUp m value t bs) all h.bounds) }

pub none-backed : (m : Process) (value : List ℕ → ℤ) (s : Shown) → IsSound s → HaveBackedUp m value s 0 s []
none-backed m value s o = record { made = has-none s o (all_backups m value); bounds = tt }
