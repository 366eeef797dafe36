-- One job, before its run and after it.
use Rattle.std.proofs.Common.{◌≡◌, ℕ, List, sym, ap, ◌∙◌, subst, Some, Err, true, inl, inr}
use Rattle.std.specs.Prelude.{ℤ, slice_get, Result, IfErr}
use Rattle.std.proofs.lemmas.Bool.{true≢false}
use Rattle.spd_cons.specs.Values.{TableValue}
use Rattle.spd_cons_core.specs.declared.key.Entry.{Entry}
use Rattle.spd_model.specs.declared.process.Action.{Action}
use Rattle.spd_model.specs.Process.{Process}
use Rattle.spd_nodes.specs.declared.forest.StoreFault.{StoreFault}
use Rattle.spd_nodes.specs.declared.forest.StoreFault.TheVariants as F
use Rattle.spd_nodes.specs.Grove.{standing_of}
use Rattle.spd_nodes.specs.Shown.{Shown, FaultsAt}
use Rattle.spd_nodes.specs.States.{test_trees}
use Rattle.spd_nodes.specs.Trees.{IsNodeOf}
use Rattle.spd_backup.specs.declared.backing.Bounds.{Bounds}
use Rattle.spd_backup.specs.declared.thawed.Thawed.{Thawed}
use Rattle.spd_backup.specs.Expected.{BacksUp, backup_functions}
use Rattle.spd_backup.specs.Thawing.{HasAction, HasNumbers}
use Rattle.spd_turn.specs.Jobs.{CanBackUp, HoldFor, JobValue, job_shown, IsReadyJob, RunsBackup}
use Rattle.spd_turn.specs.Waves.{IsDealt, HasRun, HasBackedUp}
use Rattle.spd_turn.proofs.SplitLaws.{can-keeps, grows-keeps}

-- what a backup of a job's action makes
abbrev pub Backs : JobValue → JobValue → Type 0
Backs a b = (m : Process) (chosen : Action) (value : List ℕ → ℤ) → HasAction m chosen (job_shown a) a.thawed a.action → HasNumbers (job_shown a) a.w value → BacksUp m chosen value (job_shown a) (job_shown b) b.outcome

module _ (a b : JobValue) (is : IsReadyJob a) (backs : Backs a b) where
  own-backs : BacksUp is.process is.chosen is.value (job_shown a) (job_shown b) b.outcome
  own-backs = backs is.process is.chosen is.value (record { thawed = is.can.thawed; offered = is.offered }) is.can.numbers

  -- it was run
  pub job-runs : standing_of b.grove ≡ standing_of a.grove → b.thawed ≡ a.thawed → b.w ≡ a.w → b.action ≡ a.action → RunsBackup a b
  job-runs standing x w action = record {
    sizes_are = own-backs.grows.sizes;
    standing = standing;
    thawed_is = x;
    value_is = w;
    action_is = action;
    backs = λ m chosen value can offered. backs m chosen value (record { thawed = can.thawed; offered = offered }) can.numbers;
  }

  -- and may be run again
  pub job-ready : b.thawed ≡ a.thawed → b.w ≡ a.w → b.action ≡ a.action → HoldFor b.thawed (job_shown b) b.tables → IsReadyJob b
  job-ready x w action tables =
      let can : CanBackUp is.process is.value (job_shown b) a.thawed a.w = can-keeps (job_shown a) (job_shown b) (grows-keeps own-backs.grows) is.process is.value a.thawed a.w is.can in
      record {
        process = is.process;
        value = is.value;
        chosen = is.chosen;
        can = subst (λ (p : Thawed × Entry). CanBackUp is.process is.value (job_shown b) p.0 p.1) (sym (λ i. (x i, w i))) can;
        offered = ap (slice_get is.process.actions) action ∙ is.offered;
        tables = tables;
      }

full-met : (o : Result Bounds StoreFault) (s : Shown) (m : Process) (chosen : Action) (value : List ℕ → ℤ) → o ≡ Err F.Full → IfErr o (λ e. FaultsAt e s (backup_functions m chosen value)) → s.full ≡ true
full-met o s m chosen value e h =
    let lacks = subst (λ (r : Result Bounds StoreFault). IfErr r (λ f. FaultsAt f s (backup_functions m chosen value))) e h in
    lacks.full

-- a job that was dealt and then run
pub dealt-ran : (table : TableValue) (s : Shown) (x : Thawed) (w : Entry) (k : ℕ) (a b : JobValue) → IsDealt table s x w k a → RunsBackup a b → HasRun table s x w k b
dealt-ran table s x w k a b d r = record {
  place = record { sizes_are = r.sizes_are ∙ d.sizes_are; own = r.standing ∙ d.own };
  thawed_is = r.thawed_is ∙ d.thawed_is;
  backed = outcome;
}
  where
    outcome : (m : Process) (chosen : Action) (value : List ℕ → ℤ) → CanBackUp m value s x w → slice_get m.actions k ≡ Some chosen → HasBackedUp m chosen value b
    outcome m chosen value can offered =
        let own : CanBackUp m value (job_shown a) x w = can-keeps s (job_shown a) d.trees m value x w can in
        let there : CanBackUp m value (job_shown a) a.thawed a.w = subst (λ (p : Thawed × Entry). CanBackUp m value (job_shown a) p.0 p.1) (sym (λ i. (d.thawed_is i, d.value_is i))) own in
        let backs = r.backs m chosen value there (ap (slice_get m.actions) d.action_is ∙ offered) in
        record {
          ok = backs.ok;
          makes = λ q p. elim (backs.makes.only q p) [
            | inl old ↦ absurd (true≢false (sym old ∙ d.none q))
            | inr node ↦ subst (λ (z : List ℕ). IsNodeOf ((job_shown b).tree q) (test_trees z (backup_functions m chosen value))) (sym r.sizes_are) node
          ];
          full = λ e. full-met b.outcome (job_shown b) m chosen value e backs.fault;
        }
