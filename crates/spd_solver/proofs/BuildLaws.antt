-- What building a process comes to, and why it fails.
use Rattle.std.proofs.Common.{◌≡◌, ◌<◌, [], Err, refl, subst}
use Rattle.spd_model.specs.declared.options.Options.{Options}
use Rattle.spd_model.specs.Process.{Process}
use Rattle.spd_model.specs.States.{sizes}
use Rattle.spd_model.specs.Chances.{Sum, Reward}
use Rattle.spd_model.proofs.CallerLemmas.Validity.{wrong_sum-placed, wide_reward-placed, wrong_sum-invalid, wide_reward-invalid}
use Rattle.spd_nodes.specs.Shown.{Shown}
use Rattle.spd_nodes.specs.Store.{Held, shown}
use Rattle.spd_build.specs.declared.built.BuildFault.{BuildFault}
use Rattle.spd_build.specs.declared.built.BuildFault.TheVariants as Build
use Rattle.spd_build.specs.Built.{BuildCause, Builds}
use Rattle.spd_build.specs.Functions.{building_functions}
use Rattle.spd_turn.specs.Turn.{count_nodes}
use Rattle.spd_turn.proofs.CallerLemmas.{store-more-nodes}
use Rattle.spd_plain.specs.declared.PlainFault.{PlainFault}
use Rattle.spd_plain.specs.declared.PlainFault.TheVariants as Plain
use Rattle.spd_plain.specs.Plain.{FaultCause}
use Rattle.spd_solver.specs.declared.command.Way.TheVariants.{Diagrams, Tables}
use Rattle.spd_solver.specs.inner.Stages.{IsPlacedFault, IsUnsolved, told_fault, told_build_fault}

-- ---- the state of a fault is a state

pub build-placed : (m : Process) (s : Shown) (fault : BuildFault) → BuildCause m s fault → IsPlacedFault m fault
build-placed m s (Build.Sum action var state sum) cause = wrong_sum-placed m (record { action = action; var = var; state = state; sum = sum }) cause
build-placed m s (Build.Range action state value) cause = wide_reward-placed m (record { action = action; state = state; value = value }) cause.1
build-placed m s Build.Full cause = tt
build-placed m s Build.Memory cause = tt

-- ---- why a process isn't solved

-- over tables
pub plain-unsolved : (m : Process) (options : Options) (fault : PlainFault) → FaultCause m fault → IsUnsolved Tables m options (told_fault m fault)
plain-unsolved m options (Plain.TooManyStates product) cause = (refl, cause.0, cause.1)
plain-unsolved m options (Plain.Sum action var state sum) cause =
    let x : Sum = record { action = action; var = var; state = state; sum = sum } in
    (x, cause.0, cause.1, record { action_is = refl; var_is = refl; state_is = refl; sum_is = refl }, wrong_sum-invalid m x cause.1)
plain-unsolved m options (Plain.Range action state value) cause =
    let x : Reward = record { action = action; state = state; value = value } in
    (x, cause.0, cause.1, cause.2, record { action_is = refl; state_is = refl; value_is = refl }, wide_reward-invalid m x cause.2)
plain-unsolved m options Plain.Memory cause = tt

-- on diagrams
module _ (m : Process) (options : Options) (old new : Held) (layout : old.sizes ≡ sizes m) (none : old.keys ≡ []) (limit : new.limit ≡ options.nodes)
    (fault : BuildFault) (builds : Builds m (shown old) (shown new) (Err fault)) where
  by-fault : (e : BuildFault) → BuildCause m (shown new) e → IsUnsolved Diagrams m options (told_build_fault m options.nodes e)
  by-fault (Build.Sum action var state sum) cause =
      let x : Sum = record { action = action; var = var; state = state; sum = sum } in
      (x, tt, cause, record { action_is = refl; var_is = refl; state_is = refl; sum_is = refl }, wrong_sum-invalid m x cause)
  by-fault (Build.Range action state value) cause =
      let x : Reward = record { action = action; state = state; value = value } in
      (x, tt, cause.0, cause.1, record { action_is = refl; state_is = refl; value_is = refl }, wide_reward-invalid m x cause.1)
  by-fault Build.Full cause =
      let more : new.limit < count_nodes old.sizes (building_functions m) = store-more-nodes old new (building_functions m) none builds.made cause in
      (refl, refl, subst (λ n. n < count_nodes (sizes m) (building_functions m)) limit (subst (λ z. new.limit < count_nodes z (building_functions m)) layout more))
  by-fault Build.Memory cause = tt

  pub build-unsolved : IsUnsolved Diagrams m options (told_build_fault m options.nodes fault)
  build-unsolved = by-fault fault builds.fault
