-- What the cause of a fault shows: its state is a state, and its model isn't valid.
use Rattle.spd_model.specs.Process.{Process}
use Rattle.spd_model.proofs.CallerLemmas.Validity.{wrong_sum-invalid, wide_reward-invalid, wrong_sum-placed, wide_reward-placed}
use Rattle.spd_plain.specs.declared.solve.PlainFault.{PlainFault}
use Rattle.spd_plain.specs.declared.solve.PlainFault.TheVariants.{TooManyStates, Sum, Range, Memory}
use Rattle.spd_plain.specs.Plain.{FaultCause, IsPlaced, IsInvalid}

pub fault_placed : (m : Process) (fault : PlainFault) → FaultCause m fault → IsPlaced m fault
fault_placed m (TooManyStates product) cause = tt
fault_placed m (Sum action var state sum) cause = wrong_sum-placed m _ cause.1
fault_placed m (Range action state value) cause = wide_reward-placed m _ cause.2
fault_placed m Memory cause = tt

pub fault_invalid : (m : Process) (fault : PlainFault) → FaultCause m fault → IsInvalid m fault
fault_invalid m (TooManyStates product) cause = tt
fault_invalid m (Sum action var state sum) cause = wrong_sum-invalid m _ cause.1
fault_invalid m (Range action state value) cause = wide_reward-invalid m _ cause.2
fault_invalid m Memory cause = tt
