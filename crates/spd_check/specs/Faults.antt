-- Why a check has no verdict.
use Rattle.std.specs.Prelude.{◌≡◌, ℕ, ◌<◌, true, false, List, ℤ, Some, None}
use Rattle.spd_model.specs.Process.{Process}
use Rattle.spd_model.specs.States.{sizes}
use Rattle.spd_model.specs.Chances.{IsValid, first_wrong_sum, first_wide_reward}
use Rattle.spd_build.specs.Functions.{building_functions}
use Rattle.spd_turn.specs.Turn.{count_nodes}
use Rattle.spd_check.specs.declared.verdict.CheckFault.{CheckFault}
use Rattle.spd_check.specs.declared.verdict.CheckFault.TheVariants as C
use Rattle.spd_check.specs.Functions.{check_count}

-- The cause of a fault: the process's first sum that isn't one; where all sums are one, its first reward that passes the limit; that
-- building has more nodes than the node limit, or of a valid process the check. Want of memory has no cause in the process.
abbrev pub IsFaultOf : Process → (List ℕ → ℤ) → (List ℕ → ℕ) → ℕ → CheckFault → Type 0
IsFaultOf m w policy nodes (C.Sum action var state sum) = first_wrong_sum m ≡ Some (record { action = action; var = var; state = state; sum = sum })
IsFaultOf m w policy nodes (C.Range action state value) =
    (first_wrong_sum m ≡ None) × (first_wide_reward m ≡ Some (record { action = action; state = state; value = value }))
IsFaultOf m w policy nodes (C.NodeLimit true limit) = (limit ≡ nodes) × (nodes < count_nodes (sizes m) (building_functions m))
IsFaultOf m w policy nodes (C.NodeLimit false limit) = (limit ≡ nodes) × IsValid m × (nodes < check_count m w policy)
IsFaultOf m w policy nodes C.Memory = Unit {0}
