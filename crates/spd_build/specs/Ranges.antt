-- Where a reward passes its limit.
use Rattle.std.specs.Prelude.{◌≡◌, ℕ, Bool, false, not, nat_le, unsigned_abs, map, find, Option, Some}
use Rattle.spd_model.specs.declared.process.Action.{Action}
use Rattle.spd_model.specs.Process.{Process}
use Rattle.spd_model.specs.States.{sizes, states}
use Rattle.spd_model.specs.Chances.{Reward, reward_of, reward_limit}
use Rattle.spd_nodes.specs.declared.leaf.Leaf.{Leaf}
use Rattle.spd_nodes.specs.declared.leaf.Leaf.TheVariants as L
use Rattle.spd_nodes.specs.States.{test_trees}
use Rattle.spd_nodes.specs.Shown.{Shown, LacksOne}
use Rattle.spd_build.specs.declared.built.BuildFault.{BuildFault}
use Rattle.spd_build.specs.declared.built.BuildFault.TheVariants as Fault
use Rattle.spd_build.specs.Functions.{building_functions}

-- whether a number passes the limit of rewards, and whether a leaf is such a number
abbrev pub is_wide : Leaf → Bool
is_wide (L.Num x) = not (nat_le (unsigned_abs x) reward_limit)
is_wide (L.Pair x y) = false
is_wide (L.Act x) = false

-- the first reward of an action, given with its number, that passes the limit
abbrev pub wide_after : Process → ℕ × Action → Option Reward
wide_after m a =
    find (λ (x : Reward). not (nat_le (unsigned_abs x.value) reward_limit))
    (map (λ s. record { action = a.0; state = s; value = reward_of m a.1 s }) (states (sizes m)))

-- The cause of a fault where an action's reward is made.
abbrev pub RewardCause : Process → ℕ × Action → Shown → BuildFault → Type 0
RewardCause m a s (Fault.Sum action var state sum) = ⊥
RewardCause m a s (Fault.Range action state value) = wide_after m a ≡ Some (record { action = action; state = state; value = value })
RewardCause m a s Fault.Full = LacksOne s (test_trees s.sizes (building_functions m))
RewardCause m a s Fault.Memory = Unit {0}
