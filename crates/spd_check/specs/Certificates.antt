-- Certificates on diagrams: what a certificate is of, where it first fails, and the verdict.
use Rattle.std.specs.Prelude.{ℕ, ◌||◌, Bool, if◌then◌else◌, List, length, map, ℤ, pos, ◌-ℤ◌, int_lt, slice_index_or, find, Option, option_map, None, Some}
use Rattle.spd_model.specs.declared.Side.TheVariants.{Above, Below}
use Rattle.spd_model.specs.Process.{Process}
use Rattle.spd_model.specs.Reduced.{Node}
use Rattle.spd_model.specs.States.{sizes, states}
use Rattle.spd_model.specs.Backup.{low_of, highest_of}
use Rattle.spd_model.specs.Turns.{Place, gap_above}
use Rattle.spd_nodes.specs.declared.leaf.Leaf.{Leaf}
use Rattle.spd_frozen.specs.Fits.{FitsSizes, HasLeaves, IsValue, IsChoice}
use Rattle.spd_frozen.specs.Frozen.{leaf_at}
use Rattle.spd_frozen.specs.Told.{number_of, action_of}
use Rattle.spd_check.specs.declared.verdict.Verdict.{Verdict}
use Rattle.spd_check.specs.declared.verdict.Verdict.TheVariants.{Yes, No}

-- ---- the value and the policy of a certificate

-- for which value and which policy two lists of nodes stand
abbrev pub value_by : List (Node Leaf) → List ℕ → ℤ
value_by nodes s = number_of (leaf_at nodes s)

abbrev pub policy_by : List (Node Leaf) → List ℕ → ℕ
policy_by nodes s = action_of (leaf_at nodes s)

-- They fit a process: both are over its variables, the value's leaves are values, and the policy's are actions of the process.
pub record AreOf (m : Process) (value policy : List (Node Leaf)) : Type 0 where
  pub value_fits : FitsSizes (sizes m) value
  pub policy_fits : FitsSizes (sizes m) policy
  pub values : HasLeaves IsValue value
  pub choices : HasLeaves (IsChoice (length m.actions)) policy

-- ---- where a certificate fails

-- the lower bound of the policy's own action at a state, where w follows
abbrev pub own_low : Process → (List ℕ → ℤ) → (List ℕ → ℕ) → List ℕ → ℤ
own_low m w policy s = slice_index_or (map (λ a. low_of m w a s) m.actions) (policy s) (pos 0)

-- how far the value lies above that
abbrev pub gap_own : Process → (List ℕ → ℤ) → (List ℕ → ℕ) → List ℕ → ℤ
gap_own m w policy s = w s -ℤ own_low m w policy s

-- whether the greatest upper bound lies more than r above the value, and the policy's lower bound more than r below it
abbrev pub fails_above : Process → (List ℕ → ℤ) → ℤ → List ℕ → Bool
fails_above m w r s = int_lt r (gap_above m w s)

abbrev pub fails_below : Process → (List ℕ → ℤ) → (List ℕ → ℕ) → ℤ → List ℕ → Bool
fails_below m w policy r s = int_lt r (gap_own m w policy s)

-- How a certificate fails at a state: above where it fails there, with the first action that has the greatest upper bound, else below,
-- with the policy's action.
abbrev pub failure_at : Process → (List ℕ → ℤ) → (List ℕ → ℕ) → ℤ → List ℕ → Place
failure_at m w policy r s =
    if fails_above m w r s then record { state = s; side = Above; action = highest_of m w s } else record { state = s; side = Below; action = policy s }

-- the first state at which it fails, with its side and action
abbrev pub first_failure : Process → (List ℕ → ℤ) → (List ℕ → ℕ) → ℤ → Option Place
first_failure m w policy r =
    option_map (failure_at m w policy r) (find (λ s. fails_above m w r s || fails_below m w policy r s) (states (sizes m)))

-- the verdict: yes where it fails nowhere, else no with the first failure
abbrev pub verdict_of : Option Place → Verdict
verdict_of None = Yes
verdict_of (Some p) = No p.state p.side p.action
