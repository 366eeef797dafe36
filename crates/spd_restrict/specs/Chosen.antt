-- Functions that are chosen by a variable's value.
use Rattle.std.specs.Prelude.{ℕ, ◌-◌, Bool, cond, nat_lt, List, [], ◌∷◌, length, slice_index, slice_index_or}
use Rattle.std.proofs.Common.{zero, suc}
use Rattle.spd_nodes.specs.declared.leaf.Leaf.TheVariants.{Act}
use Rattle.spd_nodes.specs.States.{Function}

-- a variable's value at the next state (primed) or at the present one
abbrev pub variable_value : ℕ → Bool → List ℕ → List ℕ → ℕ
variable_value var primed s t = slice_index (cond primed t s) var

-- the function with a number
abbrev pub function_at : List Function → ℕ → Function
function_at fs i = slice_index_or fs i (λ s t. Act 0)

-- at each state the function with the number of the variable's value
abbrev pub chosen : ℕ → Bool → List Function → Function
chosen var primed fs s t = function_at fs (variable_value var primed s t) s t

-- the same where the value is at least `least`; elsewhere the last function
abbrev pub chosen_from : ℕ → ℕ → Bool → List Function → Function
chosen_from least var primed fs s t = cond (nat_lt (variable_value var primed s t) least) (function_at fs (length fs - 1) s t) (chosen var primed fs s t)

-- The functions of a branch on a variable, one for each value from the last to the first: the last one is the branch.
abbrev pub chosen_below : ℕ → ℕ → Bool → List Function → List Function
chosen_below zero var primed fs = []
chosen_below (suc n) var primed fs = chosen_from n var primed fs ∷ chosen_below n var primed fs

abbrev pub branch_functions : ℕ → Bool → List Function → List Function
branch_functions var primed fs = chosen_below (length fs) var primed fs
