-- The functions of a check, by which its nodes are counted.
use Rattle.std.specs.Prelude.{ℕ, suc, nat_lt, if◌then◌else◌, List, [], ◌∷◌, ◌++◌, length, map, take, ℤ, pos}
use Rattle.spd_model.specs.Process.{Process}
use Rattle.spd_model.specs.Numbers.{numbers_below, greatest}
use Rattle.spd_model.specs.States.{sizes}
use Rattle.spd_model.specs.Backup.{high_of}
use Rattle.spd_model.specs.Turns.{gap_above}
use Rattle.spd_nodes.specs.declared.leaf.Leaf.TheVariants.{Pair, Act}
use Rattle.spd_nodes.specs.States.{Function}
use Rattle.spd_build.specs.Functions.{numbers}
use Rattle.spd_backup.specs.FromBuilt.{process_functions}
use Rattle.spd_turn.specs.Turn.{present_value, count_nodes}
use Rattle.spd_turn.specs.Waves.{all_backups}
use Rattle.spd_check.specs.Certificates.{own_low, gap_own}

-- the policy at the present state, as an action
abbrev pub chosen : (List ℕ → ℕ) → Function
chosen policy s t = Act (policy s)

-- The functions with which a check begins: those of the process, the value and the policy.
abbrev pub given_functions : Process → (List ℕ → ℤ) → (List ℕ → ℕ) → List Function
given_functions m w policy = process_functions m ++ present_value w ∷ chosen policy ∷ []

-- the greatest upper bound of the first n actions
abbrev pub highest_among : Process → (List ℕ → ℤ) → ℕ → Function
highest_among m w n = numbers (λ s t. greatest (map (λ a. high_of m w a s) (take n m.actions)))

-- that of the actions up to each one
abbrev pub highest_functions : Process → (List ℕ → ℤ) → List Function
highest_functions m w = map (λ a. highest_among m w (suc a)) (numbers_below (length m.actions))

-- The policy's number with the lower bound of its action, which counts as 0 where the action isn't one of the first n.
abbrev pub own_among : Process → (List ℕ → ℤ) → (List ℕ → ℕ) → ℕ → Function
own_among m w policy n s t = Pair (pos (policy s)) (if nat_lt (policy s) n then own_low m w policy s else pos 0)

-- The functions of looking up the lower bound of the policy's own action: that bound, and the policy beside it as far as its action is
-- one of the first ones, from none of them to all.
abbrev pub own_functions : Process → (List ℕ → ℤ) → (List ℕ → ℕ) → List Function
own_functions m w policy = numbers (λ s t. own_low m w policy s) ∷ map (own_among m w policy) (numbers_below (suc (length m.actions)))

-- how far the greatest upper bound lies above the value, and the policy's lower bound below it
abbrev pub gap_functions : Process → (List ℕ → ℤ) → (List ℕ → ℕ) → List Function
gap_functions m w policy = numbers (λ s t. gap_above m w s) ∷ numbers (λ s t. gap_own m w policy s) ∷ []

-- All functions of a check: those that it begins with; those of backing up all actions, among which is the value at the next state; and
-- those of the greatest upper bound, of the policy's lower bound and of the two gaps.
abbrev pub check_functions : Process → (List ℕ → ℤ) → (List ℕ → ℕ) → List Function
check_functions m w policy =
    given_functions m w policy ++ all_backups m w ++ highest_functions m w ++ own_functions m w policy ++ gap_functions m w policy

-- the nodes of a check
abbrev pub check_count : Process → (List ℕ → ℤ) → (List ℕ → ℕ) → ℕ
check_count m w policy = count_nodes (sizes m) (check_functions m w policy)
