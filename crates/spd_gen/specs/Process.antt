-- The process that the file of a ring describes. A machine is a variable with the values up and down; value 0 is up.
use Rattle.std.specs.Prelude.{ℕ, ◌+◌, ◌++◌, if◌then◌else◌, List, [], ◌∷◌, map, codes, decimal, true, false, Option, Some, None, ℤ, pos}
use Rattle.spd_model.specs.declared.tree.Tree.{Tree, Leaf, Branch}
use Rattle.spd_model.specs.declared.process.Var.{Var}
use Rattle.spd_model.specs.declared.process.Action.{Action}
use Rattle.spd_model.specs.Numbers.{numbers_below}
use Rattle.spd_model.specs.Process.{Process}
use Rattle.spd_gen.specs.Ring.{machine, left_of, is_rebooted}

abbrev pub variable : ℕ → Var
variable i = record { name = machine i; values = codes "up" ∷ codes "down" ∷ [] }

-- the tree for where machine i is up now and where it is down, and that of the chances that it is up next and down
abbrev pub choice : ℕ → Tree → Tree → Tree
choice i up down = Branch i false (up ∷ down ∷ [])

abbrev pub chances : ℕ → ℤ → ℤ → Tree
chances i up down = Branch i true (Leaf up ∷ Leaf down ∷ [])

-- how machine i of n goes on by itself: chances are in units of 10^-12
abbrev pub keep_tree : ℕ → ℕ → Tree
keep_tree n i =
    choice i (choice (left_of n i) (chances i (pos 900000000000) (pos 100000000000)) (chances i (pos 600000000000) (pos 400000000000)))
    (chances i (pos 100000000000) (pos 900000000000))

-- a machine that is rebooted is up next
abbrev pub fix_tree : ℕ → Tree
fix_tree i = chances i (pos 1000000000000) (pos 0)

abbrev pub table_tree : ℕ → Option ℕ → ℕ → Tree
table_tree n rebooted i = if is_rebooted rebooted i then fix_tree i else keep_tree n i

-- an action that may reboot one machine
abbrev pub action_of : ℕ → List ℕ → Option ℕ → List Tree → Action
action_of n name rebooted cost = record { name = name; tables = map (table_tree n rebooted) (numbers_below n); cost = cost }

abbrev pub noop : ℕ → Action
noop n = action_of n (codes "noop") None []

-- a reboot costs 0.75
abbrev pub reboot : ℕ → ℕ → Action
reboot n i = action_of n (codes "reboot" ++ decimal (i + 1)) (Some i) (Leaf (pos 750000000000) ∷ [])

-- each machine that is up brings 1
abbrev pub working : ℕ → Tree
working i = choice i (Leaf (pos 1000000000000)) (Leaf (pos 0))

-- the process of a ring of n machines
unfoldable pub ring_process : ℕ → Process
ring_process n = record {
  vars = map variable (numbers_below n);
  dds = [];
  actions = noop n ∷ map (reboot n) (numbers_below n);
  reward = map working (numbers_below n);
  discount = 950000;
  tolerance = pos 100000000;
  horizon = None;
}
