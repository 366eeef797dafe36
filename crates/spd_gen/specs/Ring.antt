-- The file of a ring of machines. Each machine is up or down; how it goes on depends on itself and on the machine on its left.
-- Machines are numbered from 0, and named from 1.
use Rattle.std.specs.Prelude.{ℕ, ◌+◌, ◌-◌, ◌==◌, ◌++◌, if◌then◌else◌, List, [], ◌∷◌, flat_map, codes, decimal, Option, Some, None, Bool, false}
use Rattle.spd_model.specs.Numbers.{numbers_below}

-- the name of a machine, and its name in the next state
abbrev pub machine : ℕ → List ℕ
machine i = codes "m" ++ decimal (i + 1)

abbrev pub next : ℕ → List ℕ
next i = machine i ++ codes "'"

-- the machine on the left of machine i, of n: that of the first one is the last one
abbrev pub left_of : ℕ → ℕ → ℕ
left_of n i = if i == 0 then n - 1 else i - 1

-- a tree: a number, or the tree for where a machine is up and that for where it is down
abbrev pub number_text : List ℕ → List ℕ
number_text number = codes "(" ++ number ++ codes ")"

abbrev pub choice_text : List ℕ → List ℕ → List ℕ → List ℕ
choice_text name up down = codes "(" ++ name ++ codes " (up " ++ up ++ codes ") (down " ++ down ++ codes "))"

-- the chances that a machine is up next, and that it is down
abbrev pub chances_text : ℕ → List ℕ → List ℕ → List ℕ
chances_text i up down = choice_text (next i) (number_text up) (number_text down)

-- A machine that is up stays up with 0.9 beside one that is up, and with 0.6 beside one that is down; a machine that is down comes up
-- by itself with 0.1.
abbrev pub keep_text : ℕ → ℕ → List ℕ
keep_text n i =
    choice_text (machine i)
    (choice_text (machine (left_of n i)) (chances_text i (codes "0.9") (codes "0.1")) (chances_text i (codes "0.6") (codes "0.4")))
    (chances_text i (codes "0.1") (codes "0.9"))

-- a machine that is rebooted is up next
abbrev pub fix_text : ℕ → List ℕ
fix_text i = chances_text i (codes "1") (codes "0")

-- a line
abbrev pub line : List ℕ → List ℕ
line text = text ++ 10 ∷ []

-- the line of machine i in an action: its name and its table
unfoldable pub keep_line : ℕ → ℕ → List ℕ
keep_line n i = line (machine i ++ codes " " ++ keep_text n i)

unfoldable pub fix_line : ℕ → List ℕ
fix_line i = line (machine i ++ codes " " ++ fix_text i)

abbrev pub is_rebooted : Option ℕ → ℕ → Bool
is_rebooted None i = false
is_rebooted (Some r) i = r == i

abbrev pub table_line : ℕ → Option ℕ → ℕ → List ℕ
table_line n rebooted i = if is_rebooted rebooted i then fix_line i else keep_line n i

-- the lines of all machines in an action that may reboot one of them
abbrev pub tables_text : ℕ → Option ℕ → List ℕ
tables_text n rebooted = flat_map (table_line n rebooted) (numbers_below n)

-- the action that reboots none, and the one that reboots machine i
abbrev pub noop_text : ℕ → List ℕ
noop_text n = line (codes "action noop") ++ tables_text n None ++ line (codes "endaction")

abbrev pub reboot_text : ℕ → ℕ → List ℕ
reboot_text n i = line (codes "action reboot" ++ decimal (i + 1)) ++ tables_text n (Some i) ++ line (codes "cost (0.75)") ++ line (codes "endaction")

-- the variable of a machine, and its part of the reward: 1 while it is up
abbrev pub variable_text : ℕ → List ℕ
variable_text i = codes " (" ++ machine i ++ codes " up down)"

abbrev pub part_text : ℕ → List ℕ
part_text i = codes " " ++ choice_text (machine i) (number_text (codes "1")) (number_text (codes "0"))

-- the file of a ring of n machines
unfoldable pub ring_text : ℕ → List ℕ
ring_text n =
    line (codes "(variables" ++ flat_map variable_text (numbers_below n) ++ codes ")")
    ++ noop_text n
    ++ flat_map (reboot_text n) (numbers_below n)
    ++ line (codes "reward [+" ++ flat_map part_text (numbers_below n) ++ codes "]")
    ++ line (codes "discount 0.95")
    ++ line (codes "tolerance 0.1")
