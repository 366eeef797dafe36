-- Which diagrams in a forest are functions of the present state.
use Rattle.spd_cons_core.specs.declared.key.Entry.{Entry}
use Rattle.spd_nodes.specs.Shown.{Shown, meaning}
use Rattle.spd_nodes.specs.States.{Agree}

-- At each present state an entry's function has one leaf, whatever the next state: its tree tests no next value.
abbrev pub IsOfPresent : Shown → Entry → Type 0
IsOfPresent s r = Agree s.sizes (meaning s r) (λ x t. meaning s r x x)
