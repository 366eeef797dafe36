-- What a table of answers holds: lists, each with its answer.
use Rattle.std.specs.Prelude.{ℕ, List, [], ◌∷◌, take, drop, Option, None, Some}
use Rattle.spd_cons_core.specs.declared.key.Entry.{Entry}

-- a list with the answer for it
abbrev pub Row : Type 0
Row = List Entry × Entry

-- the rows of places that are laid end to end, each with a list of one width; an empty place has no answer
abbrev pub rows_of : ℕ → List Entry → List (Option Entry) → List Row
rows_of width keys [] = []
rows_of width keys (None ∷ answers) = rows_of width (drop width keys) answers
rows_of width keys (Some r ∷ answers) = (take width keys, r) ∷ rows_of width (drop width keys) answers
