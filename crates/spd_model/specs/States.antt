-- States, their order, and tables over them.
use Rattle.std.specs.Prelude.{ℕ, ◌+◌, ◌*◌, ◌<◌, List, [], ◌∷◌, length, ℤ, pos, map, flat_map, slice_index_or}
use Rattle.spd_model.specs.declared.process.Var.{Var}
use Rattle.spd_model.specs.Process.{Process}
use Rattle.spd_model.specs.Numbers.{numbers_below, sum_below}

-- the number of values of each variable
abbrev pub sizes : Process → List ℕ
sizes m = map (λ (x : Var). length x.values) m.vars

-- a state has one value number for each variable, below the variable's number of values
abbrev pub IsState : List ℕ → List ℕ → Type 0
IsState [] [] = Unit {0}
IsState [] (v ∷ s) = ⊥
IsState (size ∷ sizes) [] = ⊥
IsState (size ∷ sizes) (v ∷ s) = (v < size) × IsState sizes s

-- all states of variables of these sizes in lexicographic order: first variable first, first value first
abbrev pub states : List ℕ → List (List ℕ)
states [] = [] ∷ []
states (size ∷ sizes) = flat_map (λ v. map (λ s. v ∷ s) (states sizes)) (numbers_below size)

-- how many states there are
abbrev pub state_count : List ℕ → ℕ
state_count [] = 1
state_count (size ∷ sizes) = size * state_count sizes

-- the place of a state in that order
abbrev pub rank : List ℕ → List ℕ → ℕ
rank [] s = 0
rank (size ∷ sizes) [] = 0
rank (size ∷ sizes) (v ∷ s) = v * state_count sizes + rank sizes s

-- the table of a function of states has one entry for each state, in order
abbrev pub table_of : {X : Type 0} → List ℕ → (List ℕ → X) → List X
table_of sizes f = map f (states sizes)

-- what a table of numbers has at a state
abbrev pub at : List ℕ → List ℤ → List ℕ → ℤ
at sizes table s = slice_index_or table (rank sizes s) (pos 0)

-- the sum of f over all states
abbrev pub sum_over_states : List ℕ → (List ℕ → ℤ) → ℤ
sum_over_states [] f = f []
sum_over_states (size ∷ sizes) f = sum_below size (λ v. sum_over_states sizes (λ t. f (v ∷ t)))
