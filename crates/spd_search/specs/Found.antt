-- The first present and next state at which a function has a leaf that is wanted.
use Rattle.std.specs.Prelude.{ℕ, Bool, List, Option, map, flat_map, find, option_map}
use Rattle.spd_model.specs.States.{states}
use Rattle.spd_nodes.specs.declared.leaf.Leaf.{Leaf}
use Rattle.spd_nodes.specs.States.{Function}
use Rattle.spd_search.specs.declared.found.Found.{Found}

-- all pairs of a present and a next state: in the order of the present states, and under each in that of the next states
abbrev pub state_pairs : List ℕ → List (List ℕ × List ℕ)
state_pairs sizes = flat_map (λ s. map (λ t. (s, t)) (states sizes)) (states sizes)

-- the first pair at which a function has a leaf that is wanted
abbrev pub first_pair : List ℕ → (Leaf → Bool) → Function → Option (List ℕ × List ℕ)
first_pair sizes wants f = find (λ p. wants (f p.0 p.1)) (state_pairs sizes)

-- what a function has there: the present state with the leaf
abbrev pub found_at : Function → List ℕ × List ℕ → Found
found_at f p = record { state = p.0; leaf = f p.0 p.1 }

-- the present state of the first such pair, with the leaf there
abbrev pub first_found : List ℕ → (Leaf → Bool) → Function → Option Found
first_found sizes wants f = option_map (found_at f) (first_pair sizes wants f)
