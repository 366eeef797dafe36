-- Values by name, and names in a list.
use Rattle.std.specs.Prelude.{◌≡◌, ◌≢◌, ℕ, List, Bool, if◌then◌else◌}
use Rattle.std.specs.List.{list_any}
use Rattle.std.specs.Str.{bytes_eq}

-- these values by name, but for one name, whose value is x
abbrev pub updated : {X : Type 0} → (List ℕ → X) → List ℕ → X → List ℕ → X
updated values name x other = if bytes_eq other name then x else values other

-- no other name's value changes
abbrev pub SameButFor : {X : Type 0} → (List ℕ → X) → (List ℕ → X) → List ℕ → Type 0
SameButFor before now name = (other : List ℕ) → other ≢ name → now other ≡ before other

-- whether a name is among these
abbrev pub is_among : List (List ℕ) → List ℕ → Bool
is_among names name = list_any (λ other. bytes_eq other name) names
