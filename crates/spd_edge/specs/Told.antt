-- Bytes that an object of the outside tells: what a source has left, what a sink took. `None`: it doesn't tell.
use Rattle.std.specs.Prelude.{◌≡◌, ℕ, ◌≤◌, List, [], ◌++◌, length, take, Option, option_map, IfSome}

-- a source gave these bytes: what it had left is these bytes and then what it has left now
abbrev pub Gave : Option (List ℕ) → List ℕ → Option (List ℕ) → Type 0
Gave before bytes now = before ≡ option_map (λ left. bytes ++ left) now

-- a source gave n bytes
abbrev pub GaveCount : Option (List ℕ) → ℕ → Option (List ℕ) → Type 0
GaveCount before n now = (bytes : List ℕ) × Gave before bytes now × (length bytes ≡ n)

-- a source that tells what it has left has nothing left
abbrev pub IsAtEnd : Option (List ℕ) → Type 0
IsAtEnd told = IfSome told (λ left. left ≡ [])

-- a sink took these bytes: what it took by now is what it took before and then these bytes
abbrev pub Took : Option (List ℕ) → List ℕ → Option (List ℕ) → Type 0
Took before bytes now = now ≡ option_map (λ taken. taken ++ bytes) before

-- a sink took the front of these bytes: the first n, for some n
abbrev pub TookFront : Option (List ℕ) → List ℕ → Option (List ℕ) → Type 0
TookFront before bytes now = (n : ℕ) × (n ≤ length bytes) × Took before (take n bytes) now
