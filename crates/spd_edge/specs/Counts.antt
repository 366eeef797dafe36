-- Counts of faults, which never pass 2^64 - 1.
use Rattle.std.specs.Prelude.{ℕ, ◌+◌, ◌-◌, ◌^◌, ◌<◌, ◌≤◌, List, min}

-- a count after more faults
abbrev pub counted : ℕ → ℕ → ℕ
counted before more = min (before + more) (2 ^ 64 - 1)

-- a count rose from `before` to `now`; one that stands at its last value, 2^64 - 1, is taken as risen
abbrev pub Rose : ℕ → ℕ → Type 0
Rose before now = min (before + 1) (2 ^ 64 - 1) ≤ now

-- no name's count falls
abbrev pub NoneFalls : (List ℕ → ℕ) → (List ℕ → ℕ) → Type 0
NoneFalls before now = (name : List ℕ) → before name ≤ now name

-- each name's count is at most its last value
abbrev pub AllInRange : (List ℕ → ℕ) → Type 0
AllInRange counts = (name : List ℕ) → counts name < 2 ^ 64
