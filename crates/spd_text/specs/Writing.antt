-- What a sink took of a text that was written to it.
use Rattle.std.specs.Prelude.{ℕ, ◌≡◌, ◌≤◌, List, Option, Result, MatchResult}
use Rattle.spd_edge.specs.Counts.{Rose}
use Rattle.spd_edge.specs.Told.{Took, TookFront}

-- a text was written: on Ok the sink took all of it, and on an error the front of it
abbrev pub Wrote : {T E : Type 0} → Option (List ℕ) → List ℕ → Result T E → Option (List ℕ) → Type 0
Wrote before text result now = MatchResult result (λ _. Took before text now) (λ _. TookFront before text now)

-- the sink's count of faults rose where the writing failed, and else stayed
abbrev pub Counted : {T E : Type 0} → ℕ → Result T E → ℕ → Type 0
Counted before result now = MatchResult result (λ _. now ≡ before) (λ _. Rose before now × (before ≤ now))
