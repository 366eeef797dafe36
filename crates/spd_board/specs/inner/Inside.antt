-- What the ends of a board keep.
use Rattle.std.specs.Prelude.{◌≡◌, ℕ, ◌⊎◌, List, [], ◌∷◌, Option, None, Some, slice_get}
use Rattle.spd_board.specs.Board.{GoesOn, EndsIn, IsNumbered}
use Rattle.spd_board.specs.Ends.{Reading}

-- what was published, as far as an end has seen it, where x is the item that is shown: x alone, where the end has seen nothing
abbrev pub published_with : {T : Type 0} → List T → T → List T
published_with [] x = x ∷ []
published_with (y ∷ ys) x = y ∷ ys

-- what a writer has published is numbered, and x is the last one
pub record IsWhole {T : Type 0} (nr : T → ℕ) (published : List T) (x : T) : Type 0 where
  pub numbered : IsNumbered nr published
  pub newest : EndsIn published x

-- what a reader keeps: the items that it has seen stand in the places of their numbers; the one that it answered last is among them, or
-- has the number 0
pub record IsReading {T : Type 0} (nr : T → ℕ) (r : Reading T) : Type 0 where
  pub numbered : IsNumbered nr r.seen
  pub published : (slice_get r.seen (nr r.last) ≡ Some r.last) ⊎ (nr r.last ≡ 0)

-- what is seen by an end, if it is there
abbrev pub seen_at : {A T : Type 0} → (A → List T) → Option A → List T
seen_at f None = []
seen_at f (Some end) = f end

-- an end that went in knows no less; a share that it took is one of the newest item
pub record Looks {T : Type 0} (nr : T → ℕ) (before now : List T) (share : Option T) : Type 0 where
  pub goes_on : GoesOn before now
  pub numbered : IsNumbered nr before → IsNumbered nr now
  pub newest : (x : T) → share ≡ Some x → EndsIn now x
