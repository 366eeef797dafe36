-- What contracts see of the ends of a board.
use Rattle.std.specs.Prelude.{◌≡◌, ℕ, ◌≤◌, ◌⊎◌, List, Bool, slice_get, Some}
use Rattle.spd_board.specs.Board.{GoesOn, EndsIn, IsNumbered}

-- what the writer has published, in order, and whether one of its calls answered that there was no memory
pub record Writing (T : Type 0) : Type 0 where
  pub published : List T
  pub refused : Bool

-- the published items that a reader has seen, and the one that it answered last: at first it is the board's first item
pub record Reading (T : Type 0) : Type 0 where
  pub seen : List T
  pub last : T

-- A reader answers. It has seen no fewer of the published items than before, each in the place of its number. The answer is the newest of
-- them, or the item that was answered before; it stands among them, unless it is still the board's first one; and it is no older.
pub record Answers {T : Type 0} (nr : T → ℕ) (before now : Reading T) : Type 0 where
  pub goes_on : GoesOn before.seen now.seen
  pub numbered : IsNumbered nr now.seen
  pub newest : EndsIn now.seen now.last ⊎ (now.last ≡ before.last)
  pub published : (slice_get now.seen (nr now.last) ≡ Some now.last) ⊎ (nr now.last ≡ 0)
  pub no_older : nr before.last ≤ nr now.last
