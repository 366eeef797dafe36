-- A board: the items that were published on it, in order, and what each end has seen of them.
use Rattle.std.specs.Prelude.{◌≡◌, ℕ, List, [], ◌∷◌, ◌++◌, slice_get, Some}
use mathlib.Core.Option.{some}
use lib.ListN.{get_elem?}
use Rattle.std.specs.Arc.{arc_value}
use Rattle.spd_board.specs.declared.item.Shown.{Shown}
use Rattle.spd_board.specs.declared.item.View.{View}

-- a list goes on from its front
pub record GoesOn {T : Type 0} (front items : List T) : Type 0 where
  pub rest : List T
  pub split : items ≡ front ++ rest

-- x is the last one of a list
pub record EndsIn {T : Type 0} (items : List T) (x : T) : Type 0 where
  pub others : List T
  pub split : items ≡ others ++ x ∷ []

-- the item in place k has the number k
abbrev pub IsNumbered : {T : Type 0} → (T → ℕ) → List T → Type 0
IsNumbered {T} nr items = (k : ℕ) (x : T) → slice_get items k ≡ Some x → nr x ≡ k

-- an end that has seen nothing yet
abbrev pub nothing_seen : {T : Type 0} → View T
nothing_seen = record { seen = [] }

-- Between any two steps there is one list of published items, numbered from 0. The item that is shown is its last one, and each end
-- has seen a front of it.
pub record IsBoard {T : Type 0} (nr : T → ℕ) (shown : Shown T) (views : List (View T)) : Type 0 where
  pub published : List T
  pub numbered : IsNumbered nr published
  pub newest : EndsIn published (arc_value shown.item)
  pub fronts : (end : ℕ) (v : View T) → get_elem? views end ≡ some v → GoesOn v.seen published

-- A reader enters: it has now seen all that was published, of which the item that is shown is the last one.
pub record Enters {T : Type 0} (nr : T → ℕ) (before : View T) (shown now_shown : Shown T) (now : View T) : Type 0 where
  pub goes_on : GoesOn before.seen now.seen
  pub numbered : IsNumbered nr now.seen
  pub newest : EndsIn now.seen (arc_value now_shown.item)

-- The writer publishes: the item now stands behind all that was published, and the writer has seen all of it.
pub record Publishes {T : Type 0} (nr : T → ℕ) (before : View T) (shown now_shown : Shown T) (now : View T) : Type 0 where
  pub published : List T
  pub goes_on : GoesOn before.seen published
  pub numbered : IsNumbered nr published
  pub newest : EndsIn published (arc_value shown.item)
  pub appended : now.seen ≡ published ++ arc_value now_shown.item ∷ []
