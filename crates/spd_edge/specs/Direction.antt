-- What a place shows of one direction, its inputs or its outputs, and what an open and a close of a name change there.
use Rattle.std.specs.Prelude.{◌≡◌, ℕ, ◌⊎◌, List, Option, Some, Result, Ok, Err}
use Rattle.spd_edge.specs.declared.outside.Stage.{Stage}
use Rattle.spd_edge.specs.declared.outside.Open.{Open}
use Rattle.spd_edge.specs.Counts.{counted, Rose}
use Rattle.spd_edge.specs.Names.{SameButFor, updated}

-- how far the place came with each name, where `None` is a name that it wasn't asked to open; each
-- name's count of faults; and the bytes that it holds under each name, where it tells them
pub record Direction : Type 0 where
  pub stage : List ℕ → Option Stage
  pub faults : List ℕ → ℕ
  pub holds : List ℕ → Option (List ℕ)

-- a name came to this stage
abbrev pub staged : Direction → List ℕ → Stage → Direction
staged direction name stage = record direction { stage = updated direction.stage name (Some stage) }

-- an open of a name answered Ok
pub record Opens (before now : Direction) (name : List ℕ) : Type 0 where
  pub opened : now.stage name ≡ Some Stage.Open
  pub other_stages : SameButFor before.stage now.stage name
  pub faults : now.faults ≡ before.faults
  pub holds : now.holds ≡ before.holds

-- an open of a name failed
pub record FailsToOpen (before now : Direction) (name : List ℕ) : Type 0 where
  pub not_opened : now.stage name ≡ Some Stage.Unopened
  pub other_stages : SameButFor before.stage now.stage name
  pub rose : Rose (before.faults name) (now.faults name)
  pub holds : now.holds ≡ before.holds

-- an open of a name found no memory: the name may not be noted
pub record LacksMemory (before now : Direction) (name : List ℕ) : Type 0 where
  pub not_opened : (now.stage name ≡ before.stage name) ⊎ (now.stage name ≡ Some Stage.Unopened)
  pub other_stages : SameButFor before.stage now.stage name
  pub faults : now.faults ≡ before.faults
  pub holds : now.holds ≡ before.holds

-- what an open of a name changed, by its answer
abbrev pub AfterOpen : {X : Type 0} → Direction → Direction → List ℕ → Result X Open → Type 0
AfterOpen before now name (Ok object) = Opens before now name
AfterOpen before now name (Err Open.Failed) = FailsToOpen before now name
AfterOpen before now name (Err Open.Memory) = LacksMemory before now name

-- an object that counted these faults was closed under a name
pub record Closes (before now : Direction) (name : List ℕ) (faults : ℕ) : Type 0 where
  pub closed : now.stage name ≡ Some Stage.Closed
  pub other_stages : SameButFor before.stage now.stage name
  pub added : now.faults name ≡ counted (before.faults name) faults
  pub no_fault : faults ≡ 0 → now.faults ≡ before.faults
