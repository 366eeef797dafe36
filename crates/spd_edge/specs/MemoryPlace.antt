-- A place in memory: what was put there, by name.
use Rattle.std.specs.Prelude.{◌≡◌, ℕ, List, [], Option, None, Some, Result, Ok, Err, IfSome, Bool, find, option_map, ◌||◌, ◌&&◌, is_none, if◌then◌else◌}
use Rattle.std.specs.Option.{option_map_or}
use Rattle.std.specs.Str.{bytes_eq}
use Rattle.spd_edge.specs.Counts.{counted}
use Rattle.spd_edge.specs.Direction.{Direction}
use Rattle.spd_edge.specs.Memory.{Input, Output}
use Rattle.spd_edge.specs.Names.{is_among, updated}
use Rattle.spd_edge.specs.declared.outside.Open.{Open}
use Rattle.spd_edge.specs.declared.outside.Stage.{Stage}
use Rattle.spd_edge.specs.declared.shelf.Put.{Put}

-- what one direction keeps: what was put there, the other names that it was asked to open, and the count of faults of all these
pub record Kept (X : Type 0) : Type 0 where
  pub puts : List (Put X)
  pub refused : List (List ℕ)
  pub faults : ℕ

-- one direction by name: what was put under a name, what was closed under it, how far the place came with it, and its count of faults
pub record Shelf (X : Type 0) : Type 0 where
  pub put : List ℕ → Option X
  pub closed : List ℕ → Option X
  pub stage : List ℕ → Option Stage
  pub faults : List ℕ → ℕ

-- a shelf with nothing on it
abbrev pub empty_shelf : {X : Type 0} → Shelf X
empty_shelf = record { put = λ _. None; closed = λ _. None; stage = λ _. None; faults = λ _. 0 }

-- what was put under a name, with its counts
abbrev pub put_among : {X : Type 0} → List (Put X) → List ℕ → Option (Put X)
put_among puts name = find (λ put. bytes_eq put.name.items name) puts

-- what a direction keeps, by name: names under which nothing was put share one count, and opens of them fail
unfoldable pub shelf_of : {X : Type 0} → Kept X → Shelf X
shelf_of kept = record {
  put = λ name. option_map (λ put. put.object) (put_among kept.puts name);
  closed = λ name. option_map_or (λ put. put.closed) (put_among kept.puts name) None;
  stage = λ name. option_map_or (λ put. put.stage) (put_among kept.puts name) (if is_among kept.refused name then Some Stage.Unopened else None);
  faults = λ name. option_map_or (λ put. put.faults) (put_among kept.puts name) kept.faults;
}

-- whether two names have one count of faults: they are the same, or nothing was put under either
abbrev pub shares_count : {X : Type 0} → Shelf X → List ℕ → List ℕ → Bool
shares_count shelf name other = bytes_eq other name || (is_none (shelf.put name) && is_none (shelf.put other))

-- more faults of a name are counted
abbrev pub counting : {X : Type 0} → Shelf X → List ℕ → ℕ → Shelf X
counting shelf name more = record shelf { faults = λ other. if shares_count shelf name other then counted (shelf.faults other) more else shelf.faults other }

-- a name under which something was put is open
abbrev pub opened_on : {X : Type 0} → Shelf X → List ℕ → Shelf X
opened_on shelf name = record shelf { stage = updated shelf.stage name (Some Stage.Open) }

-- an open of a name is refused, which counts a fault of it
abbrev pub refused_on : {X : Type 0} → Shelf X → List ℕ → Shelf X
refused_on shelf name = counting (record shelf { stage = updated shelf.stage name (Some Stage.Unopened) }) name 1

-- an object is closed under a name, whose count rises by these faults
abbrev pub closed_on : {X : Type 0} → Shelf X → List ℕ → X → ℕ → Shelf X
closed_on shelf name object faults =
    counting (record shelf { closed = updated shelf.closed name (Some object); stage = updated shelf.stage name (Some Stage.Closed) }) name faults

-- what an open of a name gives and changes, by its answer: it fails exactly where nothing was put under the name
abbrev pub OpensOn : {X : Type 0} → Shelf X → Shelf X → List ℕ → Result X Open → Type 0
OpensOn before now name (Ok object) = (before.put name ≡ Some object) × (now ≡ opened_on before name)
OpensOn before now name (Err Open.Failed) = (before.put name ≡ None) × (now ≡ refused_on before name)
OpensOn before now name (Err Open.Memory) = now ≡ before

-- a place in memory, and its inputs and outputs by name
pub record MemoryPlace : Type 0 where
  pub inputs : Kept Input
  pub outputs : Kept Output

abbrev pub inputs_of : MemoryPlace → Shelf Input
inputs_of place = shelf_of place.inputs

abbrev pub outputs_of : MemoryPlace → Shelf Output
outputs_of place = shelf_of place.outputs

-- each object that was put on a shelf meets a condition together with its name
abbrev pub AllPut : {X : Type 0} → (List ℕ → X → Type 0) → Shelf X → Type 0
AllPut P shelf = (name : List ℕ) → IfSome (shelf.put name) (P name)

-- an input that was put there shows its name and has counted no fault; an output that was put there has taken nothing either
abbrev pub IsUnread : List ℕ → Input → Type 0
IsUnread name input = (input.name ≡ name) × (input.faults ≡ 0)

abbrev pub IsUnwritten : List ℕ → Output → Type 0
IsUnwritten name output = (output.name ≡ name) × (output.faults ≡ 0) × (output.taken ≡ [])

-- what a place in memory shows of its inputs: it holds what the inputs that were put there have left
abbrev pub input_direction : Shelf Input → Direction
input_direction shelf = record { stage = shelf.stage; faults = shelf.faults; holds = λ name. option_map (λ input. input.left) (shelf.put name) }

-- and of its outputs: it holds what the outputs that were closed took
abbrev pub output_direction : Shelf Output → Direction
output_direction shelf = record { stage = shelf.stage; faults = shelf.faults; holds = λ name. option_map (λ output. output.taken) (shelf.closed name) }
