-- Streams of the system as sources and sinks.
use Rattle.std.specs.Prelude.{ℕ, List}

-- a stream, the name that it shows, and the count of its faults
pub record Adapted (X : Type 0) : Type 0 where
  pub name : List ℕ
  pub stream : X
  pub faults : ℕ
