-- The place of the system.
use Rattle.std.specs.Prelude.{ℕ, List, Option, None}
use Rattle.spd_edge.specs.Direction.{Direction}
use Rattle.spd_edge.specs.Openings.{stage_among}
use Rattle.spd_edge.specs.declared.real.RealDirection.{RealDirection}
use Rattle.spd_edge.specs.declared.real.Stream.{Stream}
use Rattle.spd_edge.specs.declared.real.Stream.TheVariants.{File, Standard}

-- the bytes that a stream tells: those of its file, or of the standard stream
abbrev pub told_by_stream : {F S : Type 0} → (F → Option (List ℕ)) → (S → Option (List ℕ)) → Stream F S → Option (List ℕ)
told_by_stream of_file of_standard (File file) = of_file file
told_by_stream of_file of_standard (Standard standard) = of_standard standard

-- the inputs and the outputs of the place of the system
pub record RealDirections : Type 0 where
  pub inputs : RealDirection
  pub outputs : RealDirection

-- what one of them shows: the count of each name is one and the same, and nothing is told of bytes
abbrev pub shown_by : RealDirection → Direction
shown_by direction = record { stage = stage_among direction.openings; faults = λ _. direction.faults; holds = λ _. None }
