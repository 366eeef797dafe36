-- The names that a place was asked to open, each with its stage.
use Rattle.std.specs.Prelude.{ℕ, List, Option, find, option_map}
use Rattle.std.specs.Str.{bytes_eq}
use Rattle.spd_edge.specs.declared.openings.Opening.{Opening}
use Rattle.spd_edge.specs.declared.outside.Stage.{Stage}

-- the stage of a name, where it is among these
abbrev pub stage_among : List Opening → List ℕ → Option Stage
stage_among openings name = option_map (λ opening. opening.stage) (find (λ opening. bytes_eq opening.name.items name) openings)
