-- What the sections that were read say.
use Rattle.std.specs.Prelude.{◌≡◌, [], None}
use Rattle.spd_reader.specs.declared.said.Said.{Said as Code}
use Rattle.spd_reader.specs.Trees.{Scope}
use Rattle.spd_reader.specs.Models.{Said, action_names}
use Rattle.spd_reader.specs.Scopes.{scope_of}

-- what the sections of the code stand for
abbrev pub said_by : Code → Said
said_by s = record { scope = scope_of s.names; actions = s.actions; reward = s.reward; discount = s.discount; tolerance = s.tolerance; horizon = s.horizon }

-- no section was read
abbrev pub before_sections : Scope → Said
before_sections s = record { scope = s; actions = []; reward = None; discount = None; tolerance = None; horizon = None }

-- the file stays, and the index of the actions is that of their names
pub record KeepsFile (old new : Code) : Type 0 where
  pub file : new.names.file.now ≡ old.names.file.now
  pub indexed : new.action_index ≡ action_names new.actions
