-- What the words of the command ask the top call for.
use Rattle.std.specs.Prelude.{ℕ, ◌≡◌, ◌⊎◌, List, Option, Some, None}
use Rattle.spd_model.specs.declared.options.Options.{Options}
use Rattle.spd_words.specs.declared.command.Command.{Command as Said}
use Rattle.spd_words.specs.Commands.{IsCommand, IsUsage as IsNoCommand}
use Rattle.spd_words.specs.Standing.{text_at}
use Rattle.spd_solver.specs.declared.command.Purpose.{Purpose}
use Rattle.spd_solver.specs.declared.command.Purpose.TheVariants.{Judge, Upgrade}
use Rattle.spd_solver.specs.declared.command.Way.{Way}
use Rattle.spd_solver.specs.declared.command.Way.TheVariants.{Diagrams, Tables}

-- what the top call runs
pub data Command : Type 0 where
  -- solve the model in the file of this name in one of the two ways
  solving : Way → List ℕ → Options → Command
  -- write the file of a ring of so many machines
  generating : ℕ → Command
  -- solve the process of a ring of so many machines on decision diagrams
  solving_ring : ℕ → Options → Command
  -- check the certificate in the file of the second name, of the model in the file of the first one, for one of the two purposes
  checking : Purpose → List ℕ → List ℕ → Options → Command

-- The command that words say, where it is one that the top call runs: `solve` goes over decision diagrams, and `plain` over tables; `gen`
-- writes the file of a ring, and `ring` solves its process; `check` judges a certificate, and `upgrade` writes one anew that holds. A file's
-- name is the word of its number.
abbrev pub command_of : List (List ℕ) → Said → Option Command
command_of words (Said.Solve file options) = Some (solving Diagrams (text_at words file) options)
command_of words (Said.Plain file options) = Some (solving Tables (text_at words file) options)
command_of words (Said.Gen machines) = Some (generating machines)
command_of words (Said.Ring machines options) = Some (solving_ring machines options)
command_of words (Said.Check file cert options) = Some (checking Judge (text_at words file) (text_at words cert) options)
command_of words (Said.Upgrade file cert options) = Some (checking Upgrade (text_at words file) (text_at words cert) options)
command_of words _ = None

-- the words ask for this command
abbrev pub AskFor : List (List ℕ) → Command → Type 0
AskFor words command = (said : Said) × IsCommand words said × (command_of words said ≡ Some command)

-- what is said of the command that the words ask for
abbrev pub OnCommand : List (List ℕ) → (Command → Type 0) → Type 0
OnCommand words P = (command : Command) → AskFor words command → P command

-- The words can't be run: they are no command, and the first that can't stand where it does has this number, counted from 0; or they
-- are a command that the top call doesn't run, and the number is that of its first word.
abbrev pub IsUsage : List (List ℕ) → ℕ → Type 0
IsUsage words word = IsNoCommand words word ⊎ ((word ≡ 0) × ((said : Said) × IsCommand words said × (command_of words said ≡ None)))
