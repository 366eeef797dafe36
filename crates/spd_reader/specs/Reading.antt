-- Which bytes are a model file, which model they describe, and why other bytes are refused.
use Rattle.std.specs.Prelude.{ℕ, ◌≡◌, List, [], Some, None}
use Rattle.spd_model.specs.Process.{Process}
use Rattle.spd_syntax.specs.declared.file.File.{File}
use Rattle.spd_syntax.specs.declared.refusal.Refusal.{Refusal}
use Rattle.spd_syntax.specs.declared.unread.Unread.{Unread}
use Rattle.spd_syntax.specs.declared.unread.Unread.TheVariants.{Refused, Memory}
use Rattle.spd_syntax.specs.Files.{IsWritten}
use Rattle.spd_syntax.specs.Reading.{first_fault}
use Rattle.spd_reader.specs.Faults.{least}
use Rattle.spd_reader.specs.Models.{faults_of, model_of}

-- These bytes are a model file, and describe this model.
pub record IsRead (file : List ℕ) (m : Process) : Type 0 where
  pub text : File
  pub written : IsWritten file text
  pub named : faults_of file text ≡ []
  pub means : m ≡ model_of file text

-- These bytes are no model file for this reason: the first byte that may not stand in it; else the first fault of its syntax;
-- else, of all faults of its names, the one with the least place and there with the least number.
pub data IsRefused (file : List ℕ) (r : Refusal) : Type 0 where
  syntax : first_fault file ≡ Some r → IsRefused file r
  names : (text : File) → IsWritten file text → least None (faults_of file text) ≡ Some r → IsRefused file r

-- the reason was told, or memory ran out
abbrev pub TellsRefusal : List ℕ → Unread → Type 0
TellsRefusal file (Refused r) = IsRefused file r
TellsRefusal file Memory = Unit {0}
