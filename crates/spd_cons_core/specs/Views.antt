-- What contracts see of the machine: records of numbers and lists.
use Rattle.std.specs.Prelude.{ℕ, Bool, List, Option}
use Rattle.spd_cons_core.specs.declared.key.Entry.{Entry}
use Rattle.spd_cons_core.specs.declared.mind.Known.{Known}
use Rattle.spd_cons_core.specs.declared.mind.Call.{Call}
use Rattle.spd_cons_core.specs.declared.mind.Last.{Last}

-- a seat, with the fields of `Mind`
pub record Seat : Type 0 where
  pub live : Bool
  pub knows : List Known
  pub published : List Entry
  pub spare : Option Entry
  pub unpublished : ℕ
  pub stands : ℕ
  pub splits : ℕ
  pub ended : Bool
  pub call : Option Call
  pub last : Last

-- a table with its seats, with the fields of `Core`; an entry is the list of its words
pub record Machine : Type 0 where
  pub limit : ℕ
  pub most : ℕ
  pub claims : ℕ
  pub buckets : List ℕ
  pub entries : List (List ℕ)
  pub seats : List Seat
