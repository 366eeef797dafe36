-- Pieces of a text that are written to a sink one after another.
use Rattle.std.specs.Prelude.{ℕ, ◌≡◌, ◌≤◌, List, Option, Result, OnOk, OnErr}
use Rattle.spd_edge.specs.Counts.{Rose}
use Rattle.spd_edge.specs.Told.{Took, TookFront}

-- what a sink shows: the bytes that it took, its count of faults and its name
pub record Shown : Type 0 where
  pub taken : Option (List ℕ)
  pub faults : ℕ
  pub name : List ℕ

abbrev pub shown : {S : Type 0} → (S → Option (List ℕ)) → (S → ℕ) → (S → List ℕ) → S → Shown
shown taken faults name k = record { taken = taken k; faults = faults k; name = name k }

-- A text was written: the sink took all of it on Ok, and else a front of it.
pub record Writes {T E : Type 0} (before : Shown) (text : List ℕ) (result : Result T E) (now : Shown) : Type 0 where
  pub all : OnOk result (Took before.taken text now.taken)
  pub ok : OnOk result (now.faults ≡ before.faults)
  pub front : OnErr result (TookFront before.taken text now.taken)
  pub failed : OnErr result (Rose before.faults now.faults)
  pub never_falls : before.faults ≤ now.faults
  pub named : now.name ≡ before.name
