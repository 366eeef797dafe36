-- What the bench works on: a model's parts and a value, as diagrams.
use Rattle.std.specs.Prelude.{◌≡◌, ℕ, List, ℤ, true}
use Rattle.spd_cons_core.specs.declared.key.Entry.{Entry}
use Rattle.spd_model.specs.Process.{Process}
use Rattle.spd_nodes.specs.Shown.{Shown, IsWhole, meaning}
use Rattle.spd_weigh.specs.Leaves.{HasValues}
use Rattle.spd_turn.specs.declared.parts.TurnParts.{TurnParts}
use Rattle.spd_turn.specs.Parts.{ArePartsOf}

-- the parts of some process, and some value
pub record HasParts (s : Shown) (p : TurnParts) : Type 0 where
  pub process : Process
  pub value : List ℕ → ℤ
  pub parts : ArePartsOf process value s p

-- a known whole diagram, whose numbers are values
pub record IsOfValues (s : Shown) (r : Entry) : Type 0 where
  pub known : s.knows r ≡ true
  pub whole : IsWhole s r
  pub values : HasValues s.sizes (meaning s r)
