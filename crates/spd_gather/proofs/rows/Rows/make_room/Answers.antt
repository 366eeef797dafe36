use Rattle.std.proofs.Common.{arith, List, subst, inl, inr}
use Rattle.std.specs.Prelude.{Contains}
use Rattle.spd_gather.specs.Rows.{Row}
use Rattle.spd_gather.proofs.rows.Rows.make_room.Goals as goal

pub returns-in-Ok : goal.returns-in-Ok
returns-in-Ok c row m =
    elim (c.take_over.ensures row (subst (λ (l : List Row). Contains l row) c.drop.view_is m)) [
      | inl b ↦ (let none = subst (λ (l : List Row). Contains l row) c.in-Ok.ensures b in absurd (omega (arith, none.1)))
      | inr b ↦ b
    ]
