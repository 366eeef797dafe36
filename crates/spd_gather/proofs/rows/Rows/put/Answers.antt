use Rattle.std.proofs.Common.{inl, inr}
use Rattle.spd_gather.proofs.rows.Rows.put.Goals as goal

pub returns : goal.returns
returns c row m = elim (c.write.ensures row m) [ inl b ↦ inl (c.make_room.ensures row b) | inr b ↦ inr b ]
