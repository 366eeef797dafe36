use Rattle.std.proofs.Common.{◌≡◌, length, false}
use Rattle.spd_client_rows.proofs.board.publish_all.Given as goal

abbrev pub invariant-loop-number : goal.invariant-loop-number
invariant-loop-number g l = (length l.writer.published ≡ l.number) × (l.writer.refused ≡ false)
