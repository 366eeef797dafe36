use Rattle.spd_board.proofs.Steps.{admits}
use Rattle.spd_board.proofs.open.seat.Goals as goal

pub reader-requires : goal.reader-requires
reader-requires g c = admits g.T.Numbered.nr
