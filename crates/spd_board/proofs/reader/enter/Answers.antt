use Rattle.spd_board.proofs.Steps.{enters}
use Rattle.spd_board.proofs.reader.enter.Goals as goal

pub enter_as-requires : goal.enter_as-requires
enter_as-requires g c = enters g.T.Numbered.nr _ _
