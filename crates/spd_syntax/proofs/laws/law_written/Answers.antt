use Rattle.spd_syntax.proofs.FileMoves.{written_no_fault}
use Rattle.spd_syntax.proofs.laws.law_written.Goals as goal

pub returns : goal.returns
returns c = written_no_fault
