use Rattle.std.proofs.Common.{rules}
use Rattle.spd_cons_core.specs.Spelling.{mixed}
use Rattle.spd_cons_core.proofs.spelling.mix.Goals as goal

pub returns : goal.returns
unfolding mixed
returns c = search rules
