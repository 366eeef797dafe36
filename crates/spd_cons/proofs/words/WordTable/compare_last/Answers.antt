use Rattle.std.proofs.Common.{ap}
use Rattle.spd_cons.specs.declared.view.Size.{Size}
use Rattle.spd_cons.proofs.Comparing.{compares}
use Rattle.spd_cons.proofs.words.WordTable.compare_last.Goals as goal

pub returns-clause-compares : goal.returns-clause-compares
returns-clause-compares c = compares _ _ _ _ _ _ _ c.requires.at (ap (λ (z : Size). z.count) c.requires.own.1) c.load_word-found.ensures.tells c.word-wanted.ensures
