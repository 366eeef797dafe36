use Rattle.spd_bellman.proofs.Returns.{low_encloses, high_encloses}
use Rattle.spd_bellman.proofs.law_enclosure.Goals as goal

pub returns-clause-below : goal.returns-clause-below
returns-clause-below c = λ m valid w a offered s is. low_encloses m valid a offered s is w

pub returns-clause-above : goal.returns-clause-above
returns-clause-above c = λ m valid w a offered s is. high_encloses m valid a offered s is w
