use Rattle.std.proofs.Common.{sym, ◌∙◌, length}
use Rattle.spd_cons_core.proofs.Consequences.{total_alone}
use Rattle.spd_cons_core.proofs.laws.lists_count_published.Goals as goal

pub returns-clause-all : goal.returns-clause-all
returns-clause-all c = λ m sound. sym sound.all_listed

pub returns-clause-last : goal.returns-clause-last
returns-clause-last c = λ m i sound live all. sym sound.all_listed ∙ total_alone (λ seat. length seat.published) m sound i live all
