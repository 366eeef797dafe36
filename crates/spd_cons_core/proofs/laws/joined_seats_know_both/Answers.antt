use Rattle.spd_cons_core.proofs.Knowledge.{joined_cases, joined_keeps, joined_known}
use Rattle.spd_cons_core.proofs.laws.joined_seats_know_both.Goals as goal

pub returns-clause-nothing_else : goal.returns-clause-nothing_else
returns-clause-nothing_else c = λ seat other k. joined_cases other.knows seat.knows k

pub returns-clause-first : goal.returns-clause-first
returns-clause-first c = λ seat other e. joined_keeps other.knows seat.knows e

pub returns-clause-second : goal.returns-clause-second
returns-clause-second c = λ seat other e. joined_known other.knows seat.knows e
