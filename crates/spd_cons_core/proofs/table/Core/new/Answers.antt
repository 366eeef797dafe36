use Rattle.std.proofs.Common.{sym, subst, rules}
use Rattle.spd_cons_core.specs.Invariants.{IsSoundMachine}
use Rattle.spd_cons_core.proofs.Runs.{new_sound}
use Rattle.spd_cons_core.proofs.table.Core.new.Goals as goal

pub returns-clause-empty : goal.returns-clause-empty
returns-clause-empty c = search rules

pub returns-clause-sound : goal.returns-clause-sound
returns-clause-sound c =
    let empty = returns-clause-empty c in
    subst IsSoundMachine (sym empty.2) (new_sound c.args.limit c.args.seats empty.0 c.requires.seats_low)
