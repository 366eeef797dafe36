use Rattle.spd_model.specs.States.{sizes, at}
use Rattle.spd_model.specs.Turns.{turn}
use Rattle.spd_bellman.proofs.TurnLaws.{shrinks, enough_holds, enough_stops, enough_done, some_enough}
use Rattle.spd_bellman.proofs.law_turns.Goals as goal

pub returns-clause-shrinks : goal.returns-clause-shrinks
returns-clause-shrinks c = λ m valid most span k. shrinks m valid most span (at (sizes m) (turn m span k))

pub returns-clause-enough : goal.returns-clause-enough
returns-clause-enough c = enough_holds

pub returns-clause-stops : goal.returns-clause-stops
returns-clause-stops c = enough_stops

pub returns-clause-done : goal.returns-clause-done
returns-clause-done c = enough_done

pub returns-clause-some : goal.returns-clause-some
returns-clause-some c = some_enough
