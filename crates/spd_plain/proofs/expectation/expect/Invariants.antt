use Rattle.spd_scaled.specs.Scaled.{floor_div, ceil_div}
use Rattle.spd_model.specs.States.{sizes, at}
use Rattle.spd_plain.proofs.Steps.{Expects}
use Rattle.spd_plain.proofs.expectation.expect.Given as goal

abbrev pub invariant-loop-var : goal.invariant-loop-var
invariant-loop-var l = record {
  low : Expects l.model l.action l.s (at (sizes l.model) l.values) floor_div l.var l.work.low.items;
  high : Expects l.model l.action l.s (at (sizes l.model) l.values) ceil_div l.var l.work.high.items;
}
