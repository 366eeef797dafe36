use Rattle.std.proofs.Common.{take}
use Rattle.spd_model.specs.Inner.Chosen.{AreChosen}
use Rattle.spd_model.proofs.process.Model.choose.Given as goal

abbrev pub invariant-loop-place : goal.invariant-loop-place
invariant-loop-place l = AreChosen l.self (take l.place l.pairs) l.chosen
