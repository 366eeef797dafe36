use Rattle.std.proofs.Common.{◌≡◌, length, map, take}
use Rattle.spd_model.specs.declared.process.Var.{Var}
use Rattle.spd_build.proofs.layout.layout_of.Given as goal

abbrev pub invariant-loop-var : goal.invariant-loop-var
invariant-loop-var l = l.sizes.items ≡ map (λ (x : Var). length x.values) (take l.var-index l.vars)
