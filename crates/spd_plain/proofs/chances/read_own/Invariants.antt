use Rattle.std.proofs.Common.{◌≡◌, ◌∷◌, [], map, slice_index_or}
use Rattle.spd_model.specs.Numbers.{numbers_below}
use Rattle.spd_model.specs.States.{states}
use Rattle.spd_model.specs.Chances.{sizes_after}
use Rattle.spd_plain.specs.inner.Chances.{chance_of}
use Rattle.spd_plain.proofs.chances.read_own.Given as goal

abbrev pub invariant-loop-value : goal.invariant-loop-value
invariant-loop-value l = l.own.items
    ≡ map (λ v. chance_of l.model l.action l.s l.axis.var (v ∷ slice_index_or (states (sizes_after l.model l.axis.var)) 0 [])) (numbers_below l.value)
