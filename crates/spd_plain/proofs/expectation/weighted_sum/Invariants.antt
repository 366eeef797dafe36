use Rattle.std.proofs.Common.{◌≡◌, ◌*ℤ◌}
use Rattle.spd_model.specs.Numbers.{sum_below}
use Rattle.spd_plain.specs.inner.Expectations.{entry}
use Rattle.spd_plain.proofs.expectation.weighted_sum.Given as goal

abbrev pub invariant-loop-value : goal.invariant-loop-value
invariant-loop-value l = l.sum ≡ sum_below l.value (λ v. entry l.after l.chances v l.place *ℤ entry l.after l.values v l.place)
