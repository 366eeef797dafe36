use Rattle.std.proofs.Common.{◌≡◌, ◌*◌, ◌^◌, [], pos, slice_index_or}
use Rattle.spd_scaled.specs.Scaled.{IsWithin}
use Rattle.spd_model.specs.Numbers.{sum_below}
use Rattle.spd_model.specs.States.{states}
use Rattle.spd_model.specs.Chances.{sizes_after, probability}
use Rattle.spd_plain.proofs.chances.chance_sum.Given as goal

abbrev pub invariant-loop-value : goal.invariant-loop-value
invariant-loop-value l = record {
  sum : l.sum ≡ sum_below l.value (λ v. probability l.model l.action l.s l.axis.var v (slice_index_or (states (sizes_after l.model l.axis.var)) l.place []));
  within : IsWithin (pos (l.value * 10 ^ 30)) l.sum;
}
