use Rattle.std.proofs.Common.{◌≡◌, not, flat_map, take, find, None}
use Rattle.std.specs.Ordering.{int_eq}
use Rattle.spd_model.specs.States.{sizes, states}
use Rattle.spd_model.specs.Chances.{Sum, one}
use Rattle.spd_plain.specs.inner.Faults.{sums_at}
use Rattle.spd_plain.proofs.validity.wrong_sum_of_var.Given as goal

abbrev pub invariant-loop-s : goal.invariant-loop-s
invariant-loop-s l = find (λ (x : Sum). not (int_eq x.sum one)) (flat_map (sums_at l.model (l.number, l.action) l.axis.var) (take l.s-index (states (sizes l.model)))) ≡ None
