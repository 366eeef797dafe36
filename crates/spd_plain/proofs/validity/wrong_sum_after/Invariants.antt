use Rattle.std.proofs.Common.{◌≡◌, not, flat_map, length, take, find, None}
use Rattle.std.specs.Ordering.{int_eq}
use Rattle.spd_model.specs.Numbers.{numbers_below}
use Rattle.spd_model.specs.States.{sizes, states}
use Rattle.spd_model.specs.Chances.{Sum, one}
use Rattle.spd_plain.specs.inner.Faults.{sums_at}
use Rattle.spd_plain.proofs.validity.wrong_sum_after.Given as goal

abbrev pub invariant-loop-var : goal.invariant-loop-var
invariant-loop-var l =
    find (λ (x : Sum). not (int_eq x.sum one))
    (flat_map (λ i. flat_map (sums_at l.model (l.number, l.action) i) (states (sizes l.model))) (take l.var (numbers_below (length l.model.vars)))) ≡ None
