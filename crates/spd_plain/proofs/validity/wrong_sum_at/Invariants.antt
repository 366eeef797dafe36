use Rattle.std.proofs.Common.{◌≡◌, not, map, take, find, None}
use Rattle.std.specs.Ordering.{int_eq}
use Rattle.spd_model.specs.States.{states}
use Rattle.spd_model.specs.Chances.{Sum, sum_of, sizes_after, one}
use Rattle.spd_plain.proofs.validity.wrong_sum_at.Given as goal

abbrev pub invariant-loop-place : goal.invariant-loop-place
invariant-loop-place l =
    find (λ (x : Sum). not (int_eq x.sum one))
    (map (λ rest. record { action = l.number; var = l.axis.var; state = l.s; sum = sum_of l.model l.action l.s l.axis.var rest }) (take l.place (states (sizes_after l.model l.axis.var)))) ≡ None
