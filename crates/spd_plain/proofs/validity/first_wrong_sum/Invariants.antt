use Rattle.std.proofs.Common.{◌≡◌, not, flat_map, take, find, None}
use Rattle.std.specs.List.{enumerate_from}
use Rattle.std.specs.Ordering.{int_eq}
use Rattle.spd_model.specs.Chances.{Sum, one}
use Rattle.spd_model.proofs.CallerLemmas.Validity.{sums_after}
use Rattle.spd_plain.proofs.validity.first_wrong_sum.Given as goal

abbrev pub invariant-loop-number : goal.invariant-loop-number
invariant-loop-number l = find (λ (x : Sum). not (int_eq x.sum one)) (flat_map (sums_after l.model) (take l.number (enumerate_from 0 l.model.actions))) ≡ None
