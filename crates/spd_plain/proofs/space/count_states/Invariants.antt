use Rattle.std.proofs.Common.{◌≡◌, ◌≤◌, suc, length, map, take, find, None, nat_lt}
use Rattle.spd_model.specs.Numbers.{numbers_below}
use Rattle.spd_model.specs.States.{sizes, state_count}
use Rattle.spd_plain.specs.Space.{state_limit}
use Rattle.spd_plain.proofs.space.count_states.Given as goal

abbrev pub invariant-loop-var : goal.invariant-loop-var
invariant-loop-var l = record {
  count : l.count ≡ state_count (take l.var-index (sizes l.model));
  few : l.count ≤ state_limit;
  none : find (nat_lt state_limit) (map (λ n. state_count (take (suc n) (sizes l.model))) (take l.var-index (numbers_below (length l.model.vars)))) ≡ None;
}
