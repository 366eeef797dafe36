use Rattle.std.proofs.Common.{◌≡◌, not, nat_le, map, take, find, unsigned_abs, None}
use Rattle.spd_model.specs.States.{sizes, states}
use Rattle.spd_model.specs.Chances.{Reward, reward_of, reward_limit}
use Rattle.spd_plain.proofs.validity.wide_reward_after.Given as goal

abbrev pub invariant-loop-s : goal.invariant-loop-s
invariant-loop-s l =
    find (λ (x : Reward). not (nat_le (unsigned_abs x.value) reward_limit))
    (map (λ s. record { action = l.number; state = s; value = reward_of l.model l.action s }) (take l.s-index (states (sizes l.model)))) ≡ None
