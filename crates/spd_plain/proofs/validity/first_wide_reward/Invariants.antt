use Rattle.std.proofs.Common.{◌≡◌, not, nat_le, map, flat_map, take, find, unsigned_abs, None}
use Rattle.std.specs.List.{enumerate_from}
use Rattle.spd_model.specs.States.{sizes, states}
use Rattle.spd_model.specs.Chances.{Reward, reward_of, reward_limit}
use Rattle.spd_plain.proofs.validity.first_wide_reward.Given as goal

abbrev pub invariant-loop-number : goal.invariant-loop-number
invariant-loop-number l =
    find (λ (x : Reward). not (nat_le (unsigned_abs x.value) reward_limit))
    (flat_map (λ a. map (λ s. record { action = a.0; state = s; value = reward_of l.model a.1 s }) (states (sizes l.model)))
    (take l.number (enumerate_from 0 l.model.actions))) ≡ None
