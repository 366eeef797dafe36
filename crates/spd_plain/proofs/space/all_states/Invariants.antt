use Rattle.std.proofs.Common.{◌≡◌, ◌-◌, length, take, slice_get}
use Rattle.spd_model.specs.States.{sizes, states, state_count}
use Rattle.spd_plain.proofs.space.all_states.Given as goal

abbrev pub invariant-loop-next : goal.invariant-loop-next
invariant-loop-next l = record {
  all : l.all.items ≡ take (length l.all.items) (states (sizes l.model));
  next : l.next ≡ slice_get (states (sizes l.model)) (length l.all.items);
}

abbrev pub decreases-loop-next : goal.decreases-loop-next
decreases-loop-next l = state_count (sizes l.model) - length l.all.items
