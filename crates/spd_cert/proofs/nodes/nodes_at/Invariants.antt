use Rattle.std.proofs.Common.{◌≡◌, ◌-◌, [], length}
use Rattle.spd_frozen.specs.Nodes.{all_shown}
use Rattle.spd_cert.specs.Reading.{nodes_at}
use Rattle.spd_cert.proofs.nodes.nodes_at.Given as goal

abbrev pub invariant-loop : goal.invariant-loop
invariant-loop l = record {
  told : nodes_at l.model l.part (l.count - l.counter) (all_shown l.nodes.items) l.rest ≡ nodes_at l.model l.part l.count [] l.bytes;
  long : length l.nodes.items ≡ l.counter;
}
