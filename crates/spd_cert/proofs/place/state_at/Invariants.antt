use Rattle.std.proofs.Common.{◌≡◌, ◌≤◌, [], length, take, drop}
use Rattle.spd_cert.specs.Reading.{state_at}
use Rattle.spd_cert.proofs.place.state_at.Given as goal

abbrev pub invariant-loop-i : goal.invariant-loop-i
invariant-loop-i l = record {
  told : state_at (drop l.i l.model.vars) (take l.i l.values) l.rest ≡ state_at l.model.vars [] l.bytes;
  room : length l.values ≡ 100;
  within : l.i ≤ length l.model.vars;
}
