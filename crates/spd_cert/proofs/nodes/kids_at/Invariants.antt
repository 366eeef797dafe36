use Rattle.std.proofs.Common.{◌≡◌, ◌-◌, []}
use Rattle.spd_frozen.specs.Nodes.{all_shown}
use Rattle.spd_cert.specs.Reading.{kids_at}
use Rattle.spd_cert.proofs.nodes.kids_at.Given as goal

abbrev pub invariant-loop-before : goal.invariant-loop-before
invariant-loop-before l = kids_at (all_shown l.nodes) l.var (l.size - l.before) l.kids.items l.rest ≡ kids_at (all_shown l.nodes) l.var l.size [] l.bytes
