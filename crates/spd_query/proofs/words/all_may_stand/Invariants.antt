use Rattle.std.proofs.Common.{◌≡◌, take}
use Rattle.std.specs.List.{list_all}
use Rattle.spd_query.specs.Lines.{may_stand}
use Rattle.spd_query.proofs.words.all_may_stand.Given as goal

abbrev pub invariant-loop-byte : goal.invariant-loop-byte
invariant-loop-byte l = l.all ≡ list_all may_stand (take l.byte-index l.line)
