use Rattle.std.proofs.Common.{◌≡◌, take}
use Rattle.spd_reader.proofs.IndexViews.{shown}
use Rattle.spd_reader.proofs.index.Index.names.Given as goal

abbrev pub invariant-loop-name : goal.invariant-loop-name
invariant-loop-name l = l.names ≡ shown (take l.name-index l.name-items)
