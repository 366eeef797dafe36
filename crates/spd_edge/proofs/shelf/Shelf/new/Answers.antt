use Rattle.std.proofs.Common.{rules}
use Rattle.spd_edge.specs.MemoryPlace.{shelf_of}
use Rattle.spd_edge.proofs.shelf.Shelf.new.Goals as goal

pub returns : goal.returns
unfolding shelf_of
returns g c = search rules
