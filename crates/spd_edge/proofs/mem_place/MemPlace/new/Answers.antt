use Rattle.std.proofs.Common.{sym, subst}
use Rattle.spd_edge.specs.Memory.{Input, Output}
use Rattle.spd_edge.specs.MemoryPlace.{AllPut, IsUnread, IsUnwritten, Shelf}
use Rattle.spd_edge.proofs.mem_place.MemPlace.new.Goals as goal

pub invariant_of-result : goal.invariant_of-result
invariant_of-result c = (
  subst (λ (s : Shelf Input). AllPut IsUnread s) (sym c.new.ensures) (λ _. tt),
  subst (λ (s : Shelf Output). AllPut IsUnwritten s) (sym c.new-2.ensures) (λ _. tt),
)
