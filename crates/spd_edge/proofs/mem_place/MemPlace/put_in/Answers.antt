use Rattle.std.proofs.Common.{ap, ◌∙◌}
use Rattle.spd_edge.specs.Memory.{Input}
use Rattle.spd_edge.specs.MemoryPlace.{IsUnread, shelf_of}
use Rattle.spd_edge.proofs.MemoryPlaceLemmas.{AllPut-put}
use Rattle.spd_edge.proofs.mem_place.MemPlace.put_in.Goals as goal

pub invariant_of-self-2 : goal.invariant_of-self-2
invariant_of-self-2 c =
    let here : IsUnread c.args.name.now c.in_ok-input.input =
    (ap (λ (x : Input). x.name) c.in_ok-input.ensures, ap (λ (x : Input). x.faults) c.in_ok-input.ensures ∙ c.requires.no_fault_yet) in
    let all = AllPut-put IsUnread (shelf_of c.self.inside.inputs) (shelf_of c.put.new.self) c.args.name.now c.in_ok-input.input c.in_ok-put.ensures.ok here c.self.invariant.0 in
    (all, c.self.invariant.1)
