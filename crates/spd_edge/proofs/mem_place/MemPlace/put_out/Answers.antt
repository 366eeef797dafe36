use Rattle.std.proofs.Common.{ap, ◌∙◌}
use Rattle.spd_edge.specs.Memory.{Output}
use Rattle.spd_edge.specs.MemoryPlace.{IsUnwritten, shelf_of}
use Rattle.spd_edge.proofs.MemoryPlaceLemmas.{AllPut-put}
use Rattle.spd_edge.proofs.mem_place.MemPlace.put_out.Goals as goal

pub invariant_of-self-2 : goal.invariant_of-self-2
invariant_of-self-2 c =
    let here : IsUnwritten c.args.name.now c.in_ok-output.output =
    (ap (λ (x : Output). x.name) c.in_ok-output.ensures, ap (λ (x : Output). x.faults) c.in_ok-output.ensures ∙ c.requires.no_fault_yet, ap (λ (x : Output). x.taken) c.in_ok-output.ensures ∙ c.requires.empty) in
    let all = AllPut-put IsUnwritten (shelf_of c.self.inside.outputs) (shelf_of c.put.new.self) c.args.name.now c.in_ok-output.output c.in_ok-put.ensures.ok here c.self.invariant.1 in
    (c.self.invariant.0, all)
