use Rattle.std.proofs.Common.{List, ap, subst}
use Rattle.spd_model.specs.Reduced.{Node}
use Rattle.spd_nodes.specs.declared.leaf.Leaf.{Leaf}
use Rattle.spd_frozen.specs.Mixed.{all_slotted}
use Rattle.spd_frozen.specs.inner.Completed.{slot_diagram, IsCompleted}
use Rattle.spd_frozen.proofs.MixedLaws.{completed-list}
use Rattle.spd_frozen.proofs.freezing.complete_all.Goals as goal

pub returns-clause-reduced : goal.returns-clause-reduced
returns-clause-reduced g c =
    let s = g.F.Forest.shows c.args.forest.now in
    let refs = c.complete.new.done.refs.keys in
    let nodes = all_slotted c.complete.new.done.nodes.items in
    completed-list s refs nodes c.args.r c.in_ok-complete.field-0
    (subst (λ (old : List (Node Leaf)). IsCompleted s old refs nodes (slot_diagram s c.args.r) c.in_ok-complete.field-0) (ap all_slotted c.new-2.ensures.items) c.in_ok-complete.ensures.ok)
