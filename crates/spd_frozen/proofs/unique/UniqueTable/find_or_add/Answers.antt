use Rattle.std.proofs.Common.{◌≡◌, sym, subst, length, List}
use Rattle.spd_model.specs.Reduced.{Node, with_node, node_number}
use Rattle.spd_nodes.specs.Trees.{leaf_eq}
use Rattle.spd_nodes.specs.declared.leaf.Leaf.{Leaf}
use Rattle.spd_frozen.specs.declared.node.Node.{Node as StoredNode}
use Rattle.spd_frozen.specs.Nodes.{shown, all_shown}
use Rattle.spd_frozen.specs.Frozen.{diagram_of, diagrams}
use Rattle.spd_frozen.specs.inner.Unique.{HasKidsBelow, IsUniqueTable}
use Rattle.spd_frozen.proofs.UniqueLaws.{inserts}
use Rattle.spd_frozen.proofs.unique.UniqueTable.find_or_add.Goals as goal
use Rattle.spd_frozen.proofs.unique.UniqueTable.find_or_add.Goals.{in-Ok, in-Err}

pub invariant_of-self : goal.invariant_of-self
invariant_of-self c =
    let below = subst (λ (nodes : List (Node Leaf)). HasKidsBelow (length nodes) (shown c.args.node)) (sym c.self.view_is) c.requires in
    elim c.match-insert_full.branch [
      | in-Ok w ↦ (inserts c.self.inside.set.keys c.insert_full.new.self.keys c.args.node w.in-Ok.number c.self.invariant below w.in-Ok.ensures.keys w.in-Ok.ensures.index).table
      | in-Err w ↦ (let same : c.insert_full.new.self.keys ≡ c.self.inside.set.keys = w.in-Err.ensures.err in
          subst (λ (keys : List StoredNode). IsUniqueTable (all_shown keys)) (sym same) c.self.invariant)
    ]

pub returns : goal.returns
returns c =
    let below = subst (λ (nodes : List (Node Leaf)). HasKidsBelow (length nodes) (shown c.args.node)) (sym c.self.view_is) c.requires in
    elim c.match-insert_full.branch [
      | in-Ok w ↦ (let i = inserts c.self.inside.set.keys c.insert_full.new.self.keys c.args.node w.in-Ok.number c.self.invariant below w.in-Ok.ensures.keys w.in-Ok.ensures.index in
          rw w.result-is (let P : List (Node Leaf) → Type 0 = λ nodes. (diagrams (all_shown c.insert_full.new.self.keys) ≡ with_node leaf_eq (diagrams nodes) (diagram_of (diagrams nodes) (shown c.args.node)))
          × (w.in-Ok.number ≡ node_number leaf_eq (diagrams (all_shown c.insert_full.new.self.keys)) (diagram_of (diagrams nodes) (shown c.args.node))) in
          let done : P (all_shown c.self.inside.set.keys) = (i.nodes, i.number_is) in subst P c.self.view_is done))
      | in-Err w ↦ rw w.result-is tt
    ]
