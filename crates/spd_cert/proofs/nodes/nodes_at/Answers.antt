use Rattle.std.proofs.Common.{◌≡◌, ◌++◌, ◌∷◌, ◌-◌, ◌+◌, [], List, length-append, Ok, ap, subst, ◌∙◌, arith}
use Rattle.std.proofs.lemmas.Result.{err_from_is_err_and}
use Rattle.std.proofs.lemmas.List.{map_push}
use Rattle.spd_model.specs.Reduced.{Node}
use Rattle.spd_nodes.specs.declared.leaf.Leaf.{Leaf}
use Rattle.spd_frozen.specs.declared.node.Node.{Node as StoredNode}
use Rattle.spd_frozen.specs.Nodes.{shown, all_shown}
use Rattle.spd_cert.specs.Reading.{Fails, node_at, nodes_at}
use Rattle.spd_cert.proofs.Loops.{node_goes_on, node_stops, nodes_done}
use Rattle.spd_cert.proofs.nodes.nodes_at.Goals as goal

pub returns-in_err-node : goal.returns-in_err-node
returns-in_err-node c =
    let p = err_from_is_err_and c.from_residual-in_err-node.result c.from_residual-in_err-node.ensures.1 in
    let stopped =
    subst (λ (l : List StoredNode). Fails c.in_err-node.field-0.0 (node_at c.args.model.now c.args.part (all_shown l) c.loop.rest.now)) c.as_slice.ensures.value c.in_err-node.ensures in
    rw (p.1, p.2) (
    node_stops c.args.model.now c.args.part c.args.count c.loop.counter (all_shown c.loop.nodes.items) c.loop.rest.now (nodes_at c.args.model.now c.args.part c.args.count [] c.args.bytes.now) c.loop.invariant.told
    c.in_err-node.field-0.0 c.loop-test.true stopped
    )

pub loop-preserved : goal.loop-preserved
loop-preserved c =
    let n = c.in_ok-node.node in
    let pushed : all_shown c.push.new.self.items ≡ all_shown c.loop.nodes.items ++ shown n ∷ [] = rw c.in_ok-push.ensures.items (map_push shown c.loop.nodes.items n) in
    let read =
    subst (λ (l : List StoredNode). node_at c.args.model.now c.args.part (all_shown l) c.loop.rest.now ≡ Ok (shown n, c.in_ok-node.behind.now)) c.as_slice.ensures.value c.in_ok-node.ensures in
    record {
      told = ap (λ (l : List (Node Leaf)). nodes_at c.args.model.now c.args.part (c.args.count - (c.loop.counter + 1)) l c.in_ok-node.behind.now) pushed
          ∙ node_goes_on c.args.model.now c.args.part c.args.count c.loop.counter (all_shown c.loop.nodes.items) c.loop.rest.now (nodes_at c.args.model.now c.args.part c.args.count [] c.args.bytes.now) c.loop.invariant.told
          (shown n) c.in_ok-node.behind.now c.loop-test.true read;
      long = rw c.in_ok-push.ensures.items (omega (arith, c.loop.invariant.long, length-append c.loop.nodes.items (n ∷ [])));
    }

pub returns : goal.returns
returns c =
    nodes_done c.args.model.now c.args.part c.args.count c.loop.counter (all_shown c.loop.nodes.items) c.loop.rest.now (nodes_at c.args.model.now c.args.part c.args.count [] c.args.bytes.now) c.loop.invariant.told c.loop-test.false
