use Rattle.std.proofs.Common.{◌≡◌, rules, ap, ◌∙◌, List, map}
use Rattle.std.specs.Prelude.{IfOk}
use Rattle.std.proofs.lemmas.Result.{IfOk-weaker}
use Rattle.spd_model.specs.Reduced.{Node, node_of}
use Rattle.spd_nodes.specs.Trees.{leaf_eq}
use Rattle.spd_nodes.specs.declared.leaf.Leaf.{Leaf}
use Rattle.spd_frozen.specs.Nodes.{all_shown}
use Rattle.spd_frozen.specs.Frozen.{diagrams}
use Rattle.spd_frozen.proofs.UniqueLaws.{nodes-back}
use Rattle.spd_frozen.proofs.unique.UniqueTable.into_nodes.Goals as goal

pub returns : goal.returns
returns c =
    let all : IfOk c.collect.result (λ v. v.items ≡ c.self.inside.set.keys) = search rules in
    IfOk-weaker c.collect.result (λ v. v.items ≡ c.self.inside.set.keys) (λ v. all_shown v.items ≡ map (node_of leaf_eq (diagrams c.args.self)) (diagrams c.args.self))
    (λ v e. ap all_shown e ∙ nodes-back (all_shown c.self.inside.set.keys) c.self.invariant
    ∙ ap (λ (nodes : List (Node Leaf)). map (node_of leaf_eq (diagrams nodes)) (diagrams nodes)) c.self.view_is)
    all
