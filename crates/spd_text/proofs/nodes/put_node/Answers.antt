use Rattle.std.proofs.Common.{◌≡◌, ◌∷◌, [], List, ℕ, codes, map, decimal, sym, ap, ◌∙◌}
use Rattle.spd_model.specs.ResultText.{line, node_line, var_name}
use Rattle.spd_frozen.specs.declared.node.Node.{Node as StoredNode}
use Rattle.spd_frozen.specs.Nodes.{shown}
use Rattle.spd_text.specs.inner.Pieces.{leaf_text}
use Rattle.spd_text.proofs.WritingLaws.{writes-as}
use Rattle.spd_text.proofs.nodes.put_node.Goals as goal

pub returns-in-Leaf : goal.returns-in-Leaf
returns-in-Leaf g c =
    let m = c.args.model.now in
    let number : c.as_bytes-number.result.now ≡ decimal c.args.number = c.as_bytes-number.ensures.value ∙ c.format.ensures.text in
    writes-as _ _ _ _ _ _ _
    (ap (λ (t : List ℕ). line (t ∷ codes "leaf" ∷ leaf_text m c.in-Leaf.leaf ∷ [])) number
    ∙ sym (ap (λ (n : StoredNode). node_line (leaf_text m) (var_name m) c.args.number (shown n)) c.in-Leaf.is))
    c.put_leaf.ensures

pub returns-in-Branch : goal.returns-in-Branch
returns-in-Branch g c =
    let m = c.args.model.now in
    let number : c.as_bytes-number.result.now ≡ decimal c.args.number = c.as_bytes-number.ensures.value ∙ c.format.ensures.text in
    let name : c.var_name.result.now ≡ var_name m c.in-Branch.var = c.var_name.ensures in
    let kids : c.deref.result.now ≡ c.in-Branch.kids.items = c.deref.ensures.value in
    let same : line (c.as_bytes-number.result.now ∷ codes "branch" ∷ c.var_name.result.now ∷ map decimal c.deref.result.now)
    ≡ line (decimal c.args.number ∷ codes "branch" ∷ var_name m c.in-Branch.var ∷ map decimal c.in-Branch.kids.items) =
    λ i. line (number i ∷ codes "branch" ∷ name i ∷ map decimal (kids i)) in
    writes-as _ _ _ _ _ _ _ (same ∙ sym (ap (λ (n : StoredNode). node_line (leaf_text m) (var_name m) c.args.number (shown n)) c.in-Branch.is)) c.put_branch.ensures
