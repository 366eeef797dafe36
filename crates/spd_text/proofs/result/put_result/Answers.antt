use Rattle.std.proofs.Common.{◌++◌, ◌∷◌, [], codes, sym, ◌∙◌, append_assoc}
use Rattle.hex.specs.Hex.{encode_lower}
use Rattle.spd_model.specs.ResultText.{line, nodes_text, var_name}
use Rattle.spd_model.proofs.CallerLemmas.StateOrder.{length-IsState, length-sizes}
use Rattle.spd_model.specs.States.{sizes}
use Rattle.spd_text.specs.inner.Pieces.{leaf_text}
use Rattle.spd_text.specs.inner.Parts.{title_text, top_text}
use Rattle.spd_text.proofs.TextLaws.{whole-is}
use Rattle.spd_text.proofs.WritingLaws.{writes-then, writes-as, writes-exit}
use Rattle.spd_text.proofs.result.put_result.Goals as goal

pub put_top-requires : goal.put_top-requires
put_top-requires g c = length-IsState (sizes c.args.model.now) c.args.iterate.now.residual.at c.requires.state ∙ length-sizes c.args.model.now

pub returns-in_err-put_title : goal.returns-in_err-put_title
returns-in_err-put_title g c =
    let m = c.args.model.now in
    let x = c.args.iterate.now in
    let title = title_text (encode_lower c.args.digest.now) in
    let top = top_text m c.args.why x in
    let value = nodes_text (leaf_text m) (var_name m) (codes "value") x.value in
    let policy = nodes_text (leaf_text m) (var_name m) (codes "policy") x.policy in
    let last = line (codes "end" ∷ []) in
    writes-exit _ _ _ _ _ title _ (top ++ (value ++ (policy ++ last))) _ _ c.from_residual.ensures.0
    (sym (whole-is c.args.digest.now m c.args.why x c.requires)
    ∙ append_assoc ((title ++ top) ++ value) policy last ∙ append_assoc (title ++ top) value (policy ++ last) ∙ append_assoc title top (value ++ (policy ++ last))) c.in_err-put_title.ensures

pub returns-in_err-put_top : goal.returns-in_err-put_top
returns-in_err-put_top g c =
    let m = c.args.model.now in
    let x = c.args.iterate.now in
    let before = title_text (encode_lower c.args.digest.now) ++ top_text m c.args.why x in
    let value = nodes_text (leaf_text m) (var_name m) (codes "value") x.value in
    let policy = nodes_text (leaf_text m) (var_name m) (codes "policy") x.policy in
    let last = line (codes "end" ∷ []) in
    writes-exit _ _ _ _ _ before _ (value ++ (policy ++ last)) _ _ c.from_residual-in_err-put_top.ensures.0
    (sym (whole-is c.args.digest.now m c.args.why x c.requires) ∙ append_assoc (before ++ value) policy last ∙ append_assoc before value (policy ++ last))
    (writes-then _ _ _ _ _ _ _ _ _ _ c.in_ok-put_title.ensures c.in_err-put_top.ensures)

pub returns-in_err-put_nodes : goal.returns-in_err-put_nodes
returns-in_err-put_nodes g c =
    let m = c.args.model.now in
    let x = c.args.iterate.now in
    let before = title_text (encode_lower c.args.digest.now) ++ top_text m c.args.why x in
    let value = nodes_text (leaf_text m) (var_name m) (codes "value") x.value in
    let policy = nodes_text (leaf_text m) (var_name m) (codes "policy") x.policy in
    let last = line (codes "end" ∷ []) in
    writes-exit _ _ _ _ _ (before ++ value) _ (policy ++ last) _ _ c.from_residual-in_err-put_nodes.ensures.0
    (sym (whole-is c.args.digest.now m c.args.why x c.requires) ∙ append_assoc (before ++ value) policy last)
    (writes-then _ _ _ _ _ _ _ _ _ _ (writes-then _ _ _ _ _ _ _ _ _ _ c.in_ok-put_title.ensures c.in_ok-put_top.ensures) c.in_err-put_nodes.ensures)

pub returns-in_err-put_nodes-2 : goal.returns-in_err-put_nodes-2
returns-in_err-put_nodes-2 g c =
    let m = c.args.model.now in
    let x = c.args.iterate.now in
    let before = title_text (encode_lower c.args.digest.now) ++ top_text m c.args.why x in
    let value = nodes_text (leaf_text m) (var_name m) (codes "value") x.value in
    let policy = nodes_text (leaf_text m) (var_name m) (codes "policy") x.policy in
    writes-exit _ _ _ _ _ ((before ++ value) ++ policy) _ (line (codes "end" ∷ [])) _ _ c.from_residual-in_err-put_nodes-2.ensures.0
    (sym (whole-is c.args.digest.now m c.args.why x c.requires))
    (writes-then _ _ _ _ _ _ _ _ _ _
    (writes-then _ _ _ _ _ _ _ _ _ _ (writes-then _ _ _ _ _ _ _ _ _ _ c.in_ok-put_title.ensures c.in_ok-put_top.ensures) c.in_ok-put_nodes.ensures)
    c.in_err-put_nodes-2.ensures)

pub returns : goal.returns
returns g c =
    writes-as _ _ _ _ _ _ _ (whole-is c.args.digest.now c.args.model.now c.args.why c.args.iterate.now c.requires)
    (writes-then _ _ _ _ _ _ _ _ _ _
    (writes-then _ _ _ _ _ _ _ _ _ _
    (writes-then _ _ _ _ _ _ _ _ _ _ (writes-then _ _ _ _ _ _ _ _ _ _ c.in_ok-put_title.ensures c.in_ok-put_top.ensures) c.in_ok-put_nodes.ensures)
    c.in_ok-put_nodes-2.ensures)
    c.put.ensures)
