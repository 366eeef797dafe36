use Rattle.std.proofs.Common.{◌≡◌, ◌++◌, ◌+◌, ◌∷◌, [], ℕ, List, decimal, length, sym, ap, ◌∙◌, take, append_assoc, append-nil, arith}
use Rattle.std.proofs.lemmas.List.{take_all}
use Rattle.spd_model.specs.ResultText.{line, var_name, node_line}
use Rattle.spd_frozen.specs.declared.node.Node.{Node as StoredNode}
use Rattle.spd_frozen.specs.Nodes.{shown, all_shown}
use Rattle.spd_text.specs.inner.Pieces.{leaf_text}
use Rattle.spd_text.proofs.TextLaws.{lines_from, lines-more, lines-split, nodes-whole, heading-is}
use Rattle.spd_text.proofs.WritingLaws.{writes-then, writes-as, writes-exit}
use Rattle.spd_text.proofs.nodes.put_nodes.Goals as goal

pub loop-number-init : goal.loop-number-init
loop-number-init g c =
    let word = c.args.word.now in
    let count : c.as_bytes-count.result.now ≡ decimal (length c.nodes-nodes.result.now) = c.as_bytes-count.ensures.value ∙ c.format.ensures.text in
    writes-as _ _ _ _ _ _ _ (heading-is word c.as_bytes-count.result.now ∙ ap (λ (t : List ℕ). line (word ∷ t ∷ [])) count ∙ sym (append-nil (line (word ∷ decimal (length c.nodes-nodes.result.now) ∷ []))))
    c.in_ok-put_all.ensures

pub loop-number-preserved : goal.loop-number-preserved
loop-number-preserved g c =
    let m = c.args.model.now in
    let items = c.nodes-nodes.result.now in
    let i = c.loop-number.number in
    let node = c.index-nodes-number.result in
    let head = line (c.args.word.now ∷ decimal (length items) ∷ []) in
    let before = lines_from (leaf_text m) (var_name m) 0 (all_shown (take i items)) in
    writes-as _ _ _ _ _ _ _
    (append_assoc head before (node_line (leaf_text m) (var_name m) i (shown node)) ∙ ap (λ (l : List ℕ). head ++ l) (lines-more (leaf_text m) (var_name m) items i node c.loop-number-test.true c.index-nodes-number.is))
    (writes-then _ _ _ _ _ _ _ _ _ _ c.loop-number.invariant c.in_ok-put_node.ensures)

pub returns-in_err-put_all : goal.returns-in_err-put_all
returns-in_err-put_all g c =
    let m = c.args.model.now in
    let word = c.args.word.now in
    let items = c.nodes-nodes.result.now in
    let shown_count = c.as_bytes-count.result.now in
    let count : shown_count ≡ decimal (length items) = c.as_bytes-count.ensures.value ∙ c.format.ensures.text in
    let lines = lines_from (leaf_text m) (var_name m) 0 (all_shown items) in
    writes-exit _ _ _ _ _ (word ++ (32 ∷ (shown_count ++ (10 ∷ [])))) _ lines _ _ c.from_residual.ensures.0
    (nodes-whole (leaf_text m) (var_name m) word items c.args.frozen.now c.nodes-nodes.ensures.nodes
    ∙ ap (λ (t : List ℕ). line (word ∷ t ∷ []) ++ lines) (sym count) ∙ ap (λ (l : List ℕ). l ++ lines) (sym (heading-is word shown_count)))
    c.in_err-put_all.ensures

pub returns-in_err-put_node : goal.returns-in_err-put_node
returns-in_err-put_node g c =
    let m = c.args.model.now in
    let items = c.nodes-nodes.result.now in
    let i = c.loop-number.number in
    let node = c.index-nodes-number.result in
    let head = line (c.args.word.now ∷ decimal (length items) ∷ []) in
    let before = lines_from (leaf_text m) (var_name m) 0 (all_shown (take i items)) in
    let own = node_line (leaf_text m) (var_name m) i (shown node) in
    let split = lines-split (leaf_text m) (var_name m) items (i + 1) (omega (arith, c.loop-number-test.true)) in
    writes-exit _ _ _ _ _ ((head ++ before) ++ own) _ split.0 _ _ c.from_residual-in_err-put_node.ensures.0
    (nodes-whole (leaf_text m) (var_name m) c.args.word.now items c.args.frozen.now c.nodes-nodes.ensures.nodes
    ∙ ap (λ (l : List ℕ). head ++ l) (split.1 ∙ ap (λ (l : List ℕ). l ++ split.0) (sym (lines-more (leaf_text m) (var_name m) items i node c.loop-number-test.true c.index-nodes-number.is)) ∙ append_assoc before own split.0)
    ∙ sym (append_assoc head before (own ++ split.0)) ∙ sym (append_assoc (head ++ before) own split.0))
    (writes-then _ _ _ _ _ _ _ _ _ _ c.loop-number.invariant c.in_err-put_node.ensures)

pub returns : goal.returns
returns g c =
    let m = c.args.model.now in
    let items = c.nodes-nodes.result.now in
    let head = line (c.args.word.now ∷ decimal (length items) ∷ []) in
    writes-as _ _ _ _ _ _ _
    (ap (λ (l : List StoredNode). head ++ lines_from (leaf_text m) (var_name m) 0 (all_shown l)) (take_all c.loop-number.number items c.loop-number-test.false)
    ∙ sym (nodes-whole (leaf_text m) (var_name m) c.args.word.now items c.args.frozen.now c.nodes-nodes.ensures.nodes))
    c.loop-number.invariant
