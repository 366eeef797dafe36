use Rattle.std.specs.Prelude.{FitsSigned}
use Rattle.std.specs.Int.{w128}
use Rattle.spd_text.proofs.TextLaws.{number-is}
use Rattle.std.proofs.Common.{rules, take, ◌∷◌, [], List, ℕ, codes, sym, ap, ◌∙◌}
use Rattle.spd_model.specs.ResultText.{line}
use Rattle.spd_text.specs.inner.Pieces.{leaf_text}
use Rattle.spd_text.proofs.WritingLaws.{writes-as}
use Rattle.spd_text.proofs.nodes.put_leaf.Goals as goal

pub returns-in-Num : goal.returns-in-Num
returns-in-Num g c =
    let fits : FitsSigned w128 c.in-Num.n = search rules in
    let text = number-is c.in-Num.n (take c.put_units-len.result c.put_units-len.new.buf) fits c.put_units-len.ensures.text in
    writes-as _ _ _ _ _ _ _ (ap (λ (t : List ℕ). line (c.args.number.now ∷ codes "leaf" ∷ t ∷ [])) (text ∙ sym (ap (leaf_text c.args.model.now) c.in-Num.is))) c.put_leaf_text.ensures

pub returns-in-Pair : goal.returns-in-Pair
returns-in-Pair g c =
    writes-as _ _ _ _ _ _ _ (ap (λ (t : List ℕ). line (c.args.number.now ∷ codes "leaf" ∷ t ∷ [])) (sym (ap (leaf_text c.args.model.now) c.in-Pair.is))) c.put_leaf_text-in-Pair.ensures

pub returns-in-Act : goal.returns-in-Act
returns-in-Act g c =
    writes-as _ _ _ _ _ _ _ (ap (λ (t : List ℕ). line (c.args.number.now ∷ codes "leaf" ∷ t ∷ [])) (c.action_name.ensures ∙ sym (ap (leaf_text c.args.model.now) c.in-Act.is))) c.put_leaf_text-in-Act.ensures
