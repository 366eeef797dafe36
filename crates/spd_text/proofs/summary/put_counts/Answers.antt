use Rattle.std.proofs.Common.{◌≡◌, length, decimal, ap, sym, ◌∙◌}
use Rattle.std.proofs.lemmas.List.{length-map}
use Rattle.spd_frozen.specs.Nodes.{shown}
use Rattle.spd_text.specs.inner.Parts.{counts_text}
use Rattle.spd_text.proofs.WritingLaws.{writes-as}
use Rattle.spd_text.proofs.summary.put_counts.Goals as goal

pub returns : goal.returns
returns g c =
    let v = c.nodes-value_nodes.result.now in
    let p = c.nodes-policy_nodes.result.now in
    let many : length v ≡ length c.args.value.now = sym (length-map v shown) ∙ ap length c.nodes-value_nodes.ensures.nodes in
    let most : length p ≡ length c.args.policy.now = sym (length-map p shown) ∙ ap length c.nodes-policy_nodes.ensures.nodes in
    let value : c.as_bytes-value_count.result.now ≡ decimal (length c.args.value.now) = c.as_bytes-value_count.ensures.value ∙ c.format.ensures.text ∙ ap decimal many in
    let policy : c.as_bytes-policy_count.result.now ≡ decimal (length c.args.policy.now) = c.as_bytes-policy_count.ensures.value ∙ c.format-2.ensures.text ∙ ap decimal most in
    writes-as _ _ _ _ _ _ _ (λ i. counts_text (value i) (policy i)) c.put_counts_of.ensures
