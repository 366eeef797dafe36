use Rattle.std.proofs.Common.{◌≡◌, ◌++◌, ◌∷◌, ℕ, ap, ◌∙◌}
use Rattle.spd_query.proofs.pair.behind_name.Goals as goal

pub returns-then-same : goal.returns-then-same
returns-then-same c =
    let front : c.split_at.result.0.now ≡ c.args.name.now = c.same.ensures.0 c.if-same.true in
    let rest : c.split_at.result.1.now ≡ 61 ∷ c.in_ok-first.text.now =
    c.in_ok-first.ensures.cases.0 ∙ ap (λ (k : ℕ). k ∷ c.in_ok-first.text.now) c.if-first-eq61.true in
    c.split_at.ensures.by_index.0 ∙ (λ i. front i ++ rest i)
