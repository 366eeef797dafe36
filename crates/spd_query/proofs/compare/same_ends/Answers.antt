use Rattle.std.proofs.Common.{◌≡◌, ℕ, ◌-◌, ◌≤◌, List, ◌++◌, length, take, drop, sym, ap, ◌∙◌, arith}
use Rattle.std.proofs.lemmas.Bool.{true≢false}
use Rattle.std.proofs.lemmas.List.{take-take, take-append-drop, take_all}
use Rattle.spd_query.proofs.compare.same_ends.Goals as goal

-- two texts are the same that begin with the same n bytes and have the same bytes from a place on that isn't behind these
ends-meet : (a b : List ℕ) (n at : ℕ) → at ≤ n → take n a ≡ take n b → drop at a ≡ drop at b → a ≡ b
ends-meet a b n at meet fronts backs =
    let before : take at a ≡ take at b = sym (take-take at n a meet) ∙ ap (take at) fronts ∙ take-take at n b meet in
    sym (take-append-drop at a) ∙ (λ i. before i ++ backs i) ∙ take-append-drop at b

pub returns-then-not-same_front : goal.returns-then-not-same_front
returns-then-not-same_front g c =
    (λ e. absurd (true≢false (sym e)), λ same. absurd (true≢false (sym (c.same_front.ensures.1 (ap (take g.row.N) same)) ∙ c.if-not-same_front.true)))

pub returns : goal.returns
returns g c =
    let a = c.args.a.now in
    let b = c.args.b.now in
    let n = g.row.N in
    let at = length a - n in
    let last_a : take n c.split_at.result.1.now ≡ drop at a = take_all n c.split_at.result.1.now (omega (arith, c.split_at.ensures.back_len)) ∙ c.split_at.ensures.back in
    let last_b : take n c.split_at-2.result.1.now ≡ drop at b = take_all n c.split_at-2.result.1.now (omega (arith, c.split_at-2.ensures.back_len)) ∙ c.split_at-2.ensures.back in (
      λ e. ends-meet a b n at (omega arith) (c.same_front.ensures.0 c.if-not-same_front.false) (sym last_a ∙ c.same_front-2.ensures.0 e ∙ last_b),
      λ same. c.same_front-2.ensures.1 (last_a ∙ ap (drop at) same ∙ sym last_b),
    )
