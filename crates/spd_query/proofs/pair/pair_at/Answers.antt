use Rattle.std.proofs.Common.{◌++◌, ◌∷◌, ℕ, List, ap, subst, ◌∙◌, arith}
use Rattle.std.proofs.lemmas.Option.{IfSome_then}
use Rattle.spd_query.specs.inner.Places.{BeginsWithValue}
use Rattle.spd_query.proofs.PairLaws.{pair-begins}
use Rattle.spd_query.proofs.pair.pair_at.Goals as goal

pub returns : goal.returns
returns c =
    let var = c.index-vars-number.result in
    let text = c.in_ok-text.text.now in
    let begins = c.in_ok-text.ensures ∙ ap (λ (l : List ℕ). l ++ 61 ∷ text) c.as_slice.ensures in
    IfSome_then c.value_at.result c.value_at.ensures
    (λ r h. pair-begins c.args.vars.now c.args.line.now text r.1.now c.args.number r.0 var c.requires (omega (arith, c.if-number-vars.false)) c.index-vars-number.is begins
    (subst (λ (values : List (List ℕ)). BeginsWithValue values text r.0 r.1.now) c.as_slice-2.ensures h))
