use Rattle.std.proofs.Common.{◌∙◌, sym}
use Rattle.std.proofs.lemmas.Bool.{true≢false}
use Rattle.spd_cons.proofs.Comparing.{compares-from}
use Rattle.spd_cons.proofs.words.WordTable.compare.Goals as goal

pub returns-then-not-compare_word-clause-compares : goal.returns-then-not-compare_word-clause-compares
returns-then-not-compare_word-clause-compares c =
    compares-from _ _ _ _ _ _ _ c.loop-word.invariant.3 (λ none. sym c.loop-word.invariant.4 ∙ none)
    (record { same = λ t. absurd (true≢false (sym t)); published = λ t. absurd (true≢false (sym t)); other = λ f. c.compare_word.ensures.wrong c.if-not-compare_word.true })

pub returns-clause-compares : goal.returns-clause-compares
returns-clause-compares c = compares-from _ _ _ _ _ _ _ c.loop-word.invariant.3 (λ none. sym c.loop-word.invariant.4 ∙ none) c.compare_last.ensures.compares
