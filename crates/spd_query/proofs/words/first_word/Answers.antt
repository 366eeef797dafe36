use Rattle.std.proofs.Common.{◌≡◌, ◌∷◌, ℕ, take, drop, sym, ap, ◌∙◌}
use Rattle.spd_query.specs.Lines.{words_of}
use Rattle.spd_query.proofs.WordLaws.{words-first}
use Rattle.spd_query.proofs.words.first_word.Goals as goal

pub returns-clause-words : goal.returns-clause-words
returns-clause-words c =
    let line = c.args.line.now in
    let n = c.word_len.ensures.first in
    let word : take _ line ≡ c.split_at.result.0.now = ap (λ (k : ℕ). take k line) (sym n) ∙ sym c.split_at.ensures.front in
    let rest : drop _ line ≡ c.split_at.result.1.now = ap (λ (k : ℕ). drop k line) (sym n) ∙ sym c.split_at.ensures.back in
    words-first line c.requires.some c.requires.at_word ∙ (λ i. word i ∷ words_of (rest i))
