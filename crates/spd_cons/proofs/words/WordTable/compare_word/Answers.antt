use Rattle.std.proofs.Common.{◌∙◌, ap, sym}
use Rattle.std.proofs.lemmas.Bool.{eqb-true, eqb-false}
use Rattle.spd_cons.specs.declared.view.Size.{Size}
use Rattle.spd_cons.proofs.Comparing.{right-word, wrong-word}
use Rattle.spd_cons.proofs.words.WordTable.compare_word.Goals as goal

pub returns-clause-right : goal.returns-clause-right
returns-clause-right c = λ t. right-word _ _ _ _ _ _ c.requires.at c.requires.four c.load_word-found.ensures.tells (eqb-true _ _ t ∙ c.word-wanted.ensures)

pub returns-clause-wrong : goal.returns-clause-wrong
returns-clause-wrong c = λ f. wrong-word _ _ _ _ _ _ _ c.requires.at (ap (λ (z : Size). z.count) c.requires.own.1) c.load_word-found.ensures.tells (λ z. eqb-false _ _ f (z ∙ sym c.word-wanted.ensures))
